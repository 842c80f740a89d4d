-- A server that opens the connection itself, and why one can't.
use Rattle.std.specs.Prelude.{◌≡◌, ℕ, Bool, true, Some, None}
use Rattle.ua_disco.specs.Configuration.{Configuration}
use Rattle.ua_conn.specs.server.Greeting.{reverse_fault}
use Rattle.ua_conn.specs.declared.server.greeting.ReverseFault.{ReverseFault}
use Rattle.ua_conn.specs.declared.server.greeting.ReverseFault.TheVariants.{NoEndpoint, TooLarge, NoMemory}

-- the number of a reason, as it is printed
abbrev pub reverse_number : ReverseFault → ℕ
reverse_number NoEndpoint = 1
reverse_number TooLarge = 2
reverse_number NoMemory = 3

-- Where a server opens the connection, these settings let it.
abbrev pub CanOpen : Bool → Configuration → Type 0
CanOpen reverse settings = reverse ≡ true → reverse_fault settings ≡ None

-- It is to open one, and these settings do not let it, for this reason.
abbrev pub CannotOpen : Bool → Configuration → ReverseFault → Type 0
CannotOpen reverse settings fault = (reverse ≡ true) × (reverse_fault settings ≡ Some fault)

-- that reason, or want of memory
abbrev pub IsReverseFault : Bool → Configuration → ReverseFault → Type 0
IsReverseFault reverse settings NoEndpoint = CannotOpen reverse settings NoEndpoint
IsReverseFault reverse settings TooLarge = CannotOpen reverse settings TooLarge
IsReverseFault reverse settings NoMemory = Unit {0}
