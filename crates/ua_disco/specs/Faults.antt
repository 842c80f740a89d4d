-- The first fault of settings, and what a reader of settings may give.
use Rattle.std.specs.Prelude.{◌≡◌, ℕ, List, Result, Ok, Err, string_bytes}
use Rattle.ua_disco.specs.declared.fault.SettingsFault.{SettingsFault}
use Rattle.ua_disco.specs.declared.fault.SettingsFault.TheVariants.{NotToml, Missing, WrongKind, BadValue, UnknownKey, NoMemory}

-- each but the first with the path of its key
pub data Fault : Type 0 where
  not_toml : Fault
  missing : List ℕ → Fault
  wrong_kind : List ℕ → Fault
  bad_value : List ℕ → Fault
  unknown_key : List ℕ → Fault

-- the error says the fault, or want of memory
abbrev pub IsFault : SettingsFault → Fault → Type 0
IsFault NotToml f = f ≡ not_toml
IsFault (Missing k) f = f ≡ missing (string_bytes k)
IsFault (WrongKind k) f = f ≡ wrong_kind (string_bytes k)
IsFault (BadValue k) f = f ≡ bad_value (string_bytes k)
IsFault (UnknownKey k) f = f ≡ unknown_key (string_bytes k)
IsFault NoMemory f = Unit {0}

-- the rule gives the fault that the error says; want of memory says none
abbrev pub Fails : {B : Type 0} → SettingsFault → Result B Fault → Type 0
Fails NotToml rule = rule ≡ Err not_toml
Fails (Missing k) rule = rule ≡ Err (missing (string_bytes k))
Fails (WrongKind k) rule = rule ≡ Err (wrong_kind (string_bytes k))
Fails (BadValue k) rule = rule ≡ Err (bad_value (string_bytes k))
Fails (UnknownKey k) rule = rule ≡ Err (unknown_key (string_bytes k))
Fails NoMemory rule = Unit {0}

-- the answer is what the rule gives, or want of memory
abbrev pub Gives : {A B : Type 0} → (A → B) → Result B Fault → Result A SettingsFault → Type 0
Gives seen rule (Ok a) = rule ≡ Ok (seen a)
Gives seen rule (Err e) = Fails e rule

-- the first fault, or the next step
abbrev pub next : {A B : Type 0} → Result A Fault → (A → Result B Fault) → Result B Fault
next (Ok a) f = f a
next (Err e) f = Err e
