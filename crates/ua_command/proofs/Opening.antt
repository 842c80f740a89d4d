-- What the calls of a server that opens the connection say of its settings.
use Rattle.std.proofs.Common.{◌≡◌, ◌↔◌, ℕ, Bool, true, false, List, length, Option, Some, None, Result, Ok, Err, IfOk, IfErr, IsErrOf, refl}
use Rattle.std.specs.Prelude.{nat_lt, if◌then◌else◌}
use Rattle.ua_frame.specs.Hello.{reverse_hello_frame}
use Rattle.ua_disco.specs.Configuration.{Configuration}
use Rattle.ua_disco.specs.Settings.{first_url_of}
use Rattle.ua_conn.specs.server.Greeting.{reverse_hello_by, reverse_fault_at, reverse_fault}
use Rattle.ua_conn.specs.declared.server.greeting.ReverseFault.{ReverseFault}
use Rattle.ua_conn.specs.declared.server.greeting.ReverseFault.TheVariants.{NoEndpoint, TooLarge, NoMemory}
use Rattle.ua_command.specs.Reverse.{CanOpen, IsReverseFault}

abbrev large_if : Bool → Option ReverseFault
large_if b = if b then Some TooLarge else None

not_large : (b : Bool) → (large_if b ≡ Some TooLarge → ⊥) → large_if b ≡ None
not_large true h = absurd (h refl)
not_large false h = refl

-- two reasons there are, and where neither holds there is none
none_at : (settings : Configuration) (url : Option (Option (List ℕ))) → (reverse_fault_at settings url ≡ Some NoEndpoint → ⊥) → (reverse_fault_at settings url ≡ Some TooLarge → ⊥) → reverse_fault_at settings url ≡ None
none_at settings None no_endpoint too_large = absurd (no_endpoint refl)
none_at settings (Some url) no_endpoint too_large = not_large (nat_lt 8192 (length (reverse_hello_frame (reverse_hello_by settings url)))) too_large

-- where the call succeeds, they let a server open the connection
pub opened : {T : Type 0} (reverse : Bool) (settings : Configuration) (r : Result T ReverseFault) → (IsErrOf r NoEndpoint ↔ (reverse_fault settings ≡ Some NoEndpoint)) → (IsErrOf r TooLarge ↔ (reverse_fault settings ≡ Some TooLarge))
    → IfOk r (λ _. CanOpen reverse settings)
opened reverse settings (Ok x) no_endpoint too_large = λ _. none_at settings (first_url_of settings.endpoints) (λ h. let e = no_endpoint.1 h in absurd cc) (λ h. let e = too_large.1 h in absurd cc)
opened reverse settings (Err fault) no_endpoint too_large = tt

-- where it fails, its reason is theirs, or want of memory
pub unopened : {T : Type 0} (reverse : Bool) (settings : Configuration) (r : Result T ReverseFault) → reverse ≡ true → (IsErrOf r NoEndpoint ↔ (reverse_fault settings ≡ Some NoEndpoint)) → (IsErrOf r TooLarge ↔ (reverse_fault settings ≡ Some TooLarge))
    → IfErr r (IsReverseFault reverse settings)
unopened reverse settings (Ok x) on no_endpoint too_large = tt
unopened reverse settings (Err NoEndpoint) on no_endpoint too_large = (on, no_endpoint.0 refl)
unopened reverse settings (Err TooLarge) on no_endpoint too_large = (on, too_large.0 refl)
unopened reverse settings (Err NoMemory) on no_endpoint too_large = tt
