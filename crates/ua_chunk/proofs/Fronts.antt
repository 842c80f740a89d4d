-- What a look at the front of bytes says of the front.
use Rattle.std.proofs.Common.{◌≡◌, ℕ, List, take, drop, Option, Some, None, refl, sym, ap, ◌∙◌, take-append-drop}
use Rattle.ua_value.specs.Format.{IsBytes, Format, IsLawful, BeginsNone}

pub front_none : {V : Type 0} (f : Format V) → IsLawful f → (input : List ℕ) → IsBytes input → BeginsNone f.grammar input → None ≡ f.grammar.front input
front_none {V} f law input fits none = by (f.grammar.front input) refl
  where
    by : (r : Option (V × List ℕ)) → f.grammar.front input ≡ r → None ≡ r
    by None e = refl
    by (Some x) e = let t = law.reads.takes input x.0 x.1 fits e in absurd (none x.0 t.text x.1 t.spelled t.parts)

pub front_some : {V : Type 0} (f : Format V) → IsLawful f → (input : List ℕ) (v : V) (n : ℕ) → f.grammar.spells v (take n input) → let r : Option (V × List ℕ) = Some (v, drop n input) in r ≡ f.grammar.front input
front_some f law input v n s = sym (ap f.grammar.front (sym (take-append-drop n input)) ∙ law.reads.again v (take n input) (drop n input) s)
