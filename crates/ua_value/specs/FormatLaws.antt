-- What the laws of a format say of all spellings.
use Rattle.std.proofs.Common.{◌≡◌, ◌≤◌, ◌-◌, ◌+◌, ℕ, List, ◌++◌, length, take, Some, None, Ok, Err, sym, ap, ◌∙◌, arith}
use Rattle.std.proofs.lemmas.List.{take_at, length-append, append_cancel_right, length-take}
use Rattle.ua_value.specs.declared.fault.ReadFault.{ReadFault}
use Rattle.ua_value.specs.declared.fault.ReadFault.TheVariants.{Refused, NoMemory}
use Rattle.ua_value.specs.Format.{IsBytes, Grammar, Format, IsGrammar, IsLawful, IsDistinct, BeginsNone, Reads, Fails, input_limit}
use Rattle.ua_value.specs.Lists.{same_pair, IsBytes-rest}

pub unique : {V : Type 0} (g : Grammar V) → IsGrammar g → IsDistinct g
unique g law v w a b x y s t e =
    let one = same_pair v w x y (sym (law.again v a x s) ∙ ap g.front e ∙ law.again w b y t) in
    (one.0, append_cancel_right a b y (ap (λ (l : List ℕ). a ++ l) (sym one.1) ∙ e))

pub none_begins : {V : Type 0} (g : Grammar V) → IsGrammar g → (input : List ℕ) → g.front input ≡ None → BeginsNone g input
none_begins g law input e v a rest s is = absurd (let h = sym e ∙ ap g.front is ∙ law.again v a rest s in cc)

pub refused : {V : Type 0} (f : Format V) → IsLawful f → (input : List ℕ) (e : ReadFault) → Fails e (f.grammar.front input) → Reads f input (Err e)
refused f law input Refused h = none_begins f.grammar law.reads input h
refused f law input NoMemory h = tt

-- how many bytes are taken from the front
pub begins_with : {V : Type 0} (g : Grammar V) → IsGrammar g → (input : List ℕ) (v : V) (rest : List ℕ) → IsBytes input → g.front input ≡ Some (v, rest)
    → (length rest ≤ length input) × g.spells v (take (length input - length rest) input)
begins_with g law input v rest fits e =
    let t = law.takes input v rest fits e in
    let len : length input ≡ length t.text + length rest = ap length t.parts ∙ length-append t.text rest in
    let front : take (length input - length rest) input ≡ t.text = ap (take (length input - length rest)) t.parts ∙ take_at t.text rest (length input - length rest) (omega arith) in
    (omega arith, rw front t.spelled)

pub found : {V : Type 0} (f : Format V) → IsLawful f → (input : List ℕ) (v : V) (rest : List ℕ) → length input ≤ input_limit → IsBytes input → f.grammar.front input ≡ Some (v, rest)
    → Reads f input (Ok (v, length input - length rest))
found f law input v rest short fits e =
    let b = begins_with f.grammar law.reads input v rest fits e in
    (omega arith, b.1, law.a_value v (take (length input - length rest) input) b.1 (omega (arith, length-take (length input - length rest) input)))

pub rest_fits : {V : Type 0} (g : Grammar V) → IsGrammar g → (input : List ℕ) (v : V) (rest : List ℕ) → IsBytes input → g.front input ≡ Some (v, rest) → IsBytes rest
rest_fits g law input v rest fits e = let t = law.takes input v rest fits e in IsBytes-rest input t.text rest fits t.parts
