-- The laws of spellings, each by itself.
use Rattle.std.proofs.Common.{◌≡◌, ◌≤◌, List, ℕ, [], ◌++◌, length, Some, refl, sym, ◌∙◌}
use Rattle.std.proofs.lemmas.List.{append-nil, append_cancel_left}
use Rattle.ua_value.specs.Format.{Grammar, Format, IsGrammar, IsLawful}
use Rattle.ua_value.specs.FormatLaws.{unique}

-- no spelling begins another one
abbrev pub BeginsNoOther : {V : Type 0} → Grammar V → Type 0
BeginsNoOther {V} g = (v w : V) (a more : List ℕ) → g.spells v a → g.spells w (a ++ more) → more ≡ []

-- a spelling has one value
abbrev pub HasOneValue : {V : Type 0} → Grammar V → Type 0
HasOneValue {V} g = (v w : V) (a : List ℕ) → g.spells v a → g.spells w a → v ≡ w

-- every spelling has a byte
abbrev pub HasBytes : {V : Type 0} → Grammar V → Type 0
HasBytes {V} g = (v : V) (a : List ℕ) → g.spells v a → 1 ≤ length a

-- what is written is a spelling of the value
abbrev pub IsCanonical : {V : Type 0} → Format V → Type 0
IsCanonical {V} f = (v : V) → f.IsValue v → f.grammar.spells v (f.canon v)

-- no spelling of a value is shorter than what is written
abbrev pub IsShortest : {V : Type 0} → Format V → Type 0
IsShortest {V} f = (v : V) (a : List ℕ) → f.grammar.spells v a → length (f.canon v) ≤ length a

-- what is written reads as the value, whatever follows it
abbrev pub ReadsBack : {V : Type 0} → Format V → Type 0
ReadsBack {V} f = (v : V) (rest : List ℕ) → f.IsValue v → f.grammar.front (f.canon v ++ rest) ≡ Some (v, rest)

pub no_other : {V : Type 0} (g : Grammar V) → IsGrammar g → BeginsNoOther g
no_other g law v w a more s t =
    let one = unique g law v w a (a ++ more) more [] s t (sym (append-nil (a ++ more))) in
    append_cancel_left a more [] (sym one.1 ∙ sym (append-nil a))

pub one_value : {V : Type 0} (g : Grammar V) → IsGrammar g → HasOneValue g
one_value g law v w a s t = (unique g law v w a a [] [] s t refl).0

pub reads_back : {V : Type 0} (f : Format V) → IsLawful f → ReadsBack f
reads_back f law v rest h = law.reads.again v (f.canon v) rest (law.canonical v h)
