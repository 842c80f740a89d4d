-- Texts in a language (OPC 10000-6, 5.2.2.14): a byte says which parts follow.
use Rattle.std.specs.Prelude.{ℕ, ◌+◌, ◌==◌, Bool, true, false, List, [], ◌∷◌, ◌++◌, Option, Some, None, cond, not, nat_lt, bit_and}
use Rattle.ua_value.specs.declared.localized.LocalizedText.{LocalizedText}
use Rattle.ua_value.specs.Format.{Grammar, Format}
use Rattle.ua_value.specs.Text.{string}
use Rattle.ua_value.specs.Sequence.{both, made, never, either, part, headed}

-- the bit is set in the mask
abbrev pub has : ℕ → ℕ → Bool
has mask bit = not (bit_and mask bit == 0)

abbrev pub localized_of : Option (List ℕ) × Option (List ℕ) → LocalizedText
localized_of p = record { locale = p.0; text = p.1 }

-- a mask of two bits, and a part for each that is set; a flagged null reads as absent
abbrev pub localized_behind : ℕ → Grammar LocalizedText
localized_behind mask = either (nat_lt mask 4) (made localized_of (both (part (has mask 1) None string.grammar) (part (has mask 2) None string.grammar))) never

abbrev pub is_there : Option (List ℕ) → Bool
is_there None = false
is_there (Some v) = true

abbrev pub canon_part : Option (List ℕ) → List ℕ
canon_part None = []
canon_part (Some v) = string.canon (Some v)

abbrev pub flag : Bool → ℕ → ℕ
flag b bit = cond b bit 0

unfoldable pub localized_text : Format LocalizedText
localized_text = record {
  grammar = headed localized_behind;
  canon = λ v. (flag (is_there v.locale) 1 + flag (is_there v.text) 2) ∷ (canon_part v.locale ++ canon_part v.text);
  IsValue = λ v. string.IsValue v.locale × string.IsValue v.text;
}
