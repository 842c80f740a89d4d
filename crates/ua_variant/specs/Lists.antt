-- The elements of an array, as a list.
use Rattle.std.specs.Prelude.{ℕ, ◌≤◌, ◌++◌, List, length, Option, Some, None}
use Rattle.std.specs.Int.{w32, to_le_bytes}
use Rattle.ua_value.specs.Format.{input_limit}
use Rattle.ua_value.specs.Text as text
use Rattle.ua_value.specs.Text.{longest}
use Rattle.ua_variant.specs.Values.{Element, items_of}
use Rattle.ua_variant.specs.Spelling.{items_canon}

-- the canonical spellings of elements, one after another
abbrev pub canon_of_items : List Element → List ℕ
canon_of_items es = items_canon (items_of es)

-- the count and the elements of an array
abbrev pub canon_of_list : Option (List Element) → List ℕ
canon_of_list None = text.null
canon_of_list (Some es) = to_le_bytes w32 (length es) ++ canon_of_items es

-- as many elements as an array may have, with as many bytes as theirs may have together
abbrev pub IsShortList : Option (List Element) → Type 0
IsShortList None = Unit {0}
IsShortList (Some es) = (length es ≤ longest) × (length (canon_of_items es) ≤ input_limit)
