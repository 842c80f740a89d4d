-- What the lists of a request ask for, OPC 10000-4, 5.5.2 and 5.5.4.
use Rattle.std.specs.Prelude.{ℕ, Bool, true, false, List, [], ◌∷◌, Option, Some, None}
use Rattle.std.specs.Str.{bytes_eq}
use Rattle.std.specs.List.{list_any}

-- texts are compared as values; null equals null alone
abbrev pub same_text : Option (List ℕ) → Option (List ℕ) → Bool
same_text None None = true
same_text None (Some b) = false
same_text (Some a) None = false
same_text (Some a) (Some b) = bytes_eq a b

abbrev pub is_among : Option (List ℕ) → List (Option (List ℕ)) → Bool
is_among text texts = list_any (same_text text) texts

-- a null or empty filter asks for all
abbrev pub is_asked : Option (List (Option (List ℕ))) → Option (List ℕ) → Bool
is_asked None text = true
is_asked (Some []) text = true
is_asked (Some (t ∷ ts)) text = is_among text (t ∷ ts)
