-- Texts, each once.
use Rattle.std.specs.Prelude.{◌≡◌, ◌||◌, ℕ, Bool, List, Option, Some, None}
use Rattle.std.specs.BTreeSet.{contains_text}
use Rattle.ua_choice.specs.declared.index.Index.{Index}
use Rattle.ua_choice.specs.Choosing.{same_text}

-- whether the index has the text
abbrev pub is_indexed : Option (List ℕ) → Index → Bool
is_indexed None index = index.has_null
is_indexed (Some text) index = contains_text index.texts text

-- the texts of `new` are those of `old`, and this one
abbrev pub IndexesOne : Option (List ℕ) → Index → Index → Type 0
IndexesOne text old new = (other : Option (List ℕ)) → is_indexed other new ≡ (is_indexed other old || same_text other text)
