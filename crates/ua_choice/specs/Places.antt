-- Where the first name in each locale stands among the names of an application, OPC 10000-4, 5.4.
use Rattle.std.specs.Prelude.{◌≡◌, ℕ, List, Option, Some, None, slice_get, if◌then◌else◌}
use Rattle.std.specs.BTreeMap.{get_by_text}
use Rattle.ua_value.specs.declared.localized.LocalizedText.{LocalizedText}
use Rattle.ua_choice.specs.declared.places.Places.{Places}
use Rattle.ua_choice.specs.Choosing.{same_text}
use Rattle.ua_choice.specs.Names.{in_locale}

-- the place that is kept for the locale
abbrev pub place_in : Option (List ℕ) → Places → Option ℕ
place_in None places = places.of_null
place_in (Some text) places = get_by_text places.of_texts text

-- the places of `new` are those of `old`, with this one for the locale
abbrev pub KeepsOne : Option (List ℕ) → ℕ → Places → Places → Type 0
KeepsOne locale place old new = (other : Option (List ℕ)) → place_in other new ≡ (if same_text locale other then Some place else place_in other old)

-- the name at the place
abbrev pub name_at : Option ℕ → List LocalizedText → Option LocalizedText
name_at None names = None
name_at (Some place) names = slice_get names place

-- for each locale, the first name in it stands at the place that is kept
abbrev pub ArePlacesOf : List LocalizedText → Places → Type 0
ArePlacesOf names places = (locale : Option (List ℕ)) → name_at (place_in locale places) names ≡ in_locale locale names
