-- Places that are kept for the locales of names.
use Rattle.std.proofs.Common.{◌≡◌, ◌<◌, ◌+◌, ◌∙◌, ◌∷◌, ap, sym, ℕ, Bool, true, false, cond, List, length, drop, Option, Some, None, if◌then◌else◌}
use Rattle.std.specs.Prelude.{slice_get}
use Rattle.std.specs.BTreeMap.{get_by_text}
use Rattle.std.specs.Map.{update}
use Rattle.std.specs.Str.{bytes_eq}
use Rattle.std.proofs.lemmas.List.{at_drop_more}
use Rattle.std.proofs.lemmas.Option.{get_or_from_slice_get}
use Rattle.ua_value.specs.declared.localized.LocalizedText.{LocalizedText}
use Rattle.ua_choice.specs.Choosing.{same_text}
use Rattle.ua_choice.specs.Names.{in_locale}
use Rattle.ua_choice.specs.Places.{place_in, name_at, KeepsOne}
use Rattle.ua_choice.specs.declared.places.Places.{Places}

-- a place that was put for a text alone is kept for it
pub keeps_text : (text : List ℕ) (place : ℕ) (old new : Places) → new.of_null ≡ old.of_null → ((other : List ℕ) → get_by_text new.of_texts other ≡ update bytes_eq (get_by_text old.of_texts) text (Some place) other) → KeepsOne (Some text) place old new
keeps_text text place old new null puts None = null
keeps_text text place old new null puts (Some other) = puts other

-- the name at the place, or what the places before lead to
chosen : (b : Bool) (names : List LocalizedText) (place : ℕ) (name : LocalizedText) (before : Option ℕ) (later : Option LocalizedText) → slice_get names place ≡ Some name → name_at before names ≡ later → name_at (if b then Some place else before) names ≡ cond b (Some name) later
chosen true names place name before later here led = here
chosen false names place name before later here led = led

-- with the place of one name more, put over those of the later names, the first of them all stands at the place kept
pub one_more : (names : List LocalizedText) (place later : ℕ) (name : LocalizedText) (old new : Places) → place + 1 ≡ later → place < length names → slice_get names place ≡ Some name → KeepsOne name.locale place old new → ((locale : Option (List ℕ)) → name_at (place_in locale old) names ≡ in_locale locale (drop later names)) → (locale : Option (List ℕ)) → name_at (place_in locale new) names ≡ in_locale locale (drop place names)
one_more names place later name old new next below here keeps led locale =
    let led_on = led locale ∙ ap (λ n. in_locale locale (drop n names)) (sym next) in
    let led_to = chosen (same_text name.locale locale) names place name (place_in locale old) (in_locale locale (drop (place + 1) names)) here led_on in
    let at = get_or_from_slice_get names place name name here in
    let found = at_drop_more (in_locale locale) names place name below ∙ ap (λ n. in_locale locale (n ∷ drop (place + 1) names)) at in
    ap (λ p. name_at p names) (keeps locale) ∙ led_to ∙ sym found
