-- The name of an application in the language that is wanted most, OPC 10000-4, 5.4.
use Rattle.std.specs.Prelude.{ℕ, List, [], ◌∷◌, Option, Some, None, unwrap_or}
use Rattle.std.specs.List.{find}
use Rattle.ua_value.specs.declared.localized.LocalizedText.{LocalizedText}
use Rattle.ua_choice.specs.Choosing.{same_text}

-- the first name in that locale
abbrev pub in_locale : Option (List ℕ) → List LocalizedText → Option LocalizedText
in_locale locale names = find (λ n. same_text n.locale locale) names

abbrev pub or_else : Option LocalizedText → Option LocalizedText → Option LocalizedText
or_else (Some n) later = Some n
or_else None later = later

-- the name in the earliest of these locales that some name has
abbrev pub earliest : List (Option (List ℕ)) → List LocalizedText → Option LocalizedText
earliest [] names = None
earliest (l ∷ ls) names = or_else (in_locale l names) (earliest ls names)

abbrev pub first_name : List LocalizedText → LocalizedText
first_name [] = record { locale = None; text = None }
first_name (n ∷ ns) = n

-- the name for a reader who wants these locales, the dearest first
abbrev pub name_for : Option (List (Option (List ℕ))) → List LocalizedText → LocalizedText
name_for None names = first_name names
name_for (Some locales) names = unwrap_or (earliest locales names) (first_name names)
