-- Where the locales of names stand among those that a reader wants, the dearest first, OPC 10000-4, 5.4.
use Rattle.std.specs.Prelude.{◌≡◌, ℕ, suc, true, List, [], ◌∷◌, Option, Some, None, option_map, if◌then◌else◌, nat_lt}
use Rattle.std.specs.Option.{option_or}
use Rattle.ua_value.specs.declared.localized.LocalizedText.{LocalizedText}
use Rattle.ua_choice.specs.declared.index.Index.{Index}
use Rattle.ua_choice.specs.declared.locales.Ranks.{Ranks}
use Rattle.ua_choice.specs.declared.places.Places.{Places}
use Rattle.ua_choice.specs.Choosing.{same_text}
use Rattle.ua_choice.specs.Index.{is_indexed}
use Rattle.ua_choice.specs.Places.{place_in}
use denote.Ref.{Bor}

-- where the locale first stands among these
abbrev pub place_of : Option (List ℕ) → List (Option (List ℕ)) → Option ℕ
place_of locale [] = None
place_of locale (l ∷ ls) = if same_text l locale then Some 0 else option_map suc (place_of locale ls)

-- the list that a request has, or an empty one
abbrev pub listed : Option (List (Option (List ℕ))) → List (Option (List ℕ))
listed None = []
listed (Some locales) = locales

-- of each locale that is known, the place is kept at which it first stands
abbrev pub ArePlacesAmong : List (Option (List ℕ)) → Index → Places → Type 0
ArePlacesAmong locales known places = (locale : Option (List ℕ)) → is_indexed locale known ≡ true → place_in locale places ≡ place_of locale locales

abbrev pub AreRanksOf : List (Option (List ℕ)) → Ranks → Type 0
AreRanksOf locales ranks = ArePlacesAmong locales ranks.known ranks.places

-- of the locales that are known, the places of `new` are those of `old`, and this one for the locale if it had none
abbrev pub KeepsFirst : Option (List ℕ) → ℕ → Index → Places → Places → Type 0
KeepsFirst locale place known old new = (other : Option (List ℕ)) → is_indexed other known ≡ true → place_in other new ≡ option_or (place_in other old) (if same_text locale other then Some place else None)

-- of two names with the places of their locales the one whose locale stands first, the earlier one where it is the same
abbrev pub nearer : Option ℕ → LocalizedText → Option (ℕ × LocalizedText) → Option (ℕ × LocalizedText)
nearer None name best = best
nearer (Some place) name None = Some (place, name)
nearer (Some place) name (Some best) = if nat_lt place best.0 then Some (place, name) else Some best

-- what is lent with its place
abbrev pub lent : Option (ℕ × Bor LocalizedText) → Option (ℕ × LocalizedText)
lent best = option_map (λ b. (b.0, b.1.now)) best
