-- Locales that are looked up among those that a reader wants.
use Rattle.std.proofs.Common.{◌≡◌, ◌<◌, ◌+◌, ◌∙◌, ◌∷◌, ◌++◌, [], refl, ap, sym, ℕ, suc, Bool, true, false, cond, List, length, take, get_or, Option, Some, None, option_map, unwrap_or, if◌then◌else◌, nat_lt, length-take-le, le_of_lt, arith}
use Rattle.std.specs.Option.{option_or}
use Rattle.std.proofs.lemmas.Cmp.{nat_list_eq_equiv}
use Rattle.std.proofs.lemmas.List.{take_more}
use Rattle.std.proofs.lemmas.List.Folds.{find-append}
use Rattle.ua_value.specs.declared.localized.LocalizedText.{LocalizedText}
use Rattle.ua_choice.specs.declared.index.Index.{Index}
use Rattle.ua_choice.specs.declared.places.Places.{Places}
use Rattle.ua_choice.specs.Choosing.{same_text}
use Rattle.ua_choice.specs.Locales.{place_of, listed, nearer, ArePlacesAmong, KeepsFirst}
use Rattle.ua_choice.specs.Names.{in_locale, or_else, earliest, first_name, name_for}

-- ---- the place of a locale

shifted : (here : Bool) (before : Option ℕ) (last : Bool) (n : ℕ) → cond here (Some 0) (option_map suc (option_or before (cond last (Some n) None))) ≡ option_or (cond here (Some 0) (option_map suc before)) (cond last (Some (suc n)) None)
shifted true before last n = refl
shifted false None true n = refl
shifted false None false n = refl
shifted false (Some place) last n = refl

place_push : (locale : Option (List ℕ)) (ls : List (Option (List ℕ))) (last : Option (List ℕ)) → place_of locale (ls ++ last ∷ []) ≡ option_or (place_of locale ls) (cond (same_text last locale) (Some (length ls)) None)
place_push locale [] last = refl
place_push locale (l ∷ ls) last =
    ap (λ p. cond (same_text l locale) (Some 0) (option_map suc p)) (place_push locale ls last) ∙ shifted (same_text l locale) (place_of locale ls) (same_text last locale) (length ls)

place_more : (locale : Option (List ℕ)) (ls : List (Option (List ℕ))) (i : ℕ) (l : Option (List ℕ)) → i < length ls → l ≡ get_or ls i l → place_of locale (take (i + 1) ls) ≡ option_or (place_of locale (take i ls)) (cond (same_text l locale) (Some i) None)
place_more locale ls i l below at =
    let more = ap (place_of locale) (take_more ls i l below) ∙ ap (λ x. place_of locale (take i ls ++ x ∷ [])) (sym at) in
    more ∙ place_push locale (take i ls) l ∙ ap (λ n. option_or (place_of locale (take i ls)) (cond (same_text l locale) (Some n) None)) (length-take-le i ls (le_of_lt below))

-- with one locale more, those that were gone through have their first places
pub one_more : (ls : List (Option (List ℕ))) (i : ℕ) (l : Option (List ℕ)) (known : Index) (old new : Places) → i < length ls → l ≡ get_or ls i l → KeepsFirst l i known old new → ArePlacesAmong (take i ls) known old → ArePlacesAmong (take (i + 1) ls) known new
one_more ls i l known old new below at keeps so_far locale is =
    keeps locale is ∙ ap (λ p. option_or p (cond (same_text l locale) (Some i) None)) (so_far locale is) ∙ sym (place_more locale ls i l below at)

-- ---- the name in the earliest locale, with the place of that

abbrev pub later_by_one : ℕ × LocalizedText → ℕ × LocalizedText
later_by_one b = (suc b.0, b.1)

abbrev pub at_place : Option LocalizedText → Option (ℕ × LocalizedText) → Option (ℕ × LocalizedText)
at_place (Some name) later = Some (0, name)
at_place None later = option_map later_by_one later

abbrev pub placed : List (Option (List ℕ)) → List LocalizedText → Option (ℕ × LocalizedText)
placed [] names = None
placed (l ∷ ls) names = at_place (in_locale l names) (placed ls names)

same_symm : (a b : Option (List ℕ)) → same_text a b ≡ same_text b a
same_symm None None = refl
same_symm None (Some b) = refl
same_symm (Some a) None = refl
same_symm (Some a) (Some b) = nat_list_eq_equiv.symm a b

lt_later : (p q : ℕ) → nat_lt (suc p) (suc q) ≡ nat_lt p q
lt_later p q = grind (arith)

none_before_first : (p : ℕ) → nat_lt (suc p) 0 ≡ false
none_before_first p = grind (arith)

first_before_later : (q : ℕ) → nat_lt 0 (suc q) ≡ true
first_before_later q = grind (arith)

later_kept : (t : Bool) (q : ℕ) (name : LocalizedText) (b : ℕ × LocalizedText) → option_map later_by_one (cond t (Some (q, name)) (Some b)) ≡ cond t (Some (suc q, name)) (Some (suc b.0, b.1))
later_kept true q name b = refl
later_kept false q name b = refl

one_step : (here : Bool) (name : LocalizedText) (found : Option LocalizedText) (place : Option ℕ) (best : Option (ℕ × LocalizedText)) → at_place (option_or found (cond here (Some name) None)) (nearer place name best) ≡ nearer (cond here (Some 0) (option_map suc place)) name (at_place found best)
one_step true name (Some n) place best = refl
one_step false name (Some n) None best = refl
one_step false name (Some n) (Some p) best = ap (λ t. cond t (Some (suc p, name)) (Some (0, n))) (sym (none_before_first p))
one_step true name None place None = refl
one_step true name None place (Some b) = ap (λ t. cond t (Some (0, name)) (Some (suc b.0, b.1))) (sym (first_before_later b.0))
one_step false name None None best = refl
one_step false name None (Some p) None = refl
one_step false name None (Some p) (Some b) = later_kept (nat_lt p b.0) p name b ∙ ap (λ t. cond t (Some (suc p, name)) (Some (suc b.0, b.1))) (sym (lt_later p b.0))

-- with one name more, it is the one whose locale stands first
placed_push : (ls : List (Option (List ℕ))) (names : List LocalizedText) (name : LocalizedText) → placed ls (names ++ name ∷ []) ≡ nearer (place_of name.locale ls) name (placed ls names)
placed_push [] names name = refl
placed_push (l ∷ ls) names name =
    let found = find-append (λ (n : LocalizedText). same_text n.locale l) names (name ∷ []) in
    let turned = ap (λ b. cond b (Some name) None) (same_symm name.locale l) in
    ap (λ f. at_place f (placed ls (names ++ name ∷ []))) (found ∙ ap (option_or (in_locale l names)) turned) ∙ ap (at_place (option_or (in_locale l names) (cond (same_text l name.locale) (Some name) None))) (placed_push ls names name)
    ∙ one_step (same_text l name.locale) name (in_locale l names) (place_of name.locale ls) (placed ls names)

pub placed_more : (ls : List (Option (List ℕ))) (names : List LocalizedText) (i : ℕ) (name : LocalizedText) → i < length names → name ≡ get_or names i name → placed ls (take (i + 1) names) ≡ nearer (place_of name.locale ls) name (placed ls (take i names))
placed_more ls names i name below at =
    ap (placed ls) (take_more names i name below) ∙ ap (λ n. placed ls (take i names ++ n ∷ [])) (sym at) ∙ placed_push ls (take i names) name

pub placed_of_none : (ls : List (Option (List ℕ))) → placed ls [] ≡ None
placed_of_none [] = refl
placed_of_none (l ∷ ls) = ap (at_place None) (placed_of_none ls)

without_place : (found : Option LocalizedText) (later : Option (ℕ × LocalizedText)) → option_map (λ (b : ℕ × LocalizedText). b.1) (at_place found later) ≡ or_else found (option_map (λ (b : ℕ × LocalizedText). b.1) later)
without_place (Some n) later = refl
without_place None None = refl
without_place None (Some b) = refl

placed_is_earliest : (ls : List (Option (List ℕ))) (names : List LocalizedText) → option_map (λ (b : ℕ × LocalizedText). b.1) (placed ls names) ≡ earliest ls names
placed_is_earliest [] names = refl
placed_is_earliest (l ∷ ls) names = without_place (in_locale l names) (placed ls names) ∙ ap (or_else (in_locale l names)) (placed_is_earliest ls names)

named : (wanted : Option (List (Option (List ℕ)))) (names : List LocalizedText) → unwrap_or (option_map (λ (b : ℕ × LocalizedText). b.1) (placed (listed wanted) names)) (first_name names) ≡ name_for wanted names
named None names = refl
named (Some ls) names = ap (λ e. unwrap_or e (first_name names)) (placed_is_earliest ls names)

-- the name whose locale stands first is the one for the reader
pub named_by : (wanted : Option (List (Option (List ℕ)))) (names : List LocalizedText) (best : Option (ℕ × LocalizedText)) → best ≡ placed (listed wanted) names → unwrap_or (option_map (λ (b : ℕ × LocalizedText). b.1) best) (first_name names) ≡ name_for wanted names
named_by wanted names best is = ap (λ b. unwrap_or (option_map (λ (c : ℕ × LocalizedText). c.1) b) (first_name names)) is ∙ named wanted names
