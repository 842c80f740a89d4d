-- Worked rows of the definitions, by computation.
use Rattle.std.proofs.Common.{◌≡◌, [], ◌∷◌, Some, None, Err, codes, refl, pos, true, false}
use Rattle.toml.specs.Data.{integer as whole, string, array, table, no_items, no_members, member}
use Rattle.ua_value.specs.declared.localized.LocalizedText.{LocalizedText}
use Rattle.ua_choice.specs.Choosing.{same_text, is_asked}
use Rattle.ua_choice.specs.Names.{name_for}
use Rattle.ua_disco.specs.Faults.{missing, wrong_kind, bad_value, unknown_key}
use Rattle.ua_disco.specs.Reading.{items_value, list_value, optional, required, keys_known, integer}
use Rattle.ua_disco.specs.Tables.{applications_key, applications_by, body_of, table_settings}

english : LocalizedText
english = record { locale = Some (codes "en"); text = Some (codes "Press") }

german : LocalizedText
german = record { locale = Some (codes "de"); text = Some (codes "Presse") }

-- French is not there, and German is wanted before English
german_first : name_for (Some (Some (codes "fr") ∷ Some (codes "de") ∷ Some (codes "en") ∷ [])) (english ∷ german ∷ []) ≡ german
unfolding english german
german_first = refl

no_language : name_for None (english ∷ german ∷ []) ≡ english
unfolding english german
no_language = refl

null_equals_null_alone : same_text None (Some []) ≡ false
null_equals_null_alone = refl

empty_asks_for_all : is_asked (Some []) None ≡ true
empty_asks_for_all = refl

empty_table : table_settings no_members ≡ Err (missing (codes "version"))
unfolding table_settings keys_known integer
empty_table = refl

text_for_a_number : table_settings (member (codes "version") (string (codes "1")) no_members) ≡ Err (wrong_kind (codes "version"))
unfolding table_settings keys_known integer
text_for_a_number = refl

other_version : table_settings (member (codes "version") (whole (pos 3)) no_members) ≡ Err (bad_value (codes "version"))
unfolding table_settings keys_known integer
other_version = refl

nothing_listed : table_settings (member (codes "version") (whole (pos 2)) no_members) ≡ Err (missing (codes "application"))
unfolding table_settings keys_known integer body_of applications_by applications_key required optional
nothing_listed = refl

-- a table under version 2
no_list : table_settings (member (codes "version") (whole (pos 2)) (member (codes "application") (table no_members) no_members)) ≡ Err (wrong_kind (codes "application"))
unfolding table_settings keys_known integer body_of applications_by applications_key required optional list_value
no_list = refl

empty_list : table_settings (member (codes "version") (whole (pos 2)) (member (codes "application") (array no_items) no_members)) ≡ Err (bad_value (codes "application"))
unfolding table_settings keys_known integer body_of applications_by applications_key required optional list_value items_value
empty_list = refl

least_unknown_key : table_settings (member (codes "version") (whole (pos 2)) (member (codes "x") (whole (pos 1)) (member (codes "y") (whole (pos 1)) no_members))) ≡ Err (unknown_key (codes "x"))
unfolding table_settings keys_known integer
least_unknown_key = refl
