-- What is read from the values of a table.
use Rattle.std.specs.Prelude.{ℕ, ℤ, pos, suc, ◌+◌, ◌++◌, ◌&&◌, Bool, List, [], ◌∷◌, Option, Some, None, Result, Ok, Err, length, nat_le, if◌then◌else◌}
use Rattle.std.specs.List.{list_any}
use Rattle.std.specs.Ordering.{nat_cmp, is_gt}
use Rattle.std.specs.Cmp.Lexicographic.{slice_cmp}
use Rattle.std.specs.Str.{bytes_eq}
use Rattle.std.specs.Fmt.{decimal}
use Rattle.toml.specs.Data.{Data, Items, no_items, item, Members, no_members, member, get_member, as_str, as_integer, as_array, as_table}
use Rattle.hex.specs.Hex.{decode_of}
use Rattle.hex.specs.declared.error.FromHexError.{FromHexError}
use Rattle.ua_disco.specs.Faults.{Fault, missing, wrong_kind, bad_value, unknown_key, next}

-- ---- values; the first argument is the path

-- a text of at most 4095 bytes
abbrev pub short_text : List ℕ → Option (List ℕ) → Result (Option (List ℕ)) Fault
short_text path None = Err (wrong_kind path)
short_text path (Some text) = if nat_le (length text) 4095 then Ok (Some text) else Err (bad_value path)

unfoldable pub text_value : List ℕ → Data → Result (Option (List ℕ)) Fault
text_value path d = short_text path (as_str d)

-- the bytes of hex digits, of at most 131072
abbrev pub hex_bytes : List ℕ → Result (List ℕ) FromHexError → Result (Option (List ℕ)) Fault
hex_bytes path (Ok bytes) = Ok (Some bytes)
hex_bytes path (Err e) = Err (bad_value path)

abbrev pub hex_text : List ℕ → Option (List ℕ) → Result (Option (List ℕ)) Fault
hex_text path None = Err (wrong_kind path)
hex_text path (Some text) = if nat_le (length text) 131072 then hex_bytes path (decode_of text) else Err (bad_value path)

unfoldable pub certificate_value : List ℕ → Data → Result (Option (List ℕ)) Fault
certificate_value path d = hex_text path (as_str d)

-- a whole number in a range
abbrev pub in_range : List ℕ → ℕ → ℕ → ℤ → Result ℕ Fault
in_range path least most (pos n) = if nat_le least n && nat_le n most then Ok n else Err (bad_value path)
in_range path least most _ = Err (bad_value path)

abbrev pub integer_value : List ℕ → ℕ → ℕ → Option ℤ → Result ℕ Fault
integer_value path least most None = Err (wrong_kind path)
integer_value path least most (Some z) = in_range path least most z

-- the items one after another, each at its number
unfoldable pub items_value : {A : Type 0} → (List ℕ → Data → Result A Fault) → List ℕ → ℕ → Items → Result (List A) Fault
items_value rule path n no_items = Ok []
items_value rule path n (item d ds) = next (rule (path ++ 46 ∷ decimal n) d) (λ v. next (items_value rule path (n + 1) ds) (λ vs. Ok (v ∷ vs)))

abbrev pub count_of : Items → ℕ
count_of no_items = 0
count_of (item d ds) = suc (count_of ds)

-- an array of at most 65535 items
abbrev pub counted_items : {A : Type 0} → (List ℕ → Data → Result A Fault) → List ℕ → Option Items → Result (List A) Fault
counted_items rule path None = Err (wrong_kind path)
counted_items rule path (Some ds) = if nat_le (count_of ds) 65535 then items_value rule path 0 ds else Err (bad_value path)

unfoldable pub list_value : {A : Type 0} → (List ℕ → Data → Result A Fault) → List ℕ → Data → Result (List A) Fault
list_value rule path d = counted_items rule path (as_array d)

-- a table, whose keys have the path and a dot before them
abbrev pub members_value : {A : Type 0} → (List ℕ → Members → Result A Fault) → List ℕ → Option Members → Result A Fault
members_value rule path None = Err (wrong_kind path)
members_value rule path (Some ms) = rule (path ++ 46 ∷ []) ms

unfoldable pub table_value : {A : Type 0} → (List ℕ → Members → Result A Fault) → List ℕ → Data → Result A Fault
table_value rule path d = members_value rule path (as_table d)

-- ---- keys; the first argument is what stands before the key in its path

abbrev pub if_there : {A : Type 0} → (List ℕ → Data → Result A Fault) → List ℕ → Option Data → Result (Option A) Fault
if_there rule path None = Ok None
if_there rule path (Some d) = next (rule path d) (λ a. Ok (Some a))

unfoldable pub optional : {A : Type 0} → (List ℕ → Data → Result A Fault) → List ℕ → List ℕ → Members → Result (Option A) Fault
optional rule prefix key ms = if_there rule (prefix ++ key) (get_member key ms)

abbrev pub or_missing : {A : Type 0} → List ℕ → Option A → Result A Fault
or_missing path None = Err (missing path)
or_missing path (Some a) = Ok a

unfoldable pub required : {A : Type 0} → (List ℕ → Data → Result A Fault) → List ℕ → List ℕ → Members → Result A Fault
required rule prefix key ms = next (optional rule prefix key ms) (or_missing (prefix ++ key))

-- the value, or the default where the key is absent
abbrev pub or_default : {A : Type 0} → A → Option A → A
or_default default None = default
or_default default (Some a) = a

unfoldable pub defaulted : {A : Type 0} → (List ℕ → Data → Result A Fault) → A → List ℕ → List ℕ → Members → Result A Fault
defaulted rule default prefix key ms = next (optional rule prefix key ms) (λ o. Ok (or_default default o))

abbrev pub number_there : List ℕ → ℕ → ℕ → Option ℕ → Option Data → Result ℕ Fault
number_there path least most default None = or_missing path default
number_there path least most default (Some d) = integer_value path least most (as_integer d)

-- a whole number in a range, or the default
unfoldable pub integer : ℕ → ℕ → Option ℕ → List ℕ → List ℕ → Members → Result ℕ Fault
integer least most default prefix key ms = number_there (prefix ++ key) least most default (get_member key ms)

-- ---- unknown keys

abbrev pub is_known : List (List ℕ) → List ℕ → Bool
is_known known key = list_any (λ k. bytes_eq k key) known

-- the lesser key, by their bytes
abbrev pub lesser : List ℕ → Option (List ℕ) → List ℕ
lesser k None = k
lesser k (Some l) = if is_gt (slice_cmp nat_cmp k l) then l else k

-- the least key that is not among these, whatever order the keys stand in
abbrev pub least_unknown : List (List ℕ) → Members → Option (List ℕ)
least_unknown known no_members = None
least_unknown known (member k d ms) = if is_known known k then least_unknown known ms else Some (lesser k (least_unknown known ms))

abbrev pub refuse : List ℕ → Option (List ℕ) → Result (Unit {0}) Fault
refuse prefix None = Ok tt
refuse prefix (Some k) = Err (unknown_key (prefix ++ k))

unfoldable pub keys_known : List (List ℕ) → List ℕ → Members → Result (Unit {0}) Fault
keys_known known prefix ms = refuse prefix (least_unknown known ms)
