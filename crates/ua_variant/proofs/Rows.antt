-- Worked examples: what the definitions say of given bytes, by computation.
use Rattle.std.proofs.Common.{◌≡◌, ℕ, List, [], ◌∷◌, Option, Some, None, refl}
use Rattle.std.specs.Prelude.{pos}
use Rattle.ua_value.specs.Number.{unsigned, signed}
use Rattle.ua_value.specs.Text.{bytes_of}
use Rattle.ua_value.specs.Date.{date_time}
use Rattle.ua_value.specs.Array.{array, items_at}
use Rattle.ua_variant.specs.Kinds.{plain, int32, byte, byte_string, data_kind, kind_named}
use Rattle.ua_variant.specs.Values.{Variant, null, one, many, leaf, data_value, no_items, item, DataValue, without, with_value, depth, data_depth}
use Rattle.ua_variant.specs.Picoseconds.{picoseconds}
use Rattle.ua_variant.specs.Stamps.{stamps}
use Rattle.ua_variant.specs.Spelling.{canon, data_canon}
use Rattle.ua_variant.specs.Reading.{within, data_within}

-- ---- reading a Variant

reads_null : let r : Option (Variant × List ℕ) = Some (null, 7 ∷ []) in (within 1).front (0 ∷ 7 ∷ []) ≡ r
unfolding within
reads_null = refl

flags_alone : (within 2).front (0x40 ∷ []) ≡ None
unfolding within kind_named
flags_alone = refl

reads_bytes : let r : Option (Variant × List ℕ) = Some (one (leaf byte_string (Some (0xaa ∷ 0xbb ∷ []))), []) in (within 2).front (0x1a ∷ 2 ∷ 0 ∷ 0 ∷ 0 ∷ 0xaa ∷ 0xbb ∷ []) ≡ r
unfolding within kind_named bytes_of unsigned
reads_bytes = refl

single_variant : (within 3).front (0x18 ∷ 0 ∷ []) ≡ None
unfolding within kind_named
single_variant = refl

type_32 : (within 2).front (0x20 ∷ 0 ∷ 0 ∷ 0 ∷ 0 ∷ []) ≡ None
unfolding within kind_named
type_32 = refl

reads_dimensions : let r : Option (Variant × List ℕ) = Some (many (plain byte) (item (leaf byte 8) (item (leaf byte 9) no_items)) (Some (pos 2 ∷ pos 1 ∷ [])), []) in
    (within 2).front (0xc3 ∷ 2 ∷ 0 ∷ 0 ∷ 0 ∷ 8 ∷ 9 ∷ 2 ∷ 0 ∷ 0 ∷ 0 ∷ 2 ∷ 0 ∷ 0 ∷ 0 ∷ 1 ∷ 0 ∷ 0 ∷ 0 ∷ []) ≡ r
unfolding within kind_named unsigned signed array items_at
reads_dimensions = refl

other_product : (within 2).front (0xc3 ∷ 2 ∷ 0 ∷ 0 ∷ 0 ∷ 8 ∷ 9 ∷ 2 ∷ 0 ∷ 0 ∷ 0 ∷ 2 ∷ 0 ∷ 0 ∷ 0 ∷ 2 ∷ 0 ∷ 0 ∷ 0 ∷ []) ≡ None
unfolding within kind_named unsigned signed array items_at
other_product = refl

too_deep : (within 1).front (0x98 ∷ 1 ∷ 0 ∷ 0 ∷ 0 ∷ 0 ∷ []) ≡ None
unfolding within kind_named unsigned items_at
too_deep = refl

-- ---- reading a DataValue

reads_nested : let r : Option (DataValue × List ℕ) = Some (with_value (many data_kind (item (data_value (with_value null (record { status = None; source_timestamp = None; source_picoseconds = None; server_timestamp = None; server_picoseconds = None }))) no_items) None) (record { status = None; source_timestamp = None; source_picoseconds = None; server_timestamp = None; server_picoseconds = None }), []) in
    (data_within 4).front (0x01 ∷ 0x97 ∷ 1 ∷ 0 ∷ 0 ∷ 0 ∷ 1 ∷ 0 ∷ []) ≡ r
unfolding within kind_named unsigned items_at stamps
reads_nested = refl

reads_picoseconds : let r : Option (DataValue × List ℕ) = Some (without (record { status = None; source_timestamp = None; source_picoseconds = Some 9999; server_timestamp = None; server_picoseconds = None }), []) in
    (data_within 1).front (0x10 ∷ 0xff ∷ 0xff ∷ []) ≡ r
unfolding within stamps picoseconds unsigned
reads_picoseconds = refl

unknown_bit : (data_within 1).front (0x40 ∷ []) ≡ None
unfolding within
unknown_bit = refl

-- ---- writing

writes_number : canon (one (leaf int32 (pos 1))) ≡ 6 ∷ 1 ∷ 0 ∷ 0 ∷ 0 ∷ []
unfolding signed
writes_number = refl

writes_bytes : canon (one (leaf byte_string (Some (0xaa ∷ 0xbb ∷ [])))) ≡ 0x0f ∷ 2 ∷ 0 ∷ 0 ∷ 0 ∷ 0xaa ∷ 0xbb ∷ []
unfolding bytes_of
writes_bytes = refl

writes_dimensions : canon (many (plain int32) (item (leaf int32 (pos 1)) (item (leaf int32 (pos 2)) no_items)) (Some (pos 2 ∷ pos 1 ∷ []))) ≡
    0xc6 ∷ 2 ∷ 0 ∷ 0 ∷ 0 ∷ 1 ∷ 0 ∷ 0 ∷ 0 ∷ 2 ∷ 0 ∷ 0 ∷ 0 ∷ 2 ∷ 0 ∷ 0 ∷ 0 ∷ 2 ∷ 0 ∷ 0 ∷ 0 ∷ 1 ∷ 0 ∷ 0 ∷ 0 ∷ []
unfolding signed array
writes_dimensions = refl

writes_picoseconds : data_canon (without (record { status = None; source_timestamp = Some (record { 0 = pos 0 }); source_picoseconds = Some 9999; server_timestamp = None; server_picoseconds = None })) ≡ 0x14 ∷ 0 ∷ 0 ∷ 0 ∷ 0 ∷ 0 ∷ 0 ∷ 0 ∷ 0 ∷ 0x0f ∷ 0x27 ∷ []
unfolding stamps picoseconds unsigned signed date_time
writes_picoseconds = refl

-- ---- depth

depth_of_four : data_depth (with_value (many data_kind (item (data_value (with_value null (record { status = None; source_timestamp = None; source_picoseconds = None; server_timestamp = None; server_picoseconds = None }))) no_items) None) (record { status = None; source_timestamp = None; source_picoseconds = None; server_timestamp = None; server_picoseconds = None })) ≡ 4
depth_of_four = refl
