-- Worked examples: what the definitions say of given bytes, by computation.
use Rattle.std.proofs.Common.{◌≡◌, [], ◌∷◌, Some, None, refl}
use Rattle.std.specs.Prelude.{true, negsuc}
use Rattle.std.specs.Str.{is_utf8, chars}
use Rattle.std.specs.Int.{w16, w32, w64}
use Rattle.ua_value.specs.Number.{unsigned, signed, boolean}
use Rattle.ua_value.specs.Bits.{float_bits}
use Rattle.ua_value.specs.Text.{string, byte_string, bytes_of}
use Rattle.ua_value.specs.Array.{array, items_at}
use Rattle.ua_value.specs.Guid.{guid, raw}
use Rattle.ua_value.specs.Node.{node_id, two_byte, numeric, textual}
use Rattle.ua_value.specs.Expanded.{expanded_node_id, raised}
use Rattle.ua_value.specs.Names.{qualified_name}
use Rattle.ua_value.specs.Localized.{localized_text}

-- ---- truth values

reads_true : boolean.grammar.front (0xff ∷ []) ≡ Some (true, [])
unfolding boolean
reads_true = refl

writes_true : boolean.canon true ≡ 1 ∷ []
unfolding boolean
writes_true = refl

-- ---- numbers

reads_unsigned : (unsigned w16).grammar.front (0x34 ∷ 0x12 ∷ 7 ∷ []) ≡ Some (0x1234, 7 ∷ [])
unfolding unsigned
reads_unsigned = refl

reads_signed : (signed w32).grammar.front (0xfe ∷ 0xff ∷ 0xff ∷ 0xff ∷ []) ≡ Some (negsuc 1, [])
unfolding signed
reads_signed = refl

writes_signed : (signed w32).canon (negsuc 1) ≡ 0xfe ∷ 0xff ∷ 0xff ∷ 0xff ∷ []
unfolding signed
writes_signed = refl

too_short : (unsigned w64).grammar.front (1 ∷ 2 ∷ 3 ∷ 4 ∷ 5 ∷ 6 ∷ 7 ∷ []) ≡ None
unfolding unsigned
too_short = refl

writes_float : float_bits.canon (record { 0 = 0xc0d00000 }) ≡ 0 ∷ 0 ∷ 0xd0 ∷ 0xc0 ∷ []
unfolding float_bits unsigned
writes_float = refl

reads_not_a_number : float_bits.grammar.front (1 ∷ 0 ∷ 0xc0 ∷ 0x7f ∷ []) ≡ Some (record { 0 = 0x7fc00001 }, [])
unfolding float_bits unsigned
reads_not_a_number = refl

-- ---- texts

reads_null : string.grammar.front (0xff ∷ 0xff ∷ 0xff ∷ 0xff ∷ []) ≡ Some (None, [])
unfolding bytes_of unsigned
reads_null = refl

reads_empty : string.grammar.front (0 ∷ 0 ∷ 0 ∷ 0 ∷ []) ≡ Some (Some [], [])
unfolding is_utf8 chars bytes_of unsigned
reads_empty = refl

refuses_other_negative : string.grammar.front (0xfe ∷ 0xff ∷ 0xff ∷ 0xff ∷ []) ≡ None
unfolding bytes_of unsigned
refuses_other_negative = refl

reads_text : string.grammar.front (1 ∷ 0 ∷ 0 ∷ 0 ∷ 0x41 ∷ 0xff ∷ []) ≡ Some (Some (0x41 ∷ []), 0xff ∷ [])
unfolding is_utf8 chars lib.Utf8.encode bytes_of unsigned
reads_text = refl

refuses_no_text : string.grammar.front (1 ∷ 0 ∷ 0 ∷ 0 ∷ 0xff ∷ []) ≡ None
unfolding is_utf8 chars bytes_of unsigned
refuses_no_text = refl

reads_bytes : byte_string.grammar.front (1 ∷ 0 ∷ 0 ∷ 0 ∷ 0xff ∷ []) ≡ Some (Some (0xff ∷ []), [])
unfolding bytes_of unsigned
reads_bytes = refl

-- ---- arrays

reads_array : (array (unsigned w16)).grammar.front (2 ∷ 0 ∷ 0 ∷ 0 ∷ 1 ∷ 0 ∷ 2 ∷ 0 ∷ []) ≡ Some (Some (1 ∷ 2 ∷ []), [])
unfolding array items_at unsigned
reads_array = refl

refuses_count : (array (unsigned w16)).grammar.front (3 ∷ 0 ∷ 0 ∷ 0 ∷ 1 ∷ 0 ∷ []) ≡ None
unfolding array items_at unsigned
refuses_count = refl

-- ---- guids

-- 72962B91-FA75-4AE6-8D28-B404DC7DAF63
writes_guid : guid.canon (record { data1 = 0x72962b91; data2 = 0xfa75; data3 = 0x4ae6; data4 = 0x8d ∷ 0x28 ∷ 0xb4 ∷ 0x04 ∷ 0xdc ∷ 0x7d ∷ 0xaf ∷ 0x63 ∷ [] })
    ≡ 0x91 ∷ 0x2b ∷ 0x96 ∷ 0x72 ∷ 0x75 ∷ 0xfa ∷ 0xe6 ∷ 0x4a ∷ 0x8d ∷ 0x28 ∷ 0xb4 ∷ 0x04 ∷ 0xdc ∷ 0x7d ∷ 0xaf ∷ 0x63 ∷ []
unfolding guid raw unsigned
writes_guid = refl

-- ---- node ids

writes_two_bytes : node_id.canon (numeric (0, 72)) ≡ 0x00 ∷ 0x48 ∷ []
unfolding node_id unsigned
writes_two_bytes = refl

writes_four_bytes : node_id.canon (numeric (0, 256)) ≡ 0x01 ∷ 0x00 ∷ 0x00 ∷ 0x01 ∷ []
unfolding node_id unsigned
writes_four_bytes = refl

writes_namespace : node_id.canon (numeric (5, 1025)) ≡ 0x01 ∷ 0x05 ∷ 0x01 ∷ 0x04 ∷ []
unfolding node_id unsigned
writes_namespace = refl

writes_seven_bytes : node_id.canon (numeric (256, 1)) ≡ 0x02 ∷ 0x00 ∷ 0x01 ∷ 0x01 ∷ 0x00 ∷ 0x00 ∷ 0x00 ∷ []
unfolding node_id unsigned
writes_seven_bytes = refl

reads_long_form : node_id.grammar.front (0x02 ∷ 0x00 ∷ 0x00 ∷ 0x48 ∷ 0x00 ∷ 0x00 ∷ 0x00 ∷ []) ≡ Some (two_byte 72, [])
unfolding node_id unsigned
reads_long_form = refl

-- the text is "Hot" and the Chinese sign for water
reads_textual : node_id.grammar.front (0x03 ∷ 0x01 ∷ 0x00 ∷ 0x06 ∷ 0x00 ∷ 0x00 ∷ 0x00 ∷ 0x48 ∷ 0x6f ∷ 0x74 ∷ 0xe6 ∷ 0xb0 ∷ 0xb4 ∷ []) ≡ Some (textual (1, Some (0x48 ∷ 0x6f ∷ 0x74 ∷ 0xe6 ∷ 0xb0 ∷ 0xb4 ∷ [])), [])
unfolding is_utf8 chars lib.Utf8.encode node_id unsigned bytes_of
reads_textual = refl

refuses_cut_text : node_id.grammar.front (0x03 ∷ 0x01 ∷ 0x00 ∷ 0x06 ∷ 0x00 ∷ 0x00 ∷ 0x00 ∷ 0x48 ∷ 0x6f ∷ 0x74 ∷ 0xe6 ∷ []) ≡ None
unfolding is_utf8 chars node_id unsigned bytes_of
refuses_cut_text = refl

refuses_flag : node_id.grammar.front (0x40 ∷ 0x48 ∷ []) ≡ None
unfolding node_id
refuses_flag = refl

-- ---- expanded node ids

reads_flagged_null : expanded_node_id.grammar.front (0x80 ∷ 0x48 ∷ 0xff ∷ 0xff ∷ 0xff ∷ 0xff ∷ []) ≡ Some (record { node_id = two_byte 72; namespace_uri = None; server_index = 0 }, [])
unfolding expanded_node_id unsigned bytes_of
reads_flagged_null = refl

writes_unflagged : expanded_node_id.canon (record { node_id = two_byte 72; namespace_uri = None; server_index = 0 }) ≡ 0x00 ∷ 0x48 ∷ []
unfolding expanded_node_id node_id raised unsigned
writes_unflagged = refl

writes_flags : expanded_node_id.canon (record { node_id = two_byte 72; namespace_uri = Some (0x61 ∷ []); server_index = 2 }) ≡ 0xc0 ∷ 0x48 ∷ 1 ∷ 0 ∷ 0 ∷ 0 ∷ 0x61 ∷ 2 ∷ 0 ∷ 0 ∷ 0 ∷ []
unfolding expanded_node_id node_id raised bytes_of unsigned
writes_flags = refl

-- ---- names and texts in a language

writes_name : qualified_name.canon (record { namespace_index = 1; name = Some (0x61 ∷ []) }) ≡ 1 ∷ 0 ∷ 1 ∷ 0 ∷ 0 ∷ 0 ∷ 0x61 ∷ []
unfolding qualified_name bytes_of unsigned
writes_name = refl

reads_null_part : localized_text.grammar.front (3 ∷ 2 ∷ 0 ∷ 0 ∷ 0 ∷ 0x65 ∷ 0x6e ∷ 0xff ∷ 0xff ∷ 0xff ∷ 0xff ∷ []) ≡ Some (record { locale = Some (0x65 ∷ 0x6e ∷ []); text = None }, [])
unfolding is_utf8 chars lib.Utf8.encode localized_text bytes_of unsigned
reads_null_part = refl

writes_part : localized_text.canon (record { locale = Some (0x65 ∷ 0x6e ∷ []); text = None }) ≡ 1 ∷ 2 ∷ 0 ∷ 0 ∷ 0 ∷ 0x65 ∷ 0x6e ∷ []
unfolding localized_text bytes_of
writes_part = refl

refuses_other_bits : localized_text.grammar.front (4 ∷ []) ≡ None
unfolding localized_text
refuses_other_bits = refl
