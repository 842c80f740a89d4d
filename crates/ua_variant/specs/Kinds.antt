-- The format of each plain kind of values, OPC 10000-6, 5.2.2.
use Rattle.std.specs.Prelude.{ℕ, ℤ, Bool, List, Option}
use Rattle.std.specs.Int.{w8, w16, w32, w64}
use Rattle.ua_value.specs.Format.{Format, IsLawful}
use Rattle.ua_value.specs.Number as number
use Rattle.ua_value.specs.NumberLaws.{lawful_unsigned, lawful_signed, lawful_bool, wide_8, wide_16, wide_32, wide_64}
use Rattle.ua_value.specs.Text as text
use Rattle.ua_value.specs.TextLaws.{lawful_string, lawful_byte_string}
use Rattle.ua_value.specs.Guid as guids
use Rattle.ua_value.specs.GuidLaws.{lawful_guid}
use Rattle.ua_value.specs.Node as nodes
use Rattle.ua_value.specs.NodeLaws.{lawful_node}
use Rattle.ua_value.specs.Names as names
use Rattle.ua_value.specs.Localized as localized
use Rattle.ua_value.specs.LocalizedLaws.{lawful_localized}
use Rattle.ua_value.specs.declared.guid.Guid.{Guid}
use Rattle.ua_value.specs.declared.node.NodeId.{NodeId}
use Rattle.ua_value.specs.declared.names.QualifiedName.{QualifiedName}
use Rattle.ua_value.specs.declared.localized.LocalizedText.{LocalizedText}
use Rattle.ua_value.specs.TextLaws.{lawful_xml_element}
use Rattle.ua_value.specs.Bits as bits
use Rattle.ua_value.specs.Date as dates
use Rattle.ua_value.specs.Status as status
use Rattle.ua_value.specs.Expanded as expanded
use Rattle.ua_value.specs.ExpandedLaws.{lawful_expanded}
use Rattle.ua_value.specs.declared.bits.FloatBits.{FloatBits}
use Rattle.ua_value.specs.declared.bits.DoubleBits.{DoubleBits}
use Rattle.ua_value.specs.declared.date.DateTime.{DateTime}
use Rattle.ua_value.specs.declared.status.StatusCode.{StatusCode}
use Rattle.ua_value.specs.declared.expanded.ExpandedNodeId.{ExpandedNodeId}
use Rattle.ua_variant.specs.declared.extension.ExtensionObject.{ExtensionObject}
use Rattle.ua_variant.specs.Extension as extension
use Rattle.ua_variant.specs.ExtensionLaws.{lawful_extension_object}
pub use Rattle.ua_kind.specs.Kinds.{Plain, boolean, sbyte, byte, int16, uint16, int32, uint32, int64, uint64, float, double, string, date_time, guid, byte_string, xml_element, node_id, expanded_node_id, status_code, qualified_name, localized_text, extension_object, Kind, plain, data_kind, variant_kind, info_kind, plain_number, kind_number, IsNumber, numbered}
unfoldable pub use Rattle.ua_kind.specs.Kinds.{kind_named}

-- what the values of a plain kind are
abbrev pub Payload : Plain → Type 0
Payload boolean = Bool
Payload sbyte = ℤ
Payload byte = ℕ
Payload int16 = ℤ
Payload uint16 = ℕ
Payload int32 = ℤ
Payload uint32 = ℕ
Payload int64 = ℤ
Payload uint64 = ℕ
Payload float = FloatBits
Payload double = DoubleBits
Payload string = Option (List ℕ)
Payload date_time = DateTime
Payload guid = Guid
Payload byte_string = Option (List ℕ)
Payload xml_element = Option (List ℕ)
Payload node_id = NodeId
Payload expanded_node_id = ExpandedNodeId
Payload status_code = StatusCode
Payload qualified_name = QualifiedName
Payload localized_text = LocalizedText
Payload extension_object = ExtensionObject

abbrev pub format_of : (p : Plain) → Format (Payload p)
format_of boolean = number.boolean
format_of sbyte = number.signed w8
format_of byte = number.unsigned w8
format_of int16 = number.signed w16
format_of uint16 = number.unsigned w16
format_of int32 = number.signed w32
format_of uint32 = number.unsigned w32
format_of int64 = number.signed w64
format_of uint64 = number.unsigned w64
format_of float = bits.float_bits
format_of double = bits.double_bits
format_of string = text.string
format_of date_time = dates.date_time
format_of guid = guids.guid
format_of byte_string = text.byte_string
format_of xml_element = text.xml_element
format_of node_id = nodes.node_id
format_of expanded_node_id = expanded.expanded_node_id
format_of status_code = status.status_code
format_of qualified_name = names.qualified_name
format_of localized_text = localized.localized_text
format_of extension_object = extension.extension_object

pub lawful_of : (p : Plain) → IsLawful (format_of p)
lawful_of boolean = lawful_bool
lawful_of sbyte = lawful_signed w8 wide_8
lawful_of byte = lawful_unsigned w8 wide_8
lawful_of int16 = lawful_signed w16 wide_16
lawful_of uint16 = lawful_unsigned w16 wide_16
lawful_of int32 = lawful_signed w32 wide_32
lawful_of uint32 = lawful_unsigned w32 wide_32
lawful_of int64 = lawful_signed w64 wide_64
lawful_of uint64 = lawful_unsigned w64 wide_64
lawful_of float = bits.lawful_float_bits
lawful_of double = bits.lawful_double_bits
lawful_of string = lawful_string
lawful_of date_time = dates.lawful_date_time
lawful_of guid = lawful_guid
lawful_of byte_string = lawful_byte_string
lawful_of xml_element = lawful_xml_element
lawful_of node_id = lawful_node
lawful_of expanded_node_id = lawful_expanded
lawful_of status_code = status.lawful_status_code
lawful_of qualified_name = names.lawful_qualified_name
lawful_of localized_text = lawful_localized
lawful_of extension_object = lawful_extension_object

-- the bytes of each value of a kind, where a list of it is measured by its count; else 0
abbrev pub plain_width : Plain → ℕ
plain_width boolean = 1
plain_width sbyte = 1
plain_width byte = 1
plain_width int16 = 2
plain_width uint16 = 2
plain_width int32 = 4
plain_width uint32 = 4
plain_width int64 = 8
plain_width uint64 = 8
plain_width float = 4
plain_width double = 8
plain_width string = 0
plain_width date_time = 8
plain_width guid = 0
plain_width byte_string = 0
plain_width xml_element = 0
plain_width node_id = 0
plain_width expanded_node_id = 0
plain_width status_code = 4
plain_width qualified_name = 0
plain_width localized_text = 0
plain_width extension_object = 0

abbrev pub width : Kind → ℕ
width (plain p) = plain_width p
width data_kind = 0
width variant_kind = 0
width info_kind = 0
