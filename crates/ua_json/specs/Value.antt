-- How the values of each built-in type are spelled, and what of them bytes begin with.
use Rattle.std.specs.Prelude.{ℕ, List, Result, Ok, Err}
use Rattle.std.specs.Int.{w8, w16, w32, w64}
use Rattle.ua_value.specs.Format.{Format, Reads, BeginsNone}
use Rattle.ua_value.specs.declared.fault.ReadFault.{ReadFault}
use Rattle.ua_value.specs.declared.fault.ReadFault.TheVariants.{Refused, NoMemory}
use Rattle.ua_value.specs.Number.{unsigned, signed, boolean}
use Rattle.ua_value.specs.Bits.{float_bits, double_bits}
use Rattle.ua_value.specs.Text.{string, xml_element, byte_string}
use Rattle.ua_value.specs.Date.{date_time}
use Rattle.ua_value.specs.Guid.{guid}
use Rattle.ua_value.specs.Node.{node_id}
use Rattle.ua_value.specs.Expanded.{expanded_node_id}
use Rattle.ua_value.specs.Status.{status_code}
use Rattle.ua_value.specs.Names.{qualified_name}
use Rattle.ua_value.specs.Localized.{localized_text}
use Rattle.ua_variant.specs.Extension.{extension_object}
use Rattle.ua_variant.specs.Formats.{variant_format, data_format}
use Rattle.ua_variant.specs.Diagnostic.{diagnostic}
use Rattle.ua_kind.specs.declared.kind.Kind.{Kind}
use Rattle.ua_kind.specs.declared.kind.Kind.TheVariants as types

-- A beginning of the bytes spells a value, or none does. For want of memory nothing is said.
abbrev pub Begins : {V : Type 0} → Format V → List ℕ → Result (Unit {0}) ReadFault → Type 0
Begins {V} f bytes (Ok u) = (x : V × ℕ) × Reads f bytes (Ok x)
Begins f bytes (Err Refused) = BeginsNone f.grammar bytes
Begins f bytes (Err NoMemory) = Unit {0}

-- how the values of a type are spelled
pub record Spelling : Type 1 where
  pub Value : Type 0
  pub format : Format Value

abbrev pub by : {V : Type 0} → Format V → Spelling
by {V} f = record { Value = V; format = f }

-- the built-in types by their kinds (OPC 10000-6, 5.2.2)
abbrev pub spelling_of : Kind → Spelling
spelling_of types.Boolean = by boolean
spelling_of types.SByte = by (signed w8)
spelling_of types.Byte = by (unsigned w8)
spelling_of types.Int16 = by (signed w16)
spelling_of types.UInt16 = by (unsigned w16)
spelling_of types.Int32 = by (signed w32)
spelling_of types.UInt32 = by (unsigned w32)
spelling_of types.Int64 = by (signed w64)
spelling_of types.UInt64 = by (unsigned w64)
spelling_of types.Float = by float_bits
spelling_of types.Double = by double_bits
spelling_of types.String = by string
spelling_of types.DateTime = by date_time
spelling_of types.Guid = by guid
spelling_of types.ByteString = by byte_string
spelling_of types.XmlElement = by xml_element
spelling_of types.NodeId = by node_id
spelling_of types.ExpandedNodeId = by expanded_node_id
spelling_of types.StatusCode = by status_code
spelling_of types.QualifiedName = by qualified_name
spelling_of types.LocalizedText = by localized_text
spelling_of types.ExtensionObject = by extension_object
spelling_of types.DataValue = by data_format
spelling_of types.Variant = by variant_format
spelling_of types.DiagnosticInfo = by diagnostic

-- the same of a type by its kind
abbrev pub BeginsKind : Kind → List ℕ → Result (Unit {0}) ReadFault → Type 0
BeginsKind kind = Begins (spelling_of kind).format
