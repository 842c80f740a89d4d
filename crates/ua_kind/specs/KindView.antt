-- The built-in types in code, as the kinds that they stand for.
use Rattle.ua_kind.specs.declared.kind.Kind.{Kind}
use Rattle.ua_kind.specs.declared.kind.Kind.TheVariants as kinds
use Rattle.ua_kind.specs.Kinds as spec_kinds
use Rattle.ua_kind.specs.Kinds.{plain}

abbrev pub kind_of : Kind → spec_kinds.Kind
kind_of kinds.Boolean = plain spec_kinds.boolean
kind_of kinds.SByte = plain spec_kinds.sbyte
kind_of kinds.Byte = plain spec_kinds.byte
kind_of kinds.Int16 = plain spec_kinds.int16
kind_of kinds.UInt16 = plain spec_kinds.uint16
kind_of kinds.Int32 = plain spec_kinds.int32
kind_of kinds.UInt32 = plain spec_kinds.uint32
kind_of kinds.Int64 = plain spec_kinds.int64
kind_of kinds.UInt64 = plain spec_kinds.uint64
kind_of kinds.Float = plain spec_kinds.float
kind_of kinds.Double = plain spec_kinds.double
kind_of kinds.String = plain spec_kinds.string
kind_of kinds.DateTime = plain spec_kinds.date_time
kind_of kinds.Guid = plain spec_kinds.guid
kind_of kinds.ByteString = plain spec_kinds.byte_string
kind_of kinds.XmlElement = plain spec_kinds.xml_element
kind_of kinds.NodeId = plain spec_kinds.node_id
kind_of kinds.ExpandedNodeId = plain spec_kinds.expanded_node_id
kind_of kinds.StatusCode = plain spec_kinds.status_code
kind_of kinds.QualifiedName = plain spec_kinds.qualified_name
kind_of kinds.LocalizedText = plain spec_kinds.localized_text
kind_of kinds.ExtensionObject = plain spec_kinds.extension_object
kind_of kinds.DataValue = spec_kinds.data_kind
kind_of kinds.Variant = spec_kinds.variant_kind
kind_of kinds.DiagnosticInfo = spec_kinds.info_kind
