-- The names of the built-in types.
use Rattle.std.specs.Prelude.{ℕ, List, codes}
use Rattle.ua_kind.specs.declared.kind.Kind.{Kind}
use Rattle.ua_kind.specs.declared.kind.Kind.TheVariants as kinds

abbrev pub kind_name : Kind → List ℕ
kind_name kinds.Boolean = codes "Boolean"
kind_name kinds.SByte = codes "SByte"
kind_name kinds.Byte = codes "Byte"
kind_name kinds.Int16 = codes "Int16"
kind_name kinds.UInt16 = codes "UInt16"
kind_name kinds.Int32 = codes "Int32"
kind_name kinds.UInt32 = codes "UInt32"
kind_name kinds.Int64 = codes "Int64"
kind_name kinds.UInt64 = codes "UInt64"
kind_name kinds.Float = codes "Float"
kind_name kinds.Double = codes "Double"
kind_name kinds.String = codes "String"
kind_name kinds.DateTime = codes "DateTime"
kind_name kinds.Guid = codes "Guid"
kind_name kinds.ByteString = codes "ByteString"
kind_name kinds.XmlElement = codes "XmlElement"
kind_name kinds.NodeId = codes "NodeId"
kind_name kinds.ExpandedNodeId = codes "ExpandedNodeId"
kind_name kinds.StatusCode = codes "StatusCode"
kind_name kinds.QualifiedName = codes "QualifiedName"
kind_name kinds.LocalizedText = codes "LocalizedText"
kind_name kinds.ExtensionObject = codes "ExtensionObject"
kind_name kinds.DataValue = codes "DataValue"
kind_name kinds.Variant = codes "Variant"
kind_name kinds.DiagnosticInfo = codes "DiagnosticInfo"
