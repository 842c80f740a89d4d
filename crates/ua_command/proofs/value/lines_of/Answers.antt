use Rattle.ua_command.proofs.Values.{refused_as}
use Rattle.ua_command.proofs.value.lines_of.Goals as goal

pub returns-in-Boolean-clause-ok : goal.returns-in-Boolean-clause-ok
returns-in-Boolean-clause-ok c = rw c.in-Boolean.is c.plain.ensures.ok

pub returns-in-Boolean-clause-err : goal.returns-in-Boolean-clause-err
returns-in-Boolean-clause-err c = refused_as _ _ c.args.bytes.now c.plain.result c.in-Boolean.is c.plain.ensures.err

pub returns-in-SByte-clause-ok : goal.returns-in-SByte-clause-ok
returns-in-SByte-clause-ok c = rw c.in-SByte.is c.plain-in-SByte.ensures.ok

pub returns-in-SByte-clause-err : goal.returns-in-SByte-clause-err
returns-in-SByte-clause-err c = refused_as _ _ c.args.bytes.now c.plain-in-SByte.result c.in-SByte.is c.plain-in-SByte.ensures.err

pub returns-in-Byte-clause-ok : goal.returns-in-Byte-clause-ok
returns-in-Byte-clause-ok c = rw c.in-Byte.is c.plain-in-Byte.ensures.ok

pub returns-in-Byte-clause-err : goal.returns-in-Byte-clause-err
returns-in-Byte-clause-err c = refused_as _ _ c.args.bytes.now c.plain-in-Byte.result c.in-Byte.is c.plain-in-Byte.ensures.err

pub returns-in-Int16-clause-ok : goal.returns-in-Int16-clause-ok
returns-in-Int16-clause-ok c = rw c.in-Int16.is c.plain-in-Int16.ensures.ok

pub returns-in-Int16-clause-err : goal.returns-in-Int16-clause-err
returns-in-Int16-clause-err c = refused_as _ _ c.args.bytes.now c.plain-in-Int16.result c.in-Int16.is c.plain-in-Int16.ensures.err

pub returns-in-UInt16-clause-ok : goal.returns-in-UInt16-clause-ok
returns-in-UInt16-clause-ok c = rw c.in-UInt16.is c.plain-in-UInt16.ensures.ok

pub returns-in-UInt16-clause-err : goal.returns-in-UInt16-clause-err
returns-in-UInt16-clause-err c = refused_as _ _ c.args.bytes.now c.plain-in-UInt16.result c.in-UInt16.is c.plain-in-UInt16.ensures.err

pub returns-in-Int32-clause-ok : goal.returns-in-Int32-clause-ok
returns-in-Int32-clause-ok c = rw c.in-Int32.is c.plain-in-Int32.ensures.ok

pub returns-in-Int32-clause-err : goal.returns-in-Int32-clause-err
returns-in-Int32-clause-err c = refused_as _ _ c.args.bytes.now c.plain-in-Int32.result c.in-Int32.is c.plain-in-Int32.ensures.err

pub returns-in-UInt32-clause-ok : goal.returns-in-UInt32-clause-ok
returns-in-UInt32-clause-ok c = rw c.in-UInt32.is c.plain-in-UInt32.ensures.ok

pub returns-in-UInt32-clause-err : goal.returns-in-UInt32-clause-err
returns-in-UInt32-clause-err c = refused_as _ _ c.args.bytes.now c.plain-in-UInt32.result c.in-UInt32.is c.plain-in-UInt32.ensures.err

pub returns-in-Int64-clause-ok : goal.returns-in-Int64-clause-ok
returns-in-Int64-clause-ok c = rw c.in-Int64.is c.plain-in-Int64.ensures.ok

pub returns-in-Int64-clause-err : goal.returns-in-Int64-clause-err
returns-in-Int64-clause-err c = refused_as _ _ c.args.bytes.now c.plain-in-Int64.result c.in-Int64.is c.plain-in-Int64.ensures.err

pub returns-in-UInt64-clause-ok : goal.returns-in-UInt64-clause-ok
returns-in-UInt64-clause-ok c = rw c.in-UInt64.is c.plain-in-UInt64.ensures.ok

pub returns-in-UInt64-clause-err : goal.returns-in-UInt64-clause-err
returns-in-UInt64-clause-err c = refused_as _ _ c.args.bytes.now c.plain-in-UInt64.result c.in-UInt64.is c.plain-in-UInt64.ensures.err

pub returns-in-Float-clause-ok : goal.returns-in-Float-clause-ok
returns-in-Float-clause-ok c = rw c.in-Float.is c.plain-in-Float.ensures.ok

pub returns-in-Float-clause-err : goal.returns-in-Float-clause-err
returns-in-Float-clause-err c = refused_as _ _ c.args.bytes.now c.plain-in-Float.result c.in-Float.is c.plain-in-Float.ensures.err

pub returns-in-Double-clause-ok : goal.returns-in-Double-clause-ok
returns-in-Double-clause-ok c = rw c.in-Double.is c.plain-in-Double.ensures.ok

pub returns-in-Double-clause-err : goal.returns-in-Double-clause-err
returns-in-Double-clause-err c = refused_as _ _ c.args.bytes.now c.plain-in-Double.result c.in-Double.is c.plain-in-Double.ensures.err

pub returns-in-String-clause-ok : goal.returns-in-String-clause-ok
returns-in-String-clause-ok c = rw c.in-String.is c.plain-in-String.ensures.ok

pub returns-in-String-clause-err : goal.returns-in-String-clause-err
returns-in-String-clause-err c = refused_as _ _ c.args.bytes.now c.plain-in-String.result c.in-String.is c.plain-in-String.ensures.err

pub returns-in-DateTime-clause-ok : goal.returns-in-DateTime-clause-ok
returns-in-DateTime-clause-ok c = rw c.in-DateTime.is c.plain-in-DateTime.ensures.ok

pub returns-in-DateTime-clause-err : goal.returns-in-DateTime-clause-err
returns-in-DateTime-clause-err c = refused_as _ _ c.args.bytes.now c.plain-in-DateTime.result c.in-DateTime.is c.plain-in-DateTime.ensures.err

pub returns-in-Guid-clause-ok : goal.returns-in-Guid-clause-ok
returns-in-Guid-clause-ok c = rw c.in-Guid.is c.guid.ensures.ok

pub returns-in-Guid-clause-err : goal.returns-in-Guid-clause-err
returns-in-Guid-clause-err c = refused_as _ _ c.args.bytes.now c.guid.result c.in-Guid.is c.guid.ensures.err

pub returns-in-ByteString-clause-ok : goal.returns-in-ByteString-clause-ok
returns-in-ByteString-clause-ok c = rw c.in-ByteString.is c.plain-in-ByteString.ensures.ok

pub returns-in-ByteString-clause-err : goal.returns-in-ByteString-clause-err
returns-in-ByteString-clause-err c = refused_as _ _ c.args.bytes.now c.plain-in-ByteString.result c.in-ByteString.is c.plain-in-ByteString.ensures.err

pub returns-in-XmlElement-clause-ok : goal.returns-in-XmlElement-clause-ok
returns-in-XmlElement-clause-ok c = rw c.in-XmlElement.is c.plain-in-XmlElement.ensures.ok

pub returns-in-XmlElement-clause-err : goal.returns-in-XmlElement-clause-err
returns-in-XmlElement-clause-err c = refused_as _ _ c.args.bytes.now c.plain-in-XmlElement.result c.in-XmlElement.is c.plain-in-XmlElement.ensures.err

pub returns-in-NodeId-clause-ok : goal.returns-in-NodeId-clause-ok
returns-in-NodeId-clause-ok c = rw c.in-NodeId.is c.node_id.ensures.ok

pub returns-in-NodeId-clause-err : goal.returns-in-NodeId-clause-err
returns-in-NodeId-clause-err c = refused_as _ _ c.args.bytes.now c.node_id.result c.in-NodeId.is c.node_id.ensures.err

pub returns-in-ExpandedNodeId-clause-ok : goal.returns-in-ExpandedNodeId-clause-ok
returns-in-ExpandedNodeId-clause-ok c = rw c.in-ExpandedNodeId.is c.plain-in-ExpandedNodeId.ensures.ok

pub returns-in-ExpandedNodeId-clause-err : goal.returns-in-ExpandedNodeId-clause-err
returns-in-ExpandedNodeId-clause-err c = refused_as _ _ c.args.bytes.now c.plain-in-ExpandedNodeId.result c.in-ExpandedNodeId.is c.plain-in-ExpandedNodeId.ensures.err

pub returns-in-StatusCode-clause-ok : goal.returns-in-StatusCode-clause-ok
returns-in-StatusCode-clause-ok c = rw c.in-StatusCode.is c.plain-in-StatusCode.ensures.ok

pub returns-in-StatusCode-clause-err : goal.returns-in-StatusCode-clause-err
returns-in-StatusCode-clause-err c = refused_as _ _ c.args.bytes.now c.plain-in-StatusCode.result c.in-StatusCode.is c.plain-in-StatusCode.ensures.err

pub returns-in-QualifiedName-clause-ok : goal.returns-in-QualifiedName-clause-ok
returns-in-QualifiedName-clause-ok c = rw c.in-QualifiedName.is c.plain-in-QualifiedName.ensures.ok

pub returns-in-QualifiedName-clause-err : goal.returns-in-QualifiedName-clause-err
returns-in-QualifiedName-clause-err c = refused_as _ _ c.args.bytes.now c.plain-in-QualifiedName.result c.in-QualifiedName.is c.plain-in-QualifiedName.ensures.err

pub returns-in-LocalizedText-clause-ok : goal.returns-in-LocalizedText-clause-ok
returns-in-LocalizedText-clause-ok c = rw c.in-LocalizedText.is c.plain-in-LocalizedText.ensures.ok

pub returns-in-LocalizedText-clause-err : goal.returns-in-LocalizedText-clause-err
returns-in-LocalizedText-clause-err c = refused_as _ _ c.args.bytes.now c.plain-in-LocalizedText.result c.in-LocalizedText.is c.plain-in-LocalizedText.ensures.err

pub returns-in-ExtensionObject-clause-ok : goal.returns-in-ExtensionObject-clause-ok
returns-in-ExtensionObject-clause-ok c = rw c.in-ExtensionObject.is c.plain-in-ExtensionObject.ensures.ok

pub returns-in-ExtensionObject-clause-err : goal.returns-in-ExtensionObject-clause-err
returns-in-ExtensionObject-clause-err c = refused_as _ _ c.args.bytes.now c.plain-in-ExtensionObject.result c.in-ExtensionObject.is c.plain-in-ExtensionObject.ensures.err

pub returns-in-DataValue-clause-ok : goal.returns-in-DataValue-clause-ok
returns-in-DataValue-clause-ok c = rw c.in-DataValue.is c.plain-in-DataValue.ensures.ok

pub returns-in-DataValue-clause-err : goal.returns-in-DataValue-clause-err
returns-in-DataValue-clause-err c = refused_as _ _ c.args.bytes.now c.plain-in-DataValue.result c.in-DataValue.is c.plain-in-DataValue.ensures.err

pub returns-in-Variant-clause-ok : goal.returns-in-Variant-clause-ok
returns-in-Variant-clause-ok c = rw c.in-Variant.is c.plain-in-Variant.ensures.ok

pub returns-in-Variant-clause-err : goal.returns-in-Variant-clause-err
returns-in-Variant-clause-err c = refused_as _ _ c.args.bytes.now c.plain-in-Variant.result c.in-Variant.is c.plain-in-Variant.ensures.err

pub returns-in-DiagnosticInfo-clause-ok : goal.returns-in-DiagnosticInfo-clause-ok
returns-in-DiagnosticInfo-clause-ok c = rw c.in-DiagnosticInfo.is c.plain-in-DiagnosticInfo.ensures.ok

pub returns-in-DiagnosticInfo-clause-err : goal.returns-in-DiagnosticInfo-clause-err
returns-in-DiagnosticInfo-clause-err c = refused_as _ _ c.args.bytes.now c.plain-in-DiagnosticInfo.result c.in-DiagnosticInfo.is c.plain-in-DiagnosticInfo.ensures.err
