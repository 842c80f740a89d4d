use Rattle.ua_json.proofs.value.add_value.Goals as goal

pub returns-in-Boolean-clause-begins : goal.returns-in-Boolean-clause-begins
returns-in-Boolean-clause-begins c = rw c.in-Boolean.is c.add.ensures.begins

pub returns-in-SByte-clause-begins : goal.returns-in-SByte-clause-begins
returns-in-SByte-clause-begins c = rw c.in-SByte.is c.add-in-SByte.ensures.begins

pub returns-in-Byte-clause-begins : goal.returns-in-Byte-clause-begins
returns-in-Byte-clause-begins c = rw c.in-Byte.is c.add-in-Byte.ensures.begins

pub returns-in-Int16-clause-begins : goal.returns-in-Int16-clause-begins
returns-in-Int16-clause-begins c = rw c.in-Int16.is c.add-in-Int16.ensures.begins

pub returns-in-UInt16-clause-begins : goal.returns-in-UInt16-clause-begins
returns-in-UInt16-clause-begins c = rw c.in-UInt16.is c.add-in-UInt16.ensures.begins

pub returns-in-Int32-clause-begins : goal.returns-in-Int32-clause-begins
returns-in-Int32-clause-begins c = rw c.in-Int32.is c.add-in-Int32.ensures.begins

pub returns-in-UInt32-clause-begins : goal.returns-in-UInt32-clause-begins
returns-in-UInt32-clause-begins c = rw c.in-UInt32.is c.add-in-UInt32.ensures.begins

pub returns-in-Int64-clause-begins : goal.returns-in-Int64-clause-begins
returns-in-Int64-clause-begins c = rw c.in-Int64.is c.add-in-Int64.ensures.begins

pub returns-in-UInt64-clause-begins : goal.returns-in-UInt64-clause-begins
returns-in-UInt64-clause-begins c = rw c.in-UInt64.is c.add-in-UInt64.ensures.begins

pub returns-in-Float-clause-begins : goal.returns-in-Float-clause-begins
returns-in-Float-clause-begins c = rw c.in-Float.is c.add-in-Float.ensures.begins

pub returns-in-Double-clause-begins : goal.returns-in-Double-clause-begins
returns-in-Double-clause-begins c = rw c.in-Double.is c.add-in-Double.ensures.begins

pub returns-in-String-clause-begins : goal.returns-in-String-clause-begins
returns-in-String-clause-begins c = rw c.in-String.is c.add-in-String.ensures.begins

pub returns-in-DateTime-clause-begins : goal.returns-in-DateTime-clause-begins
returns-in-DateTime-clause-begins c = rw c.in-DateTime.is c.add-in-DateTime.ensures.begins

pub returns-in-Guid-clause-begins : goal.returns-in-Guid-clause-begins
returns-in-Guid-clause-begins c = rw c.in-Guid.is c.add-in-Guid.ensures.begins

pub returns-in-ByteString-clause-begins : goal.returns-in-ByteString-clause-begins
returns-in-ByteString-clause-begins c = rw c.in-ByteString.is c.add-in-ByteString.ensures.begins

pub returns-in-XmlElement-clause-begins : goal.returns-in-XmlElement-clause-begins
returns-in-XmlElement-clause-begins c = rw c.in-XmlElement.is c.add-in-XmlElement.ensures.begins

pub returns-in-NodeId-clause-begins : goal.returns-in-NodeId-clause-begins
returns-in-NodeId-clause-begins c = rw c.in-NodeId.is c.add-in-NodeId.ensures.begins

pub returns-in-ExpandedNodeId-clause-begins : goal.returns-in-ExpandedNodeId-clause-begins
returns-in-ExpandedNodeId-clause-begins c = rw c.in-ExpandedNodeId.is c.add-in-ExpandedNodeId.ensures.begins

pub returns-in-StatusCode-clause-begins : goal.returns-in-StatusCode-clause-begins
returns-in-StatusCode-clause-begins c = rw c.in-StatusCode.is c.add-in-StatusCode.ensures.begins

pub returns-in-QualifiedName-clause-begins : goal.returns-in-QualifiedName-clause-begins
returns-in-QualifiedName-clause-begins c = rw c.in-QualifiedName.is c.add-in-QualifiedName.ensures.begins

pub returns-in-LocalizedText-clause-begins : goal.returns-in-LocalizedText-clause-begins
returns-in-LocalizedText-clause-begins c = rw c.in-LocalizedText.is c.add-in-LocalizedText.ensures.begins

pub returns-in-ExtensionObject-clause-begins : goal.returns-in-ExtensionObject-clause-begins
returns-in-ExtensionObject-clause-begins c = rw c.in-ExtensionObject.is c.add-in-ExtensionObject.ensures.begins

pub returns-in-DataValue-clause-begins : goal.returns-in-DataValue-clause-begins
returns-in-DataValue-clause-begins c = rw c.in-DataValue.is c.add-in-DataValue.ensures.begins

pub returns-in-Variant-clause-begins : goal.returns-in-Variant-clause-begins
returns-in-Variant-clause-begins c = rw c.in-Variant.is c.add-in-Variant.ensures.begins

pub returns-in-DiagnosticInfo-clause-begins : goal.returns-in-DiagnosticInfo-clause-begins
returns-in-DiagnosticInfo-clause-begins c = rw c.in-DiagnosticInfo.is c.add-in-DiagnosticInfo.ensures.begins
