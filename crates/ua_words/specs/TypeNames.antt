-- The names of the built-in types.
use Rattle.std.specs.Prelude.{◌≡◌, ℕ, List, [], ◌∷◌, map}
use Rattle.std.specs.Borrow.{Bor}
use Rattle.ua_kind.specs.KindNames.{kind_name}
use Rattle.ua_kind.specs.declared.kind.Kind.{Kind}
use Rattle.ua_kind.specs.declared.kind.Kind.TheVariants.{Boolean, SByte, Byte, Int16, UInt16, Int32, UInt32, Int64, UInt64, Float, Double, String, DateTime, Guid, ByteString, XmlElement, NodeId, ExpandedNodeId, StatusCode, QualifiedName, LocalizedText, ExtensionObject, DataValue, Variant, DiagnosticInfo}

-- in the order of their numbers
abbrev pub types : List Kind
types = Boolean ∷ SByte ∷ Byte ∷ Int16 ∷ UInt16 ∷ Int32 ∷ UInt32 ∷ Int64 ∷ UInt64 ∷ Float ∷ Double ∷ String ∷ DateTime ∷ Guid ∷ ByteString ∷ XmlElement ∷ NodeId ∷ ExpandedNodeId ∷ StatusCode ∷ QualifiedName ∷ LocalizedText ∷ ExtensionObject ∷ DataValue ∷ Variant ∷ DiagnosticInfo ∷ []

-- some texts, lent from where they stand in memory
abbrev pub Lent : Type 0
Lent = Bor (List (Bor (List ℕ)))

-- these texts are the names of the types, wherever they stand
abbrev pub AreTypeNames : Lent → Type 0
AreTypeNames lent = map (λ s. s.now) lent.now ≡ map kind_name types
