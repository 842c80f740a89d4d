-- Node ids (OPC 10000-6, 5.2.2.9): an encoding byte, and what it says.
use Rattle.std.specs.Prelude.{◌<◌, ◌==◌, ℕ, List, [], ◌∷◌, ◌++◌, Option, if◌then◌else◌, nat_lt, ◌&&◌, ◌^◌}
use Rattle.std.specs.Int.{w8, w16, w32, to_le_bytes}
use Rattle.ua_value.specs.declared.guid.Guid.{Guid}
use Rattle.ua_value.specs.declared.node.NodeId.{NodeId}
use Rattle.ua_value.specs.declared.node.Identifier.{Identifier}
use Rattle.ua_value.specs.declared.node.Identifier.TheVariants as identifiers
use Rattle.ua_value.specs.Format.{Grammar, Format}
use Rattle.ua_value.specs.Number.{unsigned}
use Rattle.ua_value.specs.Text.{string, byte_string}
use Rattle.ua_value.specs.Guid.{guid}
use Rattle.ua_value.specs.Sequence.{both, made, never, either, headed}

abbrev pub two_byte : ℕ → NodeId
two_byte id = record { namespace_index = 0; identifier = identifiers.Numeric id }

abbrev pub numeric : ℕ × ℕ → NodeId
numeric p = record { namespace_index = p.0; identifier = identifiers.Numeric p.1 }

abbrev pub textual : ℕ × Option (List ℕ) → NodeId
textual p = record { namespace_index = p.0; identifier = identifiers.String p.1 }

abbrev pub unique_id : ℕ × Guid → NodeId
unique_id p = record { namespace_index = p.0; identifier = identifiers.Guid p.1 }

abbrev pub opaque : ℕ × Option (List ℕ) → NodeId
opaque p = record { namespace_index = p.0; identifier = identifiers.Opaque p.1 }

-- what follows the encoding byte
abbrev pub node_behind : ℕ → Grammar NodeId
node_behind k =
    either (k == 0) (made two_byte (unsigned w8).grammar)
    (either (k == 1) (made numeric (both (unsigned w8).grammar (unsigned w16).grammar))
    (either (k == 2) (made numeric (both (unsigned w16).grammar (unsigned w32).grammar))
    (either (k == 3) (made textual (both (unsigned w16).grammar string.grammar))
    (either (k == 4) (made unique_id (both (unsigned w16).grammar guid.grammar))
    (either (k == 5) (made opaque (both (unsigned w16).grammar byte_string.grammar)) never)))))

-- the shortest form of a number
abbrev pub canon_numeric : ℕ → ℕ → List ℕ
canon_numeric namespace id =
    if nat_lt namespace 1 && nat_lt id 256 then 0 ∷ id ∷ []
    else (if nat_lt namespace 256 && nat_lt id 65536 then 1 ∷ namespace ∷ to_le_bytes w16 id
    else 2 ∷ to_le_bytes w16 namespace ++ to_le_bytes w32 id)

abbrev pub canon_identifier : ℕ → Identifier → List ℕ
canon_identifier namespace (identifiers.Numeric id) = canon_numeric namespace id
canon_identifier namespace (identifiers.String t) = 3 ∷ to_le_bytes w16 namespace ++ string.canon t
canon_identifier namespace (identifiers.Guid g) = 4 ∷ to_le_bytes w16 namespace ++ guid.canon g
canon_identifier namespace (identifiers.Opaque t) = 5 ∷ to_le_bytes w16 namespace ++ byte_string.canon t

abbrev pub IsIdentifier : Identifier → Type 0
IsIdentifier (identifiers.Numeric id) = id < 2 ^ 32
IsIdentifier (identifiers.String t) = string.IsValue t
IsIdentifier (identifiers.Guid g) = guid.IsValue g
IsIdentifier (identifiers.Opaque t) = byte_string.IsValue t

unfoldable pub node_id : Format NodeId
node_id = record {
  grammar = headed node_behind;
  canon = λ n. canon_identifier n.namespace_index n.identifier;
  IsValue = λ n. (n.namespace_index < 2 ^ 16) × IsIdentifier n.identifier;
}
