-- Bodies of messages, OPC 10000-6, 5.2.9: an encoding id as a NodeId, the fields, and nothing more.
use Rattle.std.specs.Prelude.{◌≡◌, ℕ, ◌==◌, ◌&&◌, ◌++◌, ◌↔◌, Bool, false, List, Option, Some, None, if◌then◌else◌}
use Rattle.ua_value.specs.declared.node.NodeId.{NodeId}
use Rattle.ua_value.specs.declared.node.Identifier.{Identifier}
use Rattle.ua_value.specs.declared.node.Identifier.TheVariants as identifiers
use Rattle.ua_value.specs.Format.{◌>>=◌, IsBytes, Format}
use Rattle.ua_value.specs.Sequence.{both}
use Rattle.ua_value.specs.Whole.{only}
use Rattle.ua_value.specs.Node.{node_id, two_byte}

-- Which bytes are a body of which message, the message that the whole bytes are a body of, and the body that is written.
pub record Message (V : Type 0) : Type 1 where
  pub IsBody : V → List ℕ → Type 0
  pub message_of : List ℕ → Option V
  pub canon : V → List ℕ
  pub IsValue : V → Type 0

-- the number n in namespace 0
abbrev pub id_of : ℕ → NodeId
id_of n = two_byte n

abbrev pub is_number : ℕ → Identifier → Bool
is_number n (identifiers.Numeric k) = k == n
is_number n (identifiers.String t) = false
is_number n (identifiers.Guid g) = false
is_number n (identifiers.Opaque b) = false

abbrev pub is_id : ℕ → NodeId → Bool
is_id n id = id.namespace_index == 0 && is_number n id.identifier

-- the whole bytes are a spelling of the id n and then one of the fields
abbrev pub IsBodyOf : {V : Type 0} → ℕ → Format V → V → List ℕ → Type 0
IsBodyOf n f v b = (both node_id.grammar f.grammar).spells (id_of n, v) b

abbrev pub canon_of : {V : Type 0} → ℕ → Format V → V → List ℕ
canon_of n f v = node_id.canon (id_of n) ++ f.canon v

-- what follows the id
abbrev pub fields_of : {V : Type 0} → ℕ → Format V → NodeId → List ℕ → Option V
fields_of n f id bytes = if is_id n id then only f.grammar bytes else None

unfoldable pub message : {V : Type 0} → ℕ → Format V → Message V
message n f = record {
  IsBody = IsBodyOf n f;
  message_of = λ bytes. node_id.grammar.front bytes >>= λ id. fields_of n f id.0 id.1;
  canon = canon_of n f;
  IsValue = f.IsValue;
}

-- the bytes are a body of the message exactly where they are read as it
abbrev pub AgreeOn : {V : Type 0} → Message V → Type 0
AgreeOn {V} m = (v : V) (bytes : List ℕ) → IsBytes bytes → (m.message_of bytes ≡ Some v) ↔ m.IsBody v bytes

-- bytes are a body of one message at most
abbrev pub HasOneMessage : {V : Type 0} → Message V → Type 0
HasOneMessage {V} m = (v w : V) (bytes : List ℕ) → m.IsBody v bytes → m.IsBody w bytes → v ≡ w
