-- A request whose fields are kept unread behind its header.
use Rattle.std.specs.Prelude.{◌≡◌, ◌≢◌, ◌++◌, ℕ, List}
use Rattle.ua_value.specs.declared.node.NodeId.{NodeId}
use Rattle.ua_service.specs.declared.headers.RequestHeader.{RequestHeader}
use Rattle.ua_value.specs.Node.{node_id}
use Rattle.ua_service.specs.Headers.{request_header}
use Rattle.ua_service.specs.Message.{id_of}

pub record OtherFields : Type 0 where
  pub type_id : NodeId
  pub header : RequestHeader
  pub rest : List ℕ

-- any id but those of the requests that are read
abbrev pub IsOtherId : NodeId → Type 0
IsOtherId id = (id ≢ id_of 422) × (id ≢ id_of 428)

abbrev pub IsOther : OtherFields → Type 0
IsOther o = IsOtherId o.type_id × node_id.IsValue o.type_id × request_header.IsValue o.header

-- the id, the header, and whatever follows
abbrev pub IsOtherBody : OtherFields → List ℕ → Type 0
IsOtherBody o b = IsOtherId o.type_id × (x : List ℕ) × (y : List ℕ) × node_id.grammar.spells o.type_id x × request_header.grammar.spells o.header y × (b ≡ x ++ (y ++ o.rest))

abbrev pub canon_other : OtherFields → List ℕ
canon_other o = node_id.canon o.type_id ++ (request_header.canon o.header ++ o.rest)
