-- Node ids with the URI of a namespace and the index of a server (OPC 10000-6, 5.2.2.10).
use Rattle.std.specs.Prelude.{◌<◌, ◌+◌, ◌^◌, ◌%◌, ◌==◌, ℕ, Bool, List, [], ◌∷◌, ◌++◌, Option, None, not, if◌then◌else◌}
use Rattle.std.specs.Int.{w32, to_le_bytes}
use Rattle.ua_value.specs.declared.expanded.ExpandedNodeId.{ExpandedNodeId}
use Rattle.ua_value.specs.declared.node.NodeId.{NodeId}
use Rattle.ua_value.specs.Format.{Grammar, Format}
use Rattle.ua_value.specs.Number.{unsigned}
use Rattle.ua_value.specs.Text.{string}
use Rattle.ua_value.specs.Localized.{has, is_there, canon_part, flag}
use Rattle.ua_value.specs.Sequence.{both, made, part, headed}
use Rattle.ua_value.specs.Node.{node_behind, node_id}

abbrev pub expanded_of : NodeId × (Option (List ℕ) × ℕ) → ExpandedNodeId
expanded_of p = record { node_id = p.0; namespace_uri = p.1.0; server_index = p.1.1 }

-- a form of a node id in the low six bits, and a flag for the URI and one for the index; a flagged null or zero reads as absent
abbrev pub expanded_behind : ℕ → Grammar ExpandedNodeId
expanded_behind k = made expanded_of (both (node_behind (k % 64)) (both (part (has k 0x80) None string.grammar) (part (has k 0x40) 0 (unsigned w32).grammar)))

-- with flags in the first byte
unfoldable pub raised : ℕ → List ℕ → List ℕ
raised flags [] = []
raised flags (k ∷ rest) = (k + flags) ∷ rest

abbrev pub is_nonzero : ℕ → Bool
is_nonzero n = not (n == 0)

abbrev pub canon_index : ℕ → List ℕ
canon_index n = if n == 0 then [] else to_le_bytes w32 n

unfoldable pub expanded_node_id : Format ExpandedNodeId
expanded_node_id = record {
  grammar = headed expanded_behind;
  canon = λ v. raised (flag (is_there v.namespace_uri) 0x80 + flag (is_nonzero v.server_index) 0x40) (node_id.canon v.node_id) ++ (canon_part v.namespace_uri ++ canon_index v.server_index);
  IsValue = λ v. node_id.IsValue v.node_id × string.IsValue v.namespace_uri × (v.server_index < 2 ^ 32);
}
