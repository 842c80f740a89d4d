use Rattle.std.proofs.Common.{◌≡◌, ◌≤◌, ◌<◌, ◌+◌, ◌^◌, ◌==◌, ℕ, zero, suc, Bool, true, false, cond, List, [], ◌∷◌, ◌++◌, length, Option, Some, None, refl, sym, ap, subst, arith, length-append, add-zero}
use Rattle.std.specs.Prelude.{◌%◌, not}
use Rattle.std.specs.Int.{w32, to_le_bytes}
use Rattle.std.proofs.lemmas.Bool.{eqb-true}
use Rattle.ua_value.specs.declared.expanded.ExpandedNodeId.{ExpandedNodeId}
use Rattle.ua_value.specs.Format.{IsGrammar, IsLawful, input_limit}
use Rattle.ua_value.specs.Number.{unsigned}
use Rattle.ua_value.specs.NumberLaws.{unsigned_reads, wide_32}
use Rattle.ua_value.specs.Text.{string}
use Rattle.ua_value.specs.TextLaws.{lawful_string}
use Rattle.ua_value.specs.Localized.{has, is_there, canon_part, flag}
use Rattle.ua_value.specs.LocalizedLaws.{shortest_part, part_value}
use Rattle.ua_value.specs.Sequence.{part, headed}
use Rattle.ua_value.specs.SequenceLaws.{both_reads, made_reads, part_reads, headed_reads}
use Rattle.ua_value.specs.Node.{node_behind, node_id}
use Rattle.ua_value.specs.NodeLaws.{node_reads, small_form, lawful_node, shorter_behind, value_behind}
use Rattle.ua_value.specs.Expanded.{expanded_of, expanded_behind, raised, is_nonzero, canon_index, expanded_node_id}

pub raised_zero : (bytes : List ℕ) → raised 0 bytes ≡ bytes
unfolding raised
raised_zero [] = refl
raised_zero (k ∷ rest) = ap (λ (n : ℕ). n ∷ rest) (add-zero k)

pub length-raised : (flags : ℕ) (bytes : List ℕ) → length (raised flags bytes) ≡ length bytes
unfolding raised
length-raised flags [] = refl
length-raised flags (k ∷ rest) = refl

pub expanded_reads : IsGrammar (headed expanded_behind)
expanded_reads = headed_reads expanded_behind (λ k. made_reads expanded_of _ (both_reads _ _ (node_reads (k % 64)) (both_reads _ _ (part_reads (has k 0x80) None string.grammar lawful_string.reads) (part_reads (has k 0x40) 0 (unsigned w32).grammar (unsigned_reads w32 wide_32)))))

-- ---- the flags in the first byte

-- what the byte of a form with flags says
pub record IsFlagged (k : ℕ) (uri server : Bool) : Type 0 where
  pub below : k + (flag uri 0x80 + flag server 0x40) < 256
  pub has_uri : has (k + (flag uri 0x80 + flag server 0x40)) 0x80 ≡ uri
  pub has_server : has (k + (flag uri 0x80 + flag server 0x40)) 0x40 ≡ server
  pub form : (k + (flag uri 0x80 + flag server 0x40)) % 64 ≡ k

each_form : (P : ℕ → Type 0) → P 0 → P 1 → P 2 → P 3 → P 4 → P 5 → (k : ℕ) → k ≤ 5 → P k
each_form P a b c d e f zero le = a
each_form P a b c d e f (suc zero) le = b
each_form P a b c d e f (suc (suc zero)) le = c
each_form P a b c d e f (suc (suc (suc zero))) le = d
each_form P a b c d e f (suc (suc (suc (suc zero)))) le = e
each_form P a b c d e f (suc (suc (suc (suc (suc zero))))) le = f
each_form P a b c d e f (suc (suc (suc (suc (suc (suc k)))))) le = absurd (omega arith)

-- the two flags and the form that a byte says
abbrev said : ℕ → Bool × Bool × ℕ
said m = (has m 0x80, has m 0x40, m % 64)

said_by : (uri server : Bool) (k : ℕ) → k ≤ 5 → said (k + (flag uri 0x80 + flag server 0x40)) ≡ (uri, server, k)
said_by false false k le = each_form (λ n. said (n + (flag false 0x80 + flag false 0x40)) ≡ (false, false, n)) refl refl refl refl refl refl k le
said_by false true k le = each_form (λ n. said (n + (flag false 0x80 + flag true 0x40)) ≡ (false, true, n)) refl refl refl refl refl refl k le
said_by true false k le = each_form (λ n. said (n + (flag true 0x80 + flag false 0x40)) ≡ (true, false, n)) refl refl refl refl refl refl k le
said_by true true k le = each_form (λ n. said (n + (flag true 0x80 + flag true 0x40)) ≡ (true, true, n)) refl refl refl refl refl refl k le

below_by : (uri server : Bool) (k : ℕ) → k ≤ 5 → k + (flag uri 0x80 + flag server 0x40) < 256
below_by false false k le = omega arith
below_by false true k le = omega arith
below_by true false k le = omega arith
below_by true true k le = omega arith

flagged : (uri server : Bool) (k : ℕ) → k ≤ 5 → IsFlagged k uri server
flagged uri server k le =
    let e = said_by uri server k le in
    record { below = below_by uri server k le; has_uri = ap (λ (x : Bool × Bool × ℕ). x.0) e; has_server = ap (λ (x : Bool × Bool × ℕ). x.1) e; form = ap (λ (x : Bool × Bool × ℕ). x.2) e }

-- ---- the parts

canonical_part : (v : Option (List ℕ)) → string.IsValue v → (part (is_there v) None string.grammar).spells v (canon_part v)
canonical_part None h = (refl, refl)
canonical_part (Some v) h = lawful_string.canonical (Some v) h

canonical_index : (b : Bool) (n : ℕ) → (n == 0) ≡ b → n < 2 ^ 32 → (part (not b) 0 (unsigned w32).grammar).spells n (cond b [] (to_le_bytes w32 n))
unfolding unsigned
canonical_index true n e h = (eqb-true _ _ e, refl)
canonical_index false n e h = (h, refl)

index_length : (b : Bool) (n : ℕ) → length (cond b [] (to_le_bytes w32 n)) ≤ 4
index_length true n = omega arith
index_length false n = omega arith

shortest_index : (p : Bool) (n : ℕ) (a : List ℕ) → (part p 0 (unsigned w32).grammar).spells n a → length (canon_index n) ≤ length a
unfolding unsigned
shortest_index true n a s = omega (arith, ap length s.1, index_length (n == 0) n)
shortest_index false n a s = let P : ℕ → Type 0 = λ k. length (canon_index k) ≤ length a in subst P (sym s.0) (omega arith)

index_value : (p : Bool) (n : ℕ) (a : List ℕ) → (part p 0 (unsigned w32).grammar).spells n a → n < 2 ^ 32
unfolding unsigned
index_value true n a s = s.0
index_value false n a s = omega (arith, s.0)

-- ---- the whole

pub length_expanded : (v : ExpandedNodeId) → length (expanded_node_id.canon v) ≡ length (node_id.canon v.node_id) + length (canon_part v.namespace_uri) + length (canon_index v.server_index)
unfolding expanded_node_id
length_expanded v =
    let flags = flag (is_there v.namespace_uri) 0x80 + flag (is_nonzero v.server_index) 0x40 in
    omega (arith, length-raised flags (node_id.canon v.node_id), length-append (raised flags (node_id.canon v.node_id)) (canon_part v.namespace_uri ++ canon_index v.server_index), length-append (canon_part v.namespace_uri) (canon_index v.server_index))

canonical_expanded : (v : ExpandedNodeId) → expanded_node_id.IsValue v → expanded_node_id.grammar.spells v (expanded_node_id.canon v)
unfolding expanded_node_id node_id raised
canonical_expanded v h =
    let s = lawful_node.canonical v.node_id h.0 in
    let f = flagged (is_there v.namespace_uri) (is_nonzero v.server_index) s.0 (small_form s.0 v.node_id s.1 s.3) in
    let flags = flag (is_there v.namespace_uri) 0x80 + flag (is_nonzero v.server_index) 0x40 in
    let node = subst (λ (k : ℕ). (node_behind k).spells v.node_id s.1) (sym f.form) s.3 in
    let uri = subst (λ (b : Bool). (part b None string.grammar).spells v.namespace_uri (canon_part v.namespace_uri)) (sym f.has_uri) (canonical_part v.namespace_uri h.1) in
    let server = subst (λ (b : Bool). (part b 0 (unsigned w32).grammar).spells v.server_index (canon_index v.server_index)) (sym f.has_server) (canonical_index (v.server_index == 0) v.server_index refl h.2) in (
      s.0 + flags,
      s.1 ++ (canon_part v.namespace_uri ++ canon_index v.server_index),
      f.below,
      ((v.node_id, (v.namespace_uri, v.server_index)), (s.1, canon_part v.namespace_uri ++ canon_index v.server_index, node, (canon_part v.namespace_uri, canon_index v.server_index, uri, server, refl), refl), refl),
      ap (λ (l : List ℕ). raised flags l ++ (canon_part v.namespace_uri ++ canon_index v.server_index)) s.4,
    )

shortest_expanded : (v : ExpandedNodeId) (a : List ℕ) → expanded_node_id.grammar.spells v a → length (expanded_node_id.canon v) ≤ length a
unfolding expanded_node_id node_id
shortest_expanded v a s =
    let P : ExpandedNodeId → Type 0 = λ w. length (node_id.canon w.node_id) + length (canon_part w.namespace_uri) + length (canon_index w.server_index) ≤ suc (length s.1) in
    let p = s.3 in
    let within : P (expanded_of p.0) = omega (
      arith,
      shorter_behind (s.0 % 64) p.0.0 p.1.0 p.1.2,
      shortest_part (has s.0 0x80) p.0.1.0 p.1.3.0 p.1.3.2,
      shortest_index (has s.0 0x40) p.0.1.1 p.1.3.1 p.1.3.3,
      ap length p.1.4,
      ap length p.1.3.4,
      length-append p.1.0 p.1.1,
      length-append p.1.3.0 p.1.3.1,
    ) in
    let shown : P v = subst P (sym p.2) within in
    omega (arith, length_expanded v, shown, ap length s.4)

value_expanded : (v : ExpandedNodeId) (a : List ℕ) → expanded_node_id.grammar.spells v a → length a ≤ input_limit → expanded_node_id.IsValue v
unfolding expanded_node_id node_id
value_expanded v a s h =
    let p = s.3 in
    let size : length p.1.0 + (length p.1.3.0 + length p.1.3.1) ≤ input_limit = omega (arith, ap length s.4, ap length p.1.4, ap length p.1.3.4, length-append p.1.0 p.1.1, length-append p.1.3.0 p.1.3.1) in
    subst (λ (w : ExpandedNodeId). expanded_node_id.IsValue w) (sym p.2)
    (value_behind (s.0 % 64) p.0.0 p.1.0 p.1.2 (omega arith), part_value (has s.0 0x80) p.0.1.0 p.1.3.0 p.1.3.2 (omega arith), index_value (has s.0 0x40) p.0.1.1 p.1.3.1 p.1.3.3)

pub lawful_expanded : IsLawful expanded_node_id
unfolding expanded_node_id
lawful_expanded = record {
  reads = expanded_reads;
  nonempty = λ v a s. omega (arith, ap length s.4);
  canonical = canonical_expanded;
  shortest = shortest_expanded;
  a_value = value_expanded;
}
