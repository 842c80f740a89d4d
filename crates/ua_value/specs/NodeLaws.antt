use Rattle.std.proofs.Common.{◌≡◌, ◌≤◌, ◌<◌, ◌^◌, ◌==◌, ℕ, suc, Bool, true, false, cond, List, [], ◌∷◌, ◌++◌, length, Option, refl, sym, ap, ◌∙◌, subst, arith, lit<, length-append, None, inl, inr}
use Rattle.std.specs.Prelude.{nat_lt, ◌&&◌, ◌%◌}
use Rattle.std.proofs.lemmas.Bool.Decides.{nat_tests}
use Rattle.std.proofs.lemmas.Bool.{ne_eqb, cases_lt}
use Rattle.std.specs.Int.{w8, w16, w32, to_le_bytes}
use Rattle.ua_value.specs.declared.node.NodeId.{NodeId}
use Rattle.ua_value.specs.declared.node.Identifier.{Identifier}
use Rattle.ua_value.specs.declared.node.Identifier.TheVariants as identifiers
use Rattle.ua_value.specs.Format.{IsGrammar, IsLawful, input_limit}
use Rattle.ua_value.specs.Number.{unsigned}
use Rattle.ua_value.specs.NumberLaws.{lawful_unsigned, wide_8, wide_16, wide_32}
use Rattle.ua_value.specs.Text.{string, byte_string}
use Rattle.ua_value.specs.TextLaws.{lawful_string, lawful_byte_string}
use Rattle.ua_value.specs.Guid.{guid}
use Rattle.ua_value.specs.GuidLaws.{lawful_guid}
use Rattle.ua_value.specs.Sequence.{both, made, never, either, headed}
use Rattle.ua_value.specs.SequenceLaws.{both_reads, made_reads, never_reads, either_reads, headed_reads}
use Rattle.ua_value.specs.Node.{two_byte, numeric, textual, unique_id, opaque, node_behind, canon_identifier, IsIdentifier, node_id}

pub node_reads : (k : ℕ) → IsGrammar (node_behind k)
node_reads k =
    let number : IsGrammar (unsigned w16).grammar = (lawful_unsigned w16 wide_16).reads in
    either_reads (k == 0) _ _ (made_reads two_byte _ (lawful_unsigned w8 wide_8).reads)
    (either_reads (k == 1) _ _ (made_reads numeric _ (both_reads _ _ (lawful_unsigned w8 wide_8).reads number))
    (either_reads (k == 2) _ _ (made_reads numeric _ (both_reads _ _ number (lawful_unsigned w32 wide_32).reads))
    (either_reads (k == 3) _ _ (made_reads textual _ (both_reads _ _ number lawful_string.reads))
    (either_reads (k == 4) _ _ (made_reads unique_id _ (both_reads _ _ number lawful_guid.reads))
    (either_reads (k == 5) _ _ (made_reads opaque _ (both_reads _ _ number lawful_byte_string.reads)) never_reads)))))

-- a property that each form has
pub in_each_form : (P : NodeId → List ℕ → Type 0)
    → ((id : ℕ) (x : List ℕ) → (unsigned w8).grammar.spells id x → P (two_byte id) x)
    → ((p : ℕ × ℕ) (x : List ℕ) → (both (unsigned w8).grammar (unsigned w16).grammar).spells p x → P (numeric p) x)
    → ((p : ℕ × ℕ) (x : List ℕ) → (both (unsigned w16).grammar (unsigned w32).grammar).spells p x → P (numeric p) x)
    → ((p : ℕ × Option (List ℕ)) (x : List ℕ) → (both (unsigned w16).grammar string.grammar).spells p x → P (textual p) x)
    → ((p : _) (x : List ℕ) → (both (unsigned w16).grammar guid.grammar).spells p x → P (unique_id p) x)
    → ((p : ℕ × Option (List ℕ)) (x : List ℕ) → (both (unsigned w16).grammar byte_string.grammar).spells p x → P (opaque p) x)
    → (a b c d e f : Bool) (v : NodeId) (x : List ℕ)
    → (either a (made two_byte (unsigned w8).grammar) (either b (made numeric (both (unsigned w8).grammar (unsigned w16).grammar)) (either c (made numeric (both (unsigned w16).grammar (unsigned w32).grammar))
    (either d (made textual (both (unsigned w16).grammar string.grammar)) (either e (made unique_id (both (unsigned w16).grammar guid.grammar)) (either f (made opaque (both (unsigned w16).grammar byte_string.grammar)) never)))))).spells v x → P v x
in_each_form P p0 p1 p2 p3 p4 p5 true b c d e f v x s = subst (λ (n : NodeId). P n x) (sym s.2) (p0 s.0 x s.1)
in_each_form P p0 p1 p2 p3 p4 p5 false true c d e f v x s = subst (λ (n : NodeId). P n x) (sym s.2) (p1 s.0 x s.1)
in_each_form P p0 p1 p2 p3 p4 p5 false false true d e f v x s = subst (λ (n : NodeId). P n x) (sym s.2) (p2 s.0 x s.1)
in_each_form P p0 p1 p2 p3 p4 p5 false false false true e f v x s = subst (λ (n : NodeId). P n x) (sym s.2) (p3 s.0 x s.1)
in_each_form P p0 p1 p2 p3 p4 p5 false false false false true f v x s = subst (λ (n : NodeId). P n x) (sym s.2) (p4 s.0 x s.1)
in_each_form P p0 p1 p2 p3 p4 p5 false false false false false true v x s = subst (λ (n : NodeId). P n x) (sym s.2) (p5 s.0 x s.1)
in_each_form P p0 p1 p2 p3 p4 p5 false false false false false false v x s = absurd s

-- ---- the canonical form is one

canonical_by : (p q : Bool) (namespace id : ℕ) → namespace < 2 ^ 16 → id < 2 ^ 32 → (p ≡ true → (namespace < 1) × (id < 256)) → (q ≡ true → (namespace < 256) × (id < 65536))
    → (headed node_behind).spells (numeric (namespace, id)) (cond p (0 ∷ id ∷ []) (cond q (1 ∷ namespace ∷ to_le_bytes w16 id) (2 ∷ to_le_bytes w16 namespace ++ to_le_bytes w32 id)))
unfolding unsigned
canonical_by true q namespace id m n small short =
    let s = small refl in
    let none : namespace ≡ 0 = omega (arith, s.0) in
    let byte : id % 256 ≡ id = omega (arith, s.1) in
    (0, id ∷ [], lit< tt, (id, (s.1, ap (λ (k : ℕ). k ∷ []) (sym byte)), ap (λ (k : ℕ). numeric (k, id)) none), refl)
canonical_by false true namespace id m n small short =
    let s = short refl in
    let byte : namespace % 256 ≡ namespace = omega (arith, s.0) in
    (1, namespace ∷ to_le_bytes w16 id, lit< tt, ((namespace, id), (namespace ∷ [], to_le_bytes w16 id, (s.0, ap (λ (k : ℕ). k ∷ []) (sym byte)), (s.1, refl), refl), refl), refl)
canonical_by false false namespace id m n small short =
    (2, to_le_bytes w16 namespace ++ to_le_bytes w32 id, lit< tt, ((namespace, id), (to_le_bytes w16 namespace, to_le_bytes w32 id, (m, refl), (n, refl), refl), refl), refl)

below_both : (a b m n : ℕ) → (nat_lt a m && nat_lt b n) ≡ true → (a < m) × (b < n)
below_both a b m n e = grind (arith, nat_tests)

canonical_node : (namespace : ℕ) (i : Identifier) → namespace < 2 ^ 16 → IsIdentifier i → (headed node_behind).spells (record { namespace_index = namespace; identifier = i }) (canon_identifier namespace i)
unfolding unsigned
canonical_node namespace (identifiers.Numeric id) h k = canonical_by (nat_lt namespace 1 && nat_lt id 256) (nat_lt namespace 256 && nat_lt id 65536) namespace id h k (below_both namespace id 1 256) (below_both namespace id 256 65536)
canonical_node namespace (identifiers.String t) h k = (3, to_le_bytes w16 namespace ++ string.canon t, lit< tt, ((namespace, t), (to_le_bytes w16 namespace, string.canon t, (h, refl), lawful_string.canonical t k, refl), refl), refl)
canonical_node namespace (identifiers.Guid g) h k = (4, to_le_bytes w16 namespace ++ guid.canon g, lit< tt, ((namespace, g), (to_le_bytes w16 namespace, guid.canon g, (h, refl), lawful_guid.canonical g k, refl), refl), refl)
canonical_node namespace (identifiers.Opaque t) h k = (5, to_le_bytes w16 namespace ++ byte_string.canon t, lit< tt, ((namespace, t), (to_le_bytes w16 namespace, byte_string.canon t, (h, refl), lawful_byte_string.canonical t k, refl), refl), refl)

-- ---- a written number is no longer than any of its forms

length_by : (p q : Bool) (namespace id : ℕ) → length (cond p (0 ∷ id ∷ []) (cond q (1 ∷ namespace ∷ to_le_bytes w16 id) (2 ∷ to_le_bytes w16 namespace ++ to_le_bytes w32 id))) ≤ 7
length_by true q namespace id = omega arith
length_by false true namespace id = omega arith
length_by false false namespace id = omega arith

short_by : (p q : Bool) (namespace id : ℕ) → q ≡ true → length (cond p (0 ∷ id ∷ []) (cond q (1 ∷ namespace ∷ to_le_bytes w16 id) (2 ∷ to_le_bytes w16 namespace ++ to_le_bytes w32 id))) ≤ 4
short_by true q namespace id e = omega arith
short_by false true namespace id e = omega arith
short_by false false namespace id e = absurd cc

tiny_by : (p q : Bool) (namespace id : ℕ) → p ≡ true → length (cond p (0 ∷ id ∷ []) (cond q (1 ∷ namespace ∷ to_le_bytes w16 id) (2 ∷ to_le_bytes w16 namespace ++ to_le_bytes w32 id))) ≤ 2
tiny_by true q namespace id e = omega arith
tiny_by false q namespace id e = absurd cc

both_below : (a b m n : ℕ) → a < m → b < n → (nat_lt a m && nat_lt b n) ≡ true
both_below a b m n h k = grind (arith, nat_tests)

pub shorter_behind : (k : ℕ) (v : NodeId) (x : List ℕ) → (node_behind k).spells v x → length (canon_identifier v.namespace_index v.identifier) ≤ suc (length x)
unfolding unsigned
shorter_behind k v x s = in_each_form (λ n x. length (canon_identifier n.namespace_index n.identifier) ≤ suc (length x))
    (λ id x s. omega (arith, tiny_by (nat_lt 0 1 && nat_lt id 256) (nat_lt 0 256 && nat_lt id 65536) 0 id (both_below 0 id 1 256 (omega arith) s.0), ap length s.1))
    (λ p x s. omega (arith, short_by (nat_lt p.0 1 && nat_lt p.1 256) (nat_lt p.0 256 && nat_lt p.1 65536) p.0 p.1 (both_below p.0 p.1 256 65536 s.2.0 s.3.0), ap length s.4, ap length s.2.1, ap length s.3.1, length-append s.0 s.1))
    (λ p x s. omega (arith, length_by (nat_lt p.0 1 && nat_lt p.1 256) (nat_lt p.0 256 && nat_lt p.1 65536) p.0 p.1, ap length s.4, ap length s.2.1, ap length s.3.1, length-append s.0 s.1))
    (λ p x s. omega (arith, ap length s.4, ap length s.2.1, lawful_string.shortest p.1 s.1 s.3, length-append s.0 s.1))
    (λ p x s. omega (arith, ap length s.4, ap length s.2.1, lawful_guid.shortest p.1 s.1 s.3, length-append s.0 s.1))
    (λ p x s. omega (arith, ap length s.4, ap length s.2.1, lawful_byte_string.shortest p.1 s.1 s.3, length-append s.0 s.1))
    (k == 0) (k == 1) (k == 2) (k == 3) (k == 4) (k == 5) v x s

pub value_behind : (k : ℕ) (v : NodeId) (x : List ℕ) → (node_behind k).spells v x → length x ≤ input_limit → (v.namespace_index < 2 ^ 16) × IsIdentifier v.identifier
unfolding unsigned
value_behind k v x s = in_each_form (λ n x. length x ≤ input_limit → (n.namespace_index < 2 ^ 16) × IsIdentifier n.identifier)
    (λ id x s h. (omega arith, omega (arith, s.0)))
    (λ p x s h. (omega (arith, s.2.0), omega (arith, s.3.0)))
    (λ p x s h. (s.2.0, s.3.0))
    (λ p x s h. (s.2.0, lawful_string.a_value p.1 s.1 s.3 (omega (arith, ap length s.4, length-append s.0 s.1))))
    (λ p x s h. (s.2.0, lawful_guid.a_value p.1 s.1 s.3 (omega (arith, ap length s.4, length-append s.0 s.1))))
    (λ p x s h. (s.2.0, lawful_byte_string.a_value p.1 s.1 s.3 (omega (arith, ap length s.4, length-append s.0 s.1))))
    (k == 0) (k == 1) (k == 2) (k == 3) (k == 4) (k == 5) v x s

-- no form has a byte above 5
pub no_form : (k : ℕ) (bytes : List ℕ) → 5 < k → (node_behind k).front bytes ≡ None
no_form k bytes lt =
    rw (ne_eqb k 0 (λ e. omega (arith, e)), ne_eqb k 1 (λ e. omega (arith, e)), ne_eqb k 2 (λ e. omega (arith, e)), ne_eqb k 3 (λ e. omega (arith, e)), ne_eqb k 4 (λ e. omega (arith, e)), ne_eqb k 5 (λ e. omega (arith, e))) refl

pub small_form : (k : ℕ) (v : NodeId) (x : List ℕ) → (node_behind k).spells v x → k ≤ 5
small_form k v x s =
    elim (cases_lt 5 k) [
      | inl lt ↦ absurd (let e = sym (no_form k (x ++ []) lt) ∙ (node_reads k).again v x [] s in cc)
      | inr le ↦ le
    ]

pub lawful_node : IsLawful node_id
unfolding node_id
lawful_node = record {
  reads = headed_reads node_behind node_reads;
  nonempty = λ v a s. omega (arith, ap length s.4);
  canonical = λ v h. canonical_node v.namespace_index v.identifier h.0 h.1;
  shortest = λ v a s. omega (arith, ap length s.4, shorter_behind s.0 v s.1 s.3);
  a_value = λ v a s h. value_behind s.0 v s.1 s.3 (omega (arith, ap length s.4));
}
