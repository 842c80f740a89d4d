-- A message in parts begins as its first part does.
use Rattle.std.proofs.Common.{[], ◌∷◌, ◌==◌, false, arith, ◌<◌, ◌≤◌, length, nat_lt, IsTrue, slice_index_or, ◌≡◌, ℕ, List, ◌++◌, Option, Some, None, option_map, refl, sym, ap, ◌∙◌, append_assoc, true≢false, is_some, Result, Ok, Err, IfOk, IfSome}
use Rattle.std.proofs.lemmas.Bool.Decides.{nat_tests}
use Rattle.ua_value.specs.Format.{IsBytes}
use Rattle.ua_value.specs.Node.{node_id}
use Rattle.ua_value.specs.NodeLaws.{lawful_node}
use Rattle.ua_value.specs.declared.node.NodeId.{NodeId}
use Rattle.ua_print.specs.FrameLine.{type_in}

front_goes_on : (bytes more : List ℕ) (found : Option (NodeId × List ℕ)) (id : NodeId) → IsBytes bytes → node_id.grammar.front bytes ≡ found → option_map (λ x. x.0) found ≡ Some id
    → option_map (λ x. x.0) (node_id.grammar.front (bytes ++ more)) ≡ Some id
front_goes_on bytes more None id are is e = absurd (true≢false (ap is_some (sym e)))
front_goes_on bytes more (Some (v, rest)) id are is e =
    let t = lawful_node.reads.takes bytes v rest are is in
    let same : bytes ++ more ≡ t.text ++ (rest ++ more) = ap (λ l. l ++ more) t.parts ∙ append_assoc t.text rest more in
    ap (λ l. option_map (λ x. x.0) (node_id.grammar.front l)) same ∙ ap (option_map (λ x. x.0)) (lawful_node.reads.again v t.text (rest ++ more) t.spelled) ∙ e

pub type_goes_on : (bytes more : List ℕ) (id : NodeId) → IsBytes bytes → type_in bytes ≡ Some id → type_in (bytes ++ more) ≡ Some id
unfolding type_in
type_goes_on bytes more id are e = front_goes_on bytes more (node_id.grammar.front bytes) id are refl e

goes_on_if : (bytes : List ℕ) (found : Option NodeId) → IsBytes bytes → found ≡ type_in bytes → IfSome found (λ id. (more : List ℕ) → type_in (bytes ++ more) ≡ Some id)
goes_on_if bytes None are e = tt
goes_on_if bytes (Some id) are e = λ more. type_goes_on bytes more id are (sym e)

pub first_tells : {E : Type 0} (bytes : List ℕ) (r : Result (Option NodeId) E) → IsBytes bytes → IfOk r (λ id. id ≡ type_in bytes) → IfOk r (λ found. IfSome found (λ id. (more : List ℕ) → type_in (bytes ++ more) ≡ Some id))
first_tells bytes (Ok found) are e = goes_on_if bytes found are e
first_tells bytes (Err fault) are e = tt

-- no node id begins with a byte above 5
no_form : (k : ℕ) (rest : List ℕ) → 5 < k → option_map (λ x. x.0) (node_id.grammar.front (k ∷ rest)) ≡ None
unfolding node_id
no_form k rest h =
    let zero : (k == 0) ≡ false = grind (arith, nat_tests) in
    let one : (k == 1) ≡ false = grind (arith, nat_tests) in
    let two : (k == 2) ≡ false = grind (arith, nat_tests) in
    let three : (k == 3) ≡ false = grind (arith, nat_tests) in
    let four : (k == 4) ≡ false = grind (arith, nat_tests) in
    let five : (k == 5) ≡ false = grind (arith, nat_tests) in
    rw (zero, one, two, three, four, five)

no_type_behind : (k : ℕ) (rest more : List ℕ) → 5 < k → type_in ((k ∷ rest) ++ more) ≡ None
unfolding type_in
no_type_behind k rest more h = no_form k (rest ++ more) h

pub no_type : (bytes : List ℕ) → 1 ≤ length bytes → IsTrue (nat_lt 5 (slice_index_or bytes 0 0)) → (more : List ℕ) → type_in (bytes ++ more) ≡ None
no_type [] some h more = absurd (omega arith)
no_type (k ∷ rest) some h more = let above : 5 < k = grind (arith, nat_tests) in no_type_behind k rest more above
