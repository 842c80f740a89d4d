-- The laws of requests and their bodies.
use Rattle.std.proofs.Common.{◌≡◌, ◌≤◌, ℕ, List, ◌++◌, length, Some, refl, ap, subst, ◌∙◌, arith, lit<, length-append, inl, inr}
use Rattle.ua_value.specs.Format.{◌>>=◌, IsBytes, input_limit}
use Rattle.ua_value.specs.Lists.{IsBytes-rest, bind_some, chosen, same_some}
use Rattle.ua_value.specs.Whole.{only, only_again}
use Rattle.ua_value.specs.Node.{node_id}
use Rattle.ua_value.specs.NodeLaws.{lawful_node}
use Rattle.ua_value.specs.SequenceLaws.{lawful_pair}
use Rattle.ua_service.specs.declared.request.Request.{Request}
use Rattle.ua_service.specs.declared.request.Request.TheVariants as requests
use Rattle.ua_service.specs.Message.{id_of, is_id}
use Rattle.ua_service.specs.MessageLaws.{IsLawfulMessage, unlike, not_own, id_value, one_kind}
use Rattle.ua_service.specs.Headers.{request_header, lawful_request_header}
use Rattle.ua_service.specs.Discovery.{find_servers_request, get_endpoints_request, lawful_find_servers_request, lawful_get_endpoints_request}
use Rattle.ua_service.specs.Requests.{IsRequestBody, request_fields, request_of, canon_request, IsRequest, request_message}

request_takes : (bytes : List ℕ) (m : Request) → IsBytes bytes → request_of bytes ≡ Some m → IsRequestBody m bytes
unfolding request_of
request_takes bytes m fits e =
    let one = bind_some (node_id.grammar.front bytes) (λ id. request_fields id.0 id.1) m e in
    let id = one.0.0 in
    let rest = one.0.1 in
    let t = lawful_node.reads.takes bytes id rest fits one.1 in
    let later = IsBytes-rest bytes t.text rest fits t.parts in
    elim (chosen (is_id 422 id) _ _ (Some m) one.2) [
      | inl h ↦
          let two = bind_some (only find_servers_request.grammar rest) (λ f. Some (requests.FindServers f)) m h.1 in
          subst (λ (k : Request). IsRequestBody k bytes) (same_some (requests.FindServers two.0) m two.2)
          (one_kind 422 find_servers_request lawful_find_servers_request id t.text rest two.0 later t.spelled h.0 two.1 bytes t.parts)
      | inr h ↦
          elim (chosen (is_id 428 id) _ _ (Some m) h.1) [
            | inl k ↦
                let two = bind_some (only get_endpoints_request.grammar rest) (λ f. Some (requests.GetEndpoints f)) m k.1 in
                subst (λ (k : Request). IsRequestBody k bytes) (same_some (requests.GetEndpoints two.0) m two.2)
                (one_kind 428 get_endpoints_request lawful_get_endpoints_request id t.text rest two.0 later t.spelled k.0 two.1 bytes t.parts)
            | inr k ↦
                let two = bind_some (request_header.grammar.front rest) (λ x. Some (requests.Other (record { type_id = id; header = x.0; rest = x.1 }))) m k.1 in
                let s = lawful_request_header.reads.takes rest two.0.0 two.0.1 later two.1 in
                subst (λ (k : Request). IsRequestBody k bytes) (same_some (requests.Other (record { type_id = id; header = two.0.0; rest = two.0.1 })) m two.2)
                ((unlike 422 id h.0, unlike 428 id k.0), t.text, s.text, t.spelled, s.spelled, t.parts ∙ ap (λ (l : List ℕ). t.text ++ l) s.parts)
          ]
    ]

request_again : (m : Request) (bytes : List ℕ) → IsRequestBody m bytes → request_of bytes ≡ Some m
unfolding request_of
request_again (requests.FindServers f) bytes s =
    ap (λ (l : List ℕ). node_id.grammar.front l >>= λ id. request_fields id.0 id.1) s.4 ∙ rw (lawful_node.reads.again (id_of 422) s.0 s.1 s.2, only_again find_servers_request.grammar lawful_find_servers_request.reads s.1 f s.3) refl
request_again (requests.GetEndpoints f) bytes s =
    ap (λ (l : List ℕ). node_id.grammar.front l >>= λ id. request_fields id.0 id.1) s.4 ∙ rw (lawful_node.reads.again (id_of 428) s.0 s.1 s.2, only_again get_endpoints_request.grammar lawful_get_endpoints_request.reads s.1 f s.3) refl
request_again (requests.Other o) bytes s =
    ap (λ (l : List ℕ). node_id.grammar.front l >>= λ id. request_fields id.0 id.1) s.5 ∙ rw (lawful_node.reads.again o.type_id s.1 (s.2 ++ o.rest) s.3, not_own 422 o.type_id (is_id 422 o.type_id) refl s.0.0, not_own 428 o.type_id (is_id 428 o.type_id) refl s.0.1, lawful_request_header.reads.again o.header s.2 o.rest s.4) refl

canonical_request : (m : Request) → IsRequest m → IsRequestBody m (canon_request m)
canonical_request (requests.FindServers m) h = (lawful_pair node_id find_servers_request lawful_node lawful_find_servers_request).canonical (id_of 422, m) (id_value 422 (lit< tt), h)
canonical_request (requests.GetEndpoints m) h = (lawful_pair node_id get_endpoints_request lawful_node lawful_get_endpoints_request).canonical (id_of 428, m) (id_value 428 (lit< tt), h)
canonical_request (requests.Other o) h = (h.0, node_id.canon o.type_id, request_header.canon o.header, lawful_node.canonical o.type_id h.1, lawful_request_header.canonical o.header h.2, refl)

shortest_request : (m : Request) (bytes : List ℕ) → IsRequestBody m bytes → length (canon_request m) ≤ length bytes
shortest_request (requests.FindServers m) bytes s = (lawful_pair node_id find_servers_request lawful_node lawful_find_servers_request).shortest (id_of 422, m) bytes s
shortest_request (requests.GetEndpoints m) bytes s = (lawful_pair node_id get_endpoints_request lawful_node lawful_get_endpoints_request).shortest (id_of 428, m) bytes s
shortest_request (requests.Other o) bytes s =
    omega (
      arith,
      lawful_node.shortest o.type_id s.1 s.3,
      lawful_request_header.shortest o.header s.2 s.4,
      ap length s.5,
      length-append s.1 (s.2 ++ o.rest),
      length-append s.2 o.rest,
      length-append (node_id.canon o.type_id) (request_header.canon o.header ++ o.rest),
      length-append (request_header.canon o.header) o.rest,
    )

request_value : (m : Request) (bytes : List ℕ) → IsRequestBody m bytes → length bytes ≤ input_limit → IsRequest m
request_value (requests.FindServers m) bytes s h = ((lawful_pair node_id find_servers_request lawful_node lawful_find_servers_request).a_value (id_of 422, m) bytes s h).1
request_value (requests.GetEndpoints m) bytes s h = ((lawful_pair node_id get_endpoints_request lawful_node lawful_get_endpoints_request).a_value (id_of 428, m) bytes s h).1
request_value (requests.Other o) bytes s h = (
  s.0,
  lawful_node.a_value o.type_id s.1 s.3 (omega (arith, ap length s.5, length-append s.1 (s.2 ++ o.rest), length-append s.2 o.rest)),
  lawful_request_header.a_value o.header s.2 s.4 (omega (arith, ap length s.5, length-append s.1 (s.2 ++ o.rest), length-append s.2 o.rest)),
)

pub lawful_request : IsLawfulMessage request_message
lawful_request = record { takes = request_takes; again = request_again; canonical = canonical_request; shortest = shortest_request; a_value = request_value }
