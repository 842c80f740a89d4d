-- The laws of responses and their bodies.
use Rattle.std.proofs.Common.{◌≡◌, ◌≤◌, ℕ, List, length, Some, refl, ap, subst, ◌∙◌, lit<, inl, inr}
use Rattle.ua_value.specs.Format.{◌>>=◌, IsBytes, input_limit}
use Rattle.ua_value.specs.Lists.{IsBytes-rest, bind_some, chosen, guarded, same_some}
use Rattle.ua_value.specs.Whole.{only, only_again}
use Rattle.ua_value.specs.Node.{node_id}
use Rattle.ua_value.specs.NodeLaws.{lawful_node}
use Rattle.ua_value.specs.SequenceLaws.{lawful_pair}
use Rattle.ua_service.specs.declared.response.Response.{Response}
use Rattle.ua_service.specs.declared.response.Response.TheVariants as responses
use Rattle.ua_service.specs.Message.{id_of, is_id}
use Rattle.ua_service.specs.MessageLaws.{IsLawfulMessage, id_value, one_kind}
use Rattle.ua_service.specs.Headers.{service_fault, lawful_service_fault}
use Rattle.ua_service.specs.Discovery.{find_servers_response, get_endpoints_response, lawful_find_servers_response, lawful_get_endpoints_response}
use Rattle.ua_service.specs.Responses.{IsResponseBody, response_fields, response_of, canon_response, IsResponse, response_message}

response_takes : (bytes : List ℕ) (m : Response) → IsBytes bytes → response_of bytes ≡ Some m → IsResponseBody m bytes
unfolding response_of
response_takes bytes m fits e =
    let one = bind_some (node_id.grammar.front bytes) (λ id. response_fields id.0 id.1) m e in
    let id = one.0.0 in
    let rest = one.0.1 in
    let t = lawful_node.reads.takes bytes id rest fits one.1 in
    let later = IsBytes-rest bytes t.text rest fits t.parts in
    elim (chosen (is_id 425 id) _ _ (Some m) one.2) [
      | inl h ↦
          let two = bind_some (only find_servers_response.grammar rest) (λ f. Some (responses.FindServers f)) m h.1 in
          subst (λ (k : Response). IsResponseBody k bytes) (same_some (responses.FindServers two.0) m two.2)
          (one_kind 425 find_servers_response lawful_find_servers_response id t.text rest two.0 later t.spelled h.0 two.1 bytes t.parts)
      | inr h ↦
          elim (chosen (is_id 431 id) _ _ (Some m) h.1) [
            | inl k ↦
                let two = bind_some (only get_endpoints_response.grammar rest) (λ f. Some (responses.GetEndpoints f)) m k.1 in
                subst (λ (k : Response). IsResponseBody k bytes) (same_some (responses.GetEndpoints two.0) m two.2)
                (one_kind 431 get_endpoints_response lawful_get_endpoints_response id t.text rest two.0 later t.spelled k.0 two.1 bytes t.parts)
            | inr k ↦
                let g = guarded (is_id 397 id) (only service_fault.grammar rest >>= λ f. Some (responses.Fault f)) m k.1 in
                let two = bind_some (only service_fault.grammar rest) (λ f. Some (responses.Fault f)) m g.1 in
                subst (λ (k : Response). IsResponseBody k bytes) (same_some (responses.Fault two.0) m two.2)
                (one_kind 397 service_fault lawful_service_fault id t.text rest two.0 later t.spelled g.0 two.1 bytes t.parts)
          ]
    ]

response_again : (m : Response) (bytes : List ℕ) → IsResponseBody m bytes → response_of bytes ≡ Some m
unfolding response_of
response_again (responses.FindServers f) bytes s =
    ap (λ (l : List ℕ). node_id.grammar.front l >>= λ id. response_fields id.0 id.1) s.4 ∙ rw (lawful_node.reads.again (id_of 425) s.0 s.1 s.2, only_again find_servers_response.grammar lawful_find_servers_response.reads s.1 f s.3) refl
response_again (responses.GetEndpoints f) bytes s =
    ap (λ (l : List ℕ). node_id.grammar.front l >>= λ id. response_fields id.0 id.1) s.4 ∙ rw (lawful_node.reads.again (id_of 431) s.0 s.1 s.2, only_again get_endpoints_response.grammar lawful_get_endpoints_response.reads s.1 f s.3) refl
response_again (responses.Fault f) bytes s =
    ap (λ (l : List ℕ). node_id.grammar.front l >>= λ id. response_fields id.0 id.1) s.4 ∙ rw (lawful_node.reads.again (id_of 397) s.0 s.1 s.2, only_again service_fault.grammar lawful_service_fault.reads s.1 f s.3) refl

canonical_response : (m : Response) → IsResponse m → IsResponseBody m (canon_response m)
canonical_response (responses.FindServers m) h = (lawful_pair node_id find_servers_response lawful_node lawful_find_servers_response).canonical (id_of 425, m) (id_value 425 (lit< tt), h)
canonical_response (responses.GetEndpoints m) h = (lawful_pair node_id get_endpoints_response lawful_node lawful_get_endpoints_response).canonical (id_of 431, m) (id_value 431 (lit< tt), h)
canonical_response (responses.Fault m) h = (lawful_pair node_id service_fault lawful_node lawful_service_fault).canonical (id_of 397, m) (id_value 397 (lit< tt), h)

shortest_response : (m : Response) (bytes : List ℕ) → IsResponseBody m bytes → length (canon_response m) ≤ length bytes
shortest_response (responses.FindServers m) bytes s = (lawful_pair node_id find_servers_response lawful_node lawful_find_servers_response).shortest (id_of 425, m) bytes s
shortest_response (responses.GetEndpoints m) bytes s = (lawful_pair node_id get_endpoints_response lawful_node lawful_get_endpoints_response).shortest (id_of 431, m) bytes s
shortest_response (responses.Fault m) bytes s = (lawful_pair node_id service_fault lawful_node lawful_service_fault).shortest (id_of 397, m) bytes s

response_value : (m : Response) (bytes : List ℕ) → IsResponseBody m bytes → length bytes ≤ input_limit → IsResponse m
response_value (responses.FindServers m) bytes s h = ((lawful_pair node_id find_servers_response lawful_node lawful_find_servers_response).a_value (id_of 425, m) bytes s h).1
response_value (responses.GetEndpoints m) bytes s h = ((lawful_pair node_id get_endpoints_response lawful_node lawful_get_endpoints_response).a_value (id_of 431, m) bytes s h).1
response_value (responses.Fault m) bytes s h = ((lawful_pair node_id service_fault lawful_node lawful_service_fault).a_value (id_of 397, m) bytes s h).1

pub lawful_response : IsLawfulMessage response_message
lawful_response = record { takes = response_takes; again = response_again; canonical = canonical_response; shortest = shortest_response; a_value = response_value }
