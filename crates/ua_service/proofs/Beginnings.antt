-- What bodies begin with, byte by byte.
use Rattle.std.proofs.Common.{◌≡◌, ◌≤◌, ◌<◌, ◌∙◌, ℕ, ℤ, List, [], ◌∷◌, ◌++◌, refl, slice_index_or}
use Rattle.std.specs.Int.{w32, w64, to_le_bytes, cast_unsigned}
use Rattle.std.proofs.lemmas.Bool.{lt-ltb, le-ltb}
use Rattle.ua_value.specs.Array.{array}
use Rattle.ua_value.specs.Date.{date_time}
use Rattle.ua_value.specs.Node.{node_id}
use Rattle.ua_value.specs.Number.{unsigned, signed}
use Rattle.ua_value.specs.Status.{status_code}
use Rattle.ua_value.specs.Text.{bytes_of}
use Rattle.ua_variant.specs.Diagnostic.{diagnostic}
use Rattle.ua_variant.specs.DiagnosticParts.{diagnostic_parts}
use Rattle.ua_variant.specs.Extension.{extension_object, extension_body}
use Rattle.ua_service.specs.Message.{id_of}
use Rattle.ua_service.specs.Headers.{request_header, request_header_at, response_header, response_header_at}

abbrev two : List ℕ → List ℕ
two bytes = slice_index_or bytes 0 0 ∷ slice_index_or bytes 1 0 ∷ []

abbrev four : List ℕ → List ℕ
four bytes = slice_index_or bytes 0 0 ∷ slice_index_or bytes 1 0 ∷ slice_index_or bytes 2 0 ∷ slice_index_or bytes 3 0 ∷ []

abbrev eight : List ℕ → List ℕ
eight bytes = slice_index_or bytes 0 0 ∷ slice_index_or bytes 1 0 ∷ slice_index_or bytes 2 0 ∷ slice_index_or bytes 3 0 ∷ slice_index_or bytes 4 0 ∷ slice_index_or bytes 5 0 ∷ slice_index_or bytes 6 0 ∷ slice_index_or bytes 7 0 ∷ []

id_spelled : (id : ℕ) → 256 ≤ id → id < 65536 → 1 ∷ 0 ∷ two (to_le_bytes w32 id) ≡ node_id.canon (id_of id)
unfolding node_id
id_spelled id wide narrow = rw (le-ltb id 256 wide, lt-ltb id 65536 narrow) refl

response_header_spelled : (now : ℤ) (handle status : ℕ)
    → eight (to_le_bytes w64 (cast_unsigned w64 now)) ++ four (to_le_bytes w32 handle) ++ four (to_le_bytes w32 status) ++ (0 ∷ 255 ∷ 255 ∷ 255 ∷ 255 ∷ 0 ∷ 0 ∷ 0 ∷ []) ≡ response_header.canon (response_header_at now handle status)
unfolding response_header date_time signed unsigned status_code diagnostic diagnostic_parts array extension_object extension_body node_id
response_header_spelled now handle status = refl

request_header_spelled : (now : ℤ) (handle : ℕ)
    → (0 ∷ 0 ∷ []) ++ eight (to_le_bytes w64 (cast_unsigned w64 now)) ++ four (to_le_bytes w32 handle) ++ (0 ∷ 0 ∷ 0 ∷ 0 ∷ 255 ∷ 255 ∷ 255 ∷ 255 ∷ 0 ∷ 0 ∷ 0 ∷ 0 ∷ 0 ∷ 0 ∷ 0 ∷ []) ≡ request_header.canon (request_header_at now handle)
unfolding request_header date_time signed unsigned bytes_of extension_object extension_body node_id
request_header_spelled now handle = refl

pub request_head_spelled : (id : ℕ) (now : ℤ) (handle : ℕ) (i m h : List ℕ) → 256 ≤ id → id < 65536
    → i ≡ to_le_bytes w32 id → m ≡ to_le_bytes w64 (cast_unsigned w64 now) → h ≡ to_le_bytes w32 handle
    → (1 ∷ 0 ∷ two i) ++ ((0 ∷ 0 ∷ []) ++ eight m ++ four h ++ (0 ∷ 0 ∷ 0 ∷ 0 ∷ 255 ∷ 255 ∷ 255 ∷ 255 ∷ 0 ∷ 0 ∷ 0 ∷ 0 ∷ 0 ∷ 0 ∷ 0 ∷ [])) ≡ node_id.canon (id_of id) ++ request_header.canon (request_header_at now handle)
request_head_spelled id now handle i m h wide narrow e0 e1 e2 =
    (λ k. (1 ∷ 0 ∷ two (e0 k)) ++ ((0 ∷ 0 ∷ []) ++ eight (e1 k) ++ four (e2 k) ++ (0 ∷ 0 ∷ 0 ∷ 0 ∷ 255 ∷ 255 ∷ 255 ∷ 255 ∷ 0 ∷ 0 ∷ 0 ∷ 0 ∷ 0 ∷ 0 ∷ 0 ∷ [])))
    ∙ (λ k. id_spelled id wide narrow k ++ request_header_spelled now handle k)

pub response_head_spelled : (id : ℕ) (now : ℤ) (handle status : ℕ) (i m h s : List ℕ) → 256 ≤ id → id < 65536
    → i ≡ to_le_bytes w32 id → m ≡ to_le_bytes w64 (cast_unsigned w64 now) → h ≡ to_le_bytes w32 handle → s ≡ to_le_bytes w32 status
    → (1 ∷ 0 ∷ two i) ++ (eight m ++ four h ++ four s ++ (0 ∷ 255 ∷ 255 ∷ 255 ∷ 255 ∷ 0 ∷ 0 ∷ 0 ∷ [])) ≡ node_id.canon (id_of id) ++ response_header.canon (response_header_at now handle status)
response_head_spelled id now handle status i m h s wide narrow e0 e1 e2 e3 =
    (λ k. (1 ∷ 0 ∷ two (e0 k)) ++ (eight (e1 k) ++ four (e2 k) ++ four (e3 k) ++ (0 ∷ 255 ∷ 255 ∷ 255 ∷ 255 ∷ 0 ∷ 0 ∷ 0 ∷ [])))
    ∙ (λ k. id_spelled id wide narrow k ++ response_header_spelled now handle status k)
