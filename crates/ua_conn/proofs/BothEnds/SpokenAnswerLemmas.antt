-- Answers between both ends: what the client reads of them, and which of them are aborted.
use Rattle.std.proofs.Common.{◌≡◌, ℕ, ◌<◌, ◌≤◌, ◌^◌, max, min, Bool, true, false, cond, not, ◌&&◌, List, [], ◌∷◌, length, Option, Some, None, refl, sym, ap, subst, ◌∙◌, arith, lit<, inl, inr}
use Rattle.std.specs.Prelude.{◌==◌, nat_lt, pos}
use Rattle.std.proofs.lemmas.Bool.{cases_Bool, ltb-false, eqb-true, or_parts}
use Rattle.ua_value.specs.Number.{unsigned}
use Rattle.ua_frame.specs.Rows.{first_row}
use Rattle.ua_frame.specs.Hello.{acknowledge_layout, negotiated}
use Rattle.ua_frame.specs.declared.hello.Hello.{Hello}
use Rattle.ua_frame.specs.declared.limits.Limits.{Limits}
use Rattle.ua_chunk.specs.Cut.{part_count, fill}
use Rattle.ua_chunk.specs.Half.{Half, may_have_id, half_after, part_rows}
use Rattle.ua_chunk.specs.HalfLaws.{Arrives, fill_arrives}
use Rattle.ua_chunk.specs.Layout.{abort_bytes}
use Rattle.ua_chunk.specs.FrameLaws.{abort_read}
use Rattle.ua_channel.specs.Token.{revised}
use Rattle.ua_channel.specs.declared.token.Token.{Token}
use Rattle.ua_service.specs.declared.request.Request.{Request}
use Rattle.ua_service.specs.Requests.{IsRequest}
use Rattle.ua_service.specs.Responses.{response_of}
use Rattle.ua_service.specs.ChannelMessages.{open_response_of}
use Rattle.ua_service.specs.ValueLaws.{open_response_read}
use Rattle.ua_disco.specs.Configuration.{Configuration}
use Rattle.ua_disco.specs.Bounds.{IsLimits}
use Rattle.ua_disco.specs.Values.{AreSettings}
use Rattle.ua_disco.specs.Answers.{answer_of}
use Rattle.ua_disco.specs.AnswerLaws.{answer_reads}
use Rattle.ua_conn.specs.Past.{Agreed}
use Rattle.ua_conn.specs.server.Answers.{answer_body, opened_response, opened_body}
use Rattle.ua_conn.specs.server.Replies.{is_over, part_size, is_over_limits, aborted, answer_parts}

-- ---- bodies

-- Of valid settings, to a request that is a value, at a moment of a clock, the body of the answer is read as the answer.
pub answer_read : (settings : Configuration) (r : Request) (now : ℕ) → AreSettings settings → IsRequest r → now < 2 ^ 63 → response_of (answer_body settings r now) ≡ Some (answer_of settings r (pos now))
unfolding answer_body
answer_read settings r now h is clock = answer_reads settings r now h is clock

pub opened_read : (handle now channel : ℕ) (token : Token) → now < 2 ^ 63 → handle < 2 ^ 32 → channel < 2 ^ 32 → token.id < 2 ^ 32 → token.lifetime < 2 ^ 32
    → open_response_of (opened_body handle now channel token) ≡ Some (opened_response handle now channel token)
unfolding opened_body
opened_read handle now channel token m h c t l = open_response_read now handle channel token.id token.lifetime m h c t l

-- a revised lifetime is one of its field, whatever was asked
pub revised_fits : (asked : ℕ) → revised asked ≤ 3600000
revised_fits asked = by (asked == 0)
  where
    by : (b : Bool) → cond b 3600000 (max 10000 (min 3600000 asked)) ≤ 3600000
    by true = omega arith
    by false = omega arith

-- ---- limits of the Hello

not_over : (limit n : ℕ) → 1 ≤ limit → is_over limit n ≡ false → n ≤ limit
not_over limit n some h = elim (cases_Bool (limit == 0)) [
  | inl none ↦ absurd (let e : limit ≡ 0 = eqb-true limit 0 none in omega (arith, e, some))
  | inr other ↦ ltb-false limit n (sym (ap (λ b. not b && nat_lt limit n) other) ∙ h)
]

-- An answer that is not over the limits of the Hello, where those are limits: its parts arrive as its body.
pub answer_arrives : (a : Agreed) (id : ℕ) (body : List ℕ) → is_over_limits a body ≡ false → 1 ≤ a.answer_bytes → 1 ≤ a.answer_parts → 25 ≤ a.ack.send
    → Arrives a.answer_bytes a.answer_parts id body None (answer_parts a id body)
answer_arrives a id body over bytes parts send =
    let sides = or_parts _ _ over in
    let arrives = fill_arrives a.answer_bytes a.answer_parts id (part_size a) body (omega (arith, send)) (not_over a.answer_bytes (length body) bytes sides.0) (not_over a.answer_parts (part_count (length body) (part_size a)) parts sides.1) in
    subst (λ b. Arrives a.answer_bytes a.answer_parts id body None (cond b (aborted id 0x80B90000 ∷ []) (fill id body (part_size a)))) (sym over) arrives

-- Else it is one abort,
pub answer_aborted : (a : Agreed) (id : ℕ) (body : List ℕ) → is_over_limits a body ≡ true → answer_parts a id body ≡ aborted id 0x80B90000 ∷ []
answer_aborted a id body over = ap (λ b. cond b (aborted id 0x80B90000 ∷ []) (fill id body (part_size a))) over

-- which no row of the parts refuses, and which drops what was half received.
pub abort_arrives : (max_message max_chunks id status : ℕ) (half : Option Half) → status < 2 ^ 32 → may_have_id half id ≡ true
    → (first_row (part_rows max_message max_chunks half 65 id (abort_bytes status)) ≡ None) × (half_after half 65 id (abort_bytes status) ≡ None)
abort_arrives max_message max_chunks id status half lt same = (rw (same, abort_read status lt) refl, refl)

-- what is agreed is a value
pub agreed_value : (limits : Limits) (h : Hello) → IsLimits limits → acknowledge_layout.IsValue (negotiated limits h)
unfolding acknowledge_layout unsigned
agreed_value limits h is = (
  lit< tt,
  (
    omega (arith, is.receive_most),
    (
      omega (arith, is.send_most),
      (omega (arith, is.message_most), omega (arith, is.chunks_most)),
    ),
  ),
)
