-- What a server says ends no more messages than it handed requests on, and so do the frames of it that came to a client.
use Rattle.std.proofs.Common.{◌≡◌, ℕ, zero, suc, ◌+◌, ◌≤◌, Bool, true, false, cond, List, [], ◌∷◌, map, length, Option, Some, None, refl, sym, ap, ◌∙◌, arith}
use Rattle.std.specs.Prelude.{◌&&◌, ◌==◌}
use Rattle.std.specs.List.{filter, range_with_len}
use Rattle.std.proofs.lemmas.List.{length-append}
use Rattle.std.proofs.lemmas.List.Elements.{filter-append}
use Rattle.std.proofs.lemmas.Bool.{ne_eqb, eqb-true}
use Rattle.ua_frame.specs.Layout.{Frame, IsFrameOf, kind_of, flag_of}
use Rattle.ua_frame.specs.declared.kind.Kind.{Kind}
use Rattle.ua_frame.specs.declared.kind.Kind.TheVariants as kinds
use Rattle.ua_chunk.specs.Cut.{part_at, part_count, fill}
use Rattle.ua_chunk.specs.Half.{ends_message}
use Rattle.ua_chunk.specs.Layout.{OpenChunk}
use Rattle.ua_frame.specs.declared.hello.Hello.{Hello}
use Rattle.ua_channel.specs.Channel.{most}
use Rattle.ua_service.specs.declared.channel.OpenRequest.{OpenRequest}
use Rattle.ua_chunk.specs.Numbers.{number_after}
use Rattle.ua_service.specs.declared.request.Request.{Request}
use Rattle.ua_conn.specs.server.Site.{Site}
use Rattle.ua_conn.specs.Past.{Past, Known, Agreed, known, is_message, hello_in, open_in, asked_open, carried}
use Rattle.ua_conn.specs.server.Answers.{answer_body}
use Rattle.ua_conn.specs.server.Replies.{Reply, Acknowledge, Opened, Answer, Failed, part_size, is_over_limits, aborted, whole_request, answer_to, opened_by, acknowledged, reply_by, reply_to, to_list, handed_at, replies, requests, more_numbered, spelled}
use Rattle.ua_conn.specs.server.Held.{newest_first}
use Rattle.ua_conn.specs.client.Pending.{ends_one, ended_ids}
use Rattle.ua_conn.proofs.BothEnds.OnTheWayLemmas.{frames_replied, Are}
use Rattle.ua_conn.proofs.BothEnds.SpokenLemmas.{Spoken, spell, parts_of, IsSized, AreSized, spell_is}
use Rattle.ua_conn.proofs.BothEnds.SpokenReplyLemmas.{reply_spoken, replies_spoken, reply_spelled}

-- ---- what is said

-- it is the last part of a message
abbrev pub ends_reply : Reply → Bool
ends_reply (Acknowledge ack) = false
ends_reply (Opened id body) = false
ends_reply (Answer token part) = ends_message part.flag
ends_reply (Failed status) = false

abbrev pub endings : List Reply → ℕ
endings rs = length (filter ends_reply rs)

-- of all parts but the last the flag is C
none_ends : (token id k n a m : ℕ) (body : List ℕ) → part_count (length body) k ≡ n → n ≤ a → endings (map (Answer token) (map (part_at id body k) (range_with_len a m))) ≡ 0
none_ends token id k n a zero body e le = refl
none_ends token id k n a (suc m) body e le =
    let other : (a + 1 == part_count (length body) k) ≡ false = ne_eqb (a + 1) (part_count (length body) k) (λ h. omega (arith, le, e, h)) in
    let rest : List Reply = map (Answer token) (map (part_at id body k) (range_with_len (a + 1) m)) in
    ap (λ b. length (cond (ends_message (cond b 70 67)) (Answer token (part_at id body k a) ∷ filter ends_reply rest) (filter ends_reply rest))) other
    ∙ none_ends token id k n (a + 1) m body e (omega (arith, le))

one_ends : (token id k a m : ℕ) (body : List ℕ) → endings (map (Answer token) (map (part_at id body k) (range_with_len a m))) ≤ 1
one_ends token id k a zero body = omega arith
one_ends token id k a (suc m) body = by (a + 1 == part_count (length body) k) refl (one_ends token id k (a + 1) m body)
  where
    rest : List Reply
    rest = map (Answer token) (map (part_at id body k) (range_with_len (a + 1) m))

    by : (b : Bool) → (a + 1 == part_count (length body) k) ≡ b → endings rest ≤ 1 → length (cond (ends_message (cond b 70 67)) (Answer token (part_at id body k a) ∷ filter ends_reply rest) (filter ends_reply rest)) ≤ 1
    by false e h = h
    by true e h = let none : endings rest ≡ 0 = none_ends token id k (a + 1) (a + 1) m body (sym (eqb-true (a + 1) (part_count (length body) k) e)) (omega arith) in omega (arith, none)

fill_ends : (token id k : ℕ) (body : List ℕ) → endings (map (Answer token) (fill id body k)) ≤ 1
unfolding fill
fill_ends token id k body = one_ends token id k 0 (part_count (length body) k) body

answer_ends : (site : Site) (k : Known) (f : Frame) (agreed : Option Agreed) (request : Option Request) → endings (answer_to site k f agreed request) ≤ length (to_list request)
answer_ends site k f None None = omega arith
answer_ends site k f None (Some r) = omega arith
answer_ends site k f (Some agreed) None = omega arith
answer_ends site k f (Some agreed) (Some r) = by (is_over_limits agreed body)
  where
    body : List ℕ
    body = answer_body site.settings r f.moment

    token : ℕ
    token = most k.used (carried f).token

    id : ℕ
    id = (carried f).request_id

    by : (b : Bool) → endings (map (Answer token) (cond b (aborted id 0x80B90000 ∷ []) (fill id body (part_size agreed)))) ≤ 1
    by true = omega arith
    by false = fill_ends token id (part_size agreed) body

opened_ends : (site : Site) (k : Known) (now : ℕ) (o : Option OpenChunk) (r : Option OpenRequest) → endings (opened_by site k now o r) ≡ 0
opened_ends site k now None r = refl
opened_ends site k now (Some o) None = refl
opened_ends site k now (Some o) (Some r) = refl

acknowledged_ends : (site : Site) (o : Option Hello) → endings (acknowledged site o) ≡ 0
acknowledged_ends site None = refl
acknowledged_ends site (Some h) = refl

-- a frame ends no more messages than it hands requests on
pub reply_ends : (site : Site) (k : Known) (f : Frame) → endings (reply_to site k f) ≤ length (handed_at k f)
unfolding reply_to handed_at
reply_ends site k f = by (kind_of f.bytes)
  where
    by : (kind : Option Kind) → endings (reply_by site k f kind) ≤ length (to_list (whole_request k f))
    by None = omega arith
    by (Some kinds.Hello) = omega (arith, acknowledged_ends site (hello_in f))
    by (Some kinds.Acknowledge) = omega arith
    by (Some kinds.Error) = omega arith
    by (Some kinds.ReverseHello) = omega arith
    by (Some kinds.Open) = omega (arith, opened_ends site k f.moment (open_in f) (asked_open f))
    by (Some kinds.Message) = answer_ends site k f k.limits (whole_request k f)
    by (Some kinds.Close) = omega arith

pub replies_end : (site : Site) (past : Past) → endings (replies site past) ≤ length (requests site past)
replies_end site [] = omega arith
replies_end site (f ∷ past) =
    let says = reply_to site (known site past) f in
    let asks = handed_at (known site past) f in
    omega (
      arith,
      replies_end site past,
      reply_ends site (known site past) f,
      ap length (filter-append ends_reply (replies site past) says),
      length-append (filter ends_reply (replies site past)) (filter ends_reply says),
      length-append (requests site past) asks,
    )

-- ---- as frames

-- a frame that has the bytes of a reply ends a message where the reply does
pub ends_as : (site : Site) (n : ℕ) (r : Reply) (f : Frame) → IsSized (reply_spoken site n r) → f.bytes ≡ spelled site n r → ends_one f ≡ ends_reply r
ends_as site n r f short e = (λ i. is_message (kind_of (bytes i)) && ends_message (flag_of (bytes i))) ∙ (λ i. is_message (there.kind i) && ends_message (there.flag i)) ∙ by r
  where
    x : Spoken
    x = reply_spoken site n r

    bytes : f.bytes ≡ spell x
    bytes = e ∙ reply_spelled site n r

    there : IsFrameOf (spell x) (parts_of x)
    there = spell_is x short

    by : (q : Reply) → (is_message (Some (parts_of (reply_spoken site n q)).kind) && ends_message (parts_of (reply_spoken site n q)).flag) ≡ ends_reply q
    by (Acknowledge ack) = refl
    by (Opened id body) = refl
    by (Answer token part) = refl
    by (Failed status) = refl

-- The frames of replies end as many messages as the replies.
pub frames_end : (site : Site) (n : ℕ) (rs : List Reply) (fs : List Frame) (past : Past) → AreSized (replies_spoken site n rs) → Are fs (frames_replied site n rs) → length (ended_ids (newest_first fs past)) ≡ length (ended_ids past) + endings rs
frames_end site n [] [] past short e = omega arith
frames_end site n [] (f ∷ fs) past short e = absurd (cc e)
frames_end site n (r ∷ rs) [] past short e = absurd (cc e)
frames_end site n (r ∷ rs) (f ∷ fs) past short e =
    let head : f.bytes ≡ spelled site (number_after 1 n) r = cc e in
    let same = ends_as site (number_after 1 n) r f short.0 head in
    by (ends_reply r) same (frames_end site (more_numbered n r) rs fs (f ∷ past) short.1 (cc e))
  where
    by : (b : Bool) → ends_one f ≡ b → length (ended_ids (newest_first fs (f ∷ past))) ≡ length (ended_ids (f ∷ past)) + endings rs →
        length (ended_ids (newest_first fs (f ∷ past))) ≡ length (ended_ids past) + length (cond b (r ∷ filter ends_reply rs) (filter ends_reply rs))
    by true k h = let more : ended_ids (f ∷ past) ≡ (carried f).request_id ∷ ended_ids past = rw k refl in omega (arith, h, ap length more)
    by false k h = let less : ended_ids (f ∷ past) ≡ ended_ids past = rw k refl in omega (arith, h, ap length less)
