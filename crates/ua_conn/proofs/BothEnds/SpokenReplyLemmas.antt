-- The frames of a reply, as values: each is a frame, and no greater than what the client takes, whatever came before.
use Rattle.std.proofs.Common.{◌≡◌, ℕ, ◌+◌, ◌<◌, ◌≤◌, ◌^◌, max, Bool, true, false, cond, List, [], ◌∷◌, ◌++◌, map, length, Option, Some, None, refl, sym, subst, ◌∙◌, arith}
use Rattle.std.specs.Prelude.{IfSome, option_map}
use Rattle.std.specs.List.{AllByRecursion}
use Rattle.ua_frame.specs.Streams.{TimedByte, plain}
use Rattle.ua_frame.specs.Layout.{Frame, kind_of}
use Rattle.ua_frame.specs.HeaderRows.{flag_fits}
use Rattle.ua_frame.specs.Beginnings.{joined}
use Rattle.ua_frame.specs.declared.kind.Kind.{Kind}
use Rattle.ua_frame.specs.declared.kind.Kind.TheVariants as kinds
use Rattle.ua_frame.specs.declared.hello.Hello.{Hello}
use Rattle.ua_chunk.specs.Layout.{OpenChunk}
use Rattle.ua_chunk.specs.Cut.{Part, fill}
use Rattle.ua_chunk.specs.Numbers.{number_after}
use Rattle.ua_chunk.specs.FrameLaws.{IsPartOf, fill_parts, abort_length}
use Rattle.ua_channel.specs.Token.{next_token}
use Rattle.ua_channel.specs.Channel.{most}
use Rattle.ua_service.specs.declared.channel.OpenRequest.{OpenRequest}
use Rattle.ua_service.specs.declared.request.Request.{Request}
use Rattle.ua_conn.specs.server.Site.{Site}
use Rattle.ua_conn.specs.server.Answers.{answer_body}
use Rattle.ua_conn.specs.Past.{Past, Agreed, Known, known, is_hello, hello_in, open_in, carried, asked_open, agreed, limits_of, limits_in}
use Rattle.ua_conn.specs.server.Replies.{Reply, Acknowledge, Opened, Answer, Failed, spelled, more_numbered, spelled_all, part_size, is_over_limits, aborted, answer_parts, answer_to, opened_by, acknowledged, reply_by, reply_to, whole_request, replies, failing, reply_bytes, end_of, reading_of}
use Rattle.ua_conn.specs.declared.outcome.End.{End}
use Rattle.ua_conn.specs.declared.outcome.End.TheVariants.{Refused}
use Rattle.ua_conn.specs.server.Feeding.{replies_of}
use Rattle.ua_conn.proofs.ServerEnd.LengthLemmas.{opened_length}
use Rattle.ua_conn.proofs.BothEnds.SpokenLemmas.{Spoken, Acknowledges, Fails, Opens, Tells, spell, IsSized, AreSized, spelled_list, BeginsSpoken, begins_spoken}

-- ---- with their numbers

abbrev pub reply_spoken : Site → ℕ → Reply → Spoken
reply_spoken site n (Acknowledge ack) = Acknowledges ack
reply_spoken site n (Opened id body) = Opens site.channel n id body
reply_spoken site n (Answer token part) = Tells site.channel token n part
reply_spoken site n (Failed status) = Fails status

pub reply_spelled : (site : Site) (n : ℕ) (r : Reply) → spelled site n r ≡ spell (reply_spoken site n r)
unfolding spelled
reply_spelled site n (Acknowledge ack) = refl
reply_spelled site n (Opened id body) = refl
reply_spelled site n (Answer token part) = refl
reply_spelled site n (Failed status) = refl

-- n is how many were numbered before
abbrev pub replies_spoken : Site → ℕ → List Reply → List Spoken
replies_spoken site n [] = []
replies_spoken site n (r ∷ rs) = reply_spoken site (number_after 1 n) r ∷ replies_spoken site (more_numbered n r) rs

pub replies_spelled : (site : Site) (n : ℕ) (rs : List Reply) → spelled_all site n rs ≡ joined (spelled_list (replies_spoken site n rs))
replies_spelled site n [] = refl
replies_spelled site n (r ∷ rs) = λ i. reply_spelled site (number_after 1 n) r i ++ replies_spelled site (more_numbered n r) rs i

-- ---- how large they are

-- no greater than the limit, and flagged as its type is
abbrev pub Fits : ℕ → Reply → Type 0
Fits limit (Acknowledge ack) = 28 ≤ limit
Fits limit (Opened id body) = 79 + length body ≤ limit
Fits limit (Answer token part) = (24 + length part.bytes ≤ limit) × (flag_fits kinds.Message part.flag ≡ true)
Fits limit (Failed status) = 16 ≤ limit

abbrev pub AllFit : ℕ → List Reply → Type 0
AllFit limit rs = AllByRecursion (Fits limit) rs

all_both : (limit : ℕ) (rs qs : List Reply) → AllFit limit rs → AllFit limit qs → AllFit limit (rs ++ qs)
all_both limit [] qs h k = k
all_both limit (r ∷ rs) qs h k = (h.0, all_both limit rs qs h.1 k)

-- the agreed send limit holds the parts of an answer, and so does a larger one
parts_fit : (limit token id k : ℕ) (body : List ℕ) (parts : List Part) → 24 + k ≤ limit → AllByRecursion (IsPartOf id k) parts → AllFit limit (map (Answer token) parts)
parts_fit limit token id k body [] within h = tt
parts_fit limit token id k body (p ∷ parts) within h = ((omega (arith, h.0.size, within), h.0.flag), parts_fit limit token id k body parts within h.1)

answer_fits_by : (over : Bool) (limit token id k : ℕ) (body : List ℕ) → 8192 ≤ limit → 24 + k ≤ limit → AllFit limit (map (Answer token) (cond over (aborted id 0x80B90000 ∷ []) (fill id body k)))
answer_fits_by true limit token id k body least within = ((omega (arith, abort_length 0x80B90000, least), refl), tt)
answer_fits_by false limit token id k body least within = parts_fit limit token id k body (fill id body k) within (fill_parts id k body)

-- The parts of an answer, or the abort in their place, in frames within the limit.
pub answer_parts_fit : (limit token id : ℕ) (a : Agreed) (body : List ℕ) → 8192 ≤ limit → a.ack.send ≤ limit → AllFit limit (map (Answer token) (answer_parts a id body))
answer_parts_fit limit token id a body least within = answer_fits_by (is_over_limits a body) limit token id (part_size a) body least (omega (arith, least, within))

answer_fit : (site : Site) (k : Known) (f : Frame) (limit : ℕ) (l : Option Agreed) (r : Option Request) → 8192 ≤ limit → IfSome l (λ a. a.ack.send ≤ limit) → AllFit limit (answer_to site k f l r)
answer_fit site k f limit (Some a) (Some r) least within = answer_parts_fit limit (most k.used (carried f).token) (carried f).request_id a (answer_body site.settings r f.moment) least within
answer_fit site k f limit (Some a) None least within = tt
answer_fit site k f limit None (Some r) least within = tt
answer_fit site k f limit None None least within = tt

opened_fit : (site : Site) (k : Known) (now limit : ℕ) (o : Option OpenChunk) (r : Option OpenRequest) → 8192 ≤ limit → AllFit limit (opened_by site k now o r)
opened_fit site k now limit (Some o) (Some r) least =
    (omega (arith, opened_length r.header.request_handle now site.channel (next_token k.tokens now r.requested_lifetime), least), tt)
opened_fit site k now limit (Some o) None least = tt
opened_fit site k now limit None (Some r) least = tt
opened_fit site k now limit None None least = tt

acknowledged_fit : (site : Site) (limit : ℕ) (o : Option Hello) → 8192 ≤ limit → AllFit limit (acknowledged site o)
acknowledged_fit site limit None least = tt
acknowledged_fit site limit (Some h) least = (omega (arith, least), tt)

-- What a frame is answered is within the limit, where that is 8192 or more and no less than what was agreed.
pub reply_fits : (site : Site) (k : Known) (f : Frame) (limit : ℕ) → 8192 ≤ limit → IfSome k.limits (λ a. a.ack.send ≤ limit) → AllFit limit (reply_to site k f)
unfolding reply_to
reply_fits site k f limit least within = by (kind_of f.bytes)
  where
    by : (o : Option Kind) → AllFit limit (reply_by site k f o)
    by (Some kinds.Hello) = acknowledged_fit site limit (hello_in f) least
    by (Some kinds.Acknowledge) = tt
    by (Some kinds.Error) = tt
    by (Some kinds.ReverseHello) = tt
    by (Some kinds.Open) = opened_fit site k f.moment limit (open_in f) (asked_open f) least
    by (Some kinds.Message) = answer_fit site k f limit k.limits (whole_request k f) least within
    by (Some kinds.Close) = tt
    by None = tt

-- what is agreed is at most what the server sends
agreed_within : (site : Site) (o : Option Hello) → IfSome (option_map (agreed site) o) (λ a. a.ack.send ≤ site.settings.limits.send)
agreed_within site None = tt
agreed_within site (Some h) = omega arith

pub limits_within : (site : Site) (past : Past) → IfSome (limits_in site past) (λ a. a.ack.send ≤ site.settings.limits.send)
limits_within site [] = tt
limits_within site (f ∷ past) = by (is_hello (kind_of f.bytes)) (agreed_within site (hello_in f)) (limits_within site past)
  where
    by : (b : Bool) → IfSome (limits_of site f) (λ a. a.ack.send ≤ site.settings.limits.send) → IfSome (limits_in site past) (λ a. a.ack.send ≤ site.settings.limits.send)
        → IfSome (cond b (limits_of site f) (limits_in site past)) (λ a. a.ack.send ≤ site.settings.limits.send)
    by true h k = h
    by false h k = k

known_limits : (site : Site) (past : Past) → (known site past).limits ≡ limits_in site past
unfolding known
known_limits site past = refl

weaker : (l : Option Agreed) (m n : ℕ) → m ≤ n → IfSome l (λ a. a.ack.send ≤ m) → IfSome l (λ a. a.ack.send ≤ n)
weaker None m n le h = tt
weaker (Some a) m n le h = omega (arith, le, h)

-- whatever came
pub replies_fit : (site : Site) (past : Past) (limit : ℕ) → 8192 ≤ limit → site.settings.limits.send ≤ limit → AllFit limit (replies site past)
replies_fit site [] limit least most = tt
replies_fit site (f ∷ past) limit least most =
    let within : IfSome (limits_in site past) (λ a. a.ack.send ≤ limit) = weaker (limits_in site past) site.settings.limits.send limit most (limits_within site past) in
    all_both limit (replies site past) (reply_to site (known site past) f) (replies_fit site past limit least most)
    (reply_fits site (known site past) f limit least (subst (λ l. IfSome l (λ a. a.ack.send ≤ limit)) (sym (known_limits site past)) within))

failing_fits : (limit : ℕ) (e : End) → 8192 ≤ limit → AllFit limit (failing e)
failing_fits limit (Refused status) least = (omega (arith, least), tt)
failing_fits limit ending least = tt

pub stream_fits : (site : Site) (s : List TimedByte) (limit : ℕ) → 8192 ≤ limit → site.settings.limits.send ≤ limit → AllFit limit (replies_of site s)
stream_fits site s limit least most = all_both limit (replies site (reading_of site s).past) (failing (end_of site s)) (replies_fit site (reading_of site s).past limit least most) (failing_fits limit (end_of site s) least)

-- ---- so they are frames

reply_sized : (site : Site) (n limit : ℕ) (r : Reply) → limit < 2 ^ 32 → Fits limit r → IsSized (reply_spoken site n r)
reply_sized site n limit (Acknowledge ack) lt h = tt
reply_sized site n limit (Opened id body) lt h = omega (arith, lt, h)
reply_sized site n limit (Answer token part) lt h = omega (arith, lt, h.0)
reply_sized site n limit (Failed status) lt h = tt

pub replies_sized : (site : Site) (n limit : ℕ) (rs : List Reply) → limit < 2 ^ 32 → AllFit limit rs → AreSized (replies_spoken site n rs)
replies_sized site n limit [] lt h = tt
replies_sized site n limit (r ∷ rs) lt h = (reply_sized site (number_after 1 n) limit r lt h.0, replies_sized site (more_numbered n r) limit rs lt h.1)

-- What came of a reply: its first frames, and less than the next. It needs nothing of what was asked.
pub reply_begins : (site : Site) (u v : List TimedByte) (more : List ℕ) → site.settings.limits.send < 2 ^ 32 → plain v ++ more ≡ reply_bytes false site u → BeginsSpoken v (replies_spoken site 0 (replies_of site u))
reply_begins site u v more lt e =
    let limit = max 8192 site.settings.limits.send in
    begins_spoken (replies_spoken site 0 (replies_of site u)) v more
    (replies_sized site 0 limit (replies_of site u) (omega (arith, lt)) (stream_fits site u limit (omega arith) (omega arith)))
    (e ∙ replies_spelled site 0 (replies_of site u))
