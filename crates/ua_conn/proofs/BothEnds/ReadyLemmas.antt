-- What a client knows where it takes a command: all that stands had come, the channel is the server's, and its newest token is as many as came.
use mathlib.Core.List.{IsPrefix}
use Rattle.std.proofs.Common.{◌≡◌, ℕ, ◌+◌, ◌≤◌, Bool, true, false, cond, List, [], ◌∷◌, ◌++◌, length, Option, Some, None, refl, sym, ap, subst, ◌∙◌, arith, append_assoc}
use Rattle.std.specs.Prelude.{◌==◌, ◌&&◌, not}
use Rattle.std.specs.List.{filter, find}
use Rattle.std.proofs.lemmas.List.{length-append, length-map}
use Rattle.std.proofs.lemmas.Bool.{ne_eqb, eqb-true, or_parts, not-false}
use Rattle.ua_frame.specs.Streams.{TimedByte}
use Rattle.ua_frame.specs.Layout.{Frame, frames_of, kind_of, flag_of}
use Rattle.ua_frame.specs.declared.kind.Kind.TheVariants as kinds
use Rattle.ua_chunk.specs.Layout.{OpenChunk}
use Rattle.ua_channel.specs.declared.token.Token.{Token}
use Rattle.ua_channel.specs.Token.{newest_id, two_newest, is_known}
use Rattle.ua_service.specs.declared.request.Request.{Request}
use Rattle.ua_conn.specs.Past.{Past, is_open, open_in, tokens_by, tokens_in, carried}
use Rattle.ua_conn.specs.server.Held.{newest_first}
use Rattle.ua_conn.specs.client.Asker.{Asker}
use Rattle.ua_conn.specs.client.Commands.{Commands}
use Rattle.ua_conn.specs.client.Past.{ClientKnown, client_known, ack_by, acknowledge_frame_in, channel_named, channel_by, channel_in, granted_in, granted_by, response_in}
use Rattle.ua_conn.specs.client.Pending.{bytes_in, come_by, due_at, wanted_at}
use Rattle.ua_conn.specs.client.Faults.{client_rows, opened_rows}
use Rattle.ua_conn.specs.BothEnds.{AllAfter}
use Rattle.ua_conn.proofs.ClientEnd.GainLemmas.{come_by_all}
use Rattle.ua_conn.proofs.ServerEnd.ReadyLemmas.{newest_append}
use Rattle.ua_conn.proofs.KindLemmas.{is_open_tells}
use Rattle.ua_conn.proofs.TableLemmas.{AllNo, all_no}
use Rattle.ua_conn.proofs.ClientEnd.FreshLemmas.{rows_of_kind}
use Rattle.ua_conn.proofs.ClientEnd.PlaceLemmas.{bytes_of_frames, grows}
use Rattle.ua_conn.proofs.BothEnds.AliveLemmas.{client_tokens}
use Rattle.ua_conn.proofs.BothEnds.ClientWalkLemmas.{granted_more}
use Rattle.ua_conn.proofs.BothEnds.FaithfulLemmas.{acknowledge_same}
use Rattle.ua_conn.proofs.BothEnds.HoldLemmas.{ids_of, tokens_count}
use Rattle.ua_conn.proofs.BothEnds.OnTheWayLemmas.{past_of, Accepts}

-- ---- all that stands had come

pub stands_come : (v : List TimedByte) (hs : List Frame) → IsPrefix hs (frames_of v) → come_by (length v) (past_of hs) ≡ past_of hs
stands_come v hs p =
    let all : newest_first p.0 (past_of hs) ≡ past_of (frames_of v) = sym (newest_append hs p.0 []) ∙ ap past_of p.1 in
    come_by_all (length v) (past_of hs) (omega (arith, grows p.0 (past_of hs), ap bytes_in all, bytes_of_frames v))

-- ---- tokens that came are the older ones of all

granted_step : (past : Past) (f : Frame) → (more : List Token) × (granted_in (f ∷ past) ≡ more ++ granted_in past)
granted_step past f = by (is_open (kind_of f.bytes)) refl
  where
    by : (b : Bool) → is_open (kind_of f.bytes) ≡ b → (more : List Token) × (granted_in (f ∷ past) ≡ more ++ granted_in past)
    by true e = (granted_by (response_in f) f.moment ∷ [], granted_more f past true e)
    by false e = ([], granted_more f past false e)

pub granted_go : (past : Past) (fs : List Frame) → (more : List Token) × (granted_in (newest_first fs past) ≡ more ++ granted_in past)
granted_go past [] = ([], refl)
granted_go past (f ∷ fs) =
    let one = granted_step past f in
    let rest = granted_go (f ∷ past) fs in
    (rest.0 ++ one.0, rest.1 ∙ ap (λ l. rest.0 ++ l) one.1 ∙ sym (append_assoc rest.0 one.0 (granted_in past)))

-- each is one more than the older ones
abbrev AreCounted : List ℕ → Type 0
AreCounted [] = Unit {0}
AreCounted (n ∷ ns) = (n ≡ length ns + 1) × AreCounted ns

issued_counted : (opens : List Frame) → AreCounted (ids_of (tokens_by opens))
issued_counted [] = tt
issued_counted (f ∷ opens) = (omega (arith, tokens_count opens, length-map (tokens_by opens) (λ (t : Token). t.id)), issued_counted opens)

counted_older : (xs ys : List Token) → AreCounted (ids_of (xs ++ ys)) → AreCounted (ids_of ys)
counted_older [] ys h = h
counted_older (x ∷ xs) ys h = counted_older xs ys h.1

newest_counted : (ts : List Token) → AreCounted (ids_of ts) → newest_id (two_newest ts) ≡ length ts
newest_counted [] h = refl
newest_counted (t ∷ []) h = h.0
newest_counted (t ∷ u ∷ ts) h = omega (arith, h.0, length-map (u ∷ ts) (λ (t : Token). t.id))

-- the newest token that came, where all that will have come are those that the server issued
pub newest_came : (there past : Past) (fs : List Frame) → ids_of (granted_in (newest_first fs past)) ≡ ids_of (tokens_in there) → newest_id (two_newest (granted_in past)) ≡ length (granted_in past)
newest_came there past fs same =
    let go = granted_go past fs in
    let opens = filter (λ f. is_open (kind_of f.bytes)) there in
    let all : AreCounted (ids_of (go.0 ++ granted_in past)) = subst AreCounted (sym same ∙ ap ids_of go.1) (issued_counted opens) in
    newest_counted (granted_in past) (counted_older go.0 (granted_in past) all)

-- ---- the channel stays

known_channel : (past : Past) → (client_known past).channel ≡ channel_in past
unfolding client_known
known_channel past = refl

unopened_none : (tokens : List Token) → 1 ≤ length tokens → (length (two_newest tokens) == 0) ≡ false
unopened_none [] h = absurd (omega (arith, h))
unopened_none (t ∷ []) h = ne_eqb 1 0 (λ e. omega (arith, e))
unopened_none (t ∷ u ∷ ts) h = ne_eqb 2 0 (λ e. omega (arith, e))

channel_stays : (a : Asker) (cmds : Commands) (past : Past) (f : Frame) → Accepts a cmds past f → 1 ≤ length (granted_in past) → channel_in (f ∷ past) ≡ channel_in past
channel_stays a cmds past f h some = by (is_open (kind_of f.bytes)) refl
  where
    k : ClientKnown
    k = client_known past

    due : Option ℕ
    due = due_at cmds past (bytes_in (f ∷ past))

    wanted : Option Request
    wanted = wanted_at cmds past (bytes_in (f ∷ past)) (carried f).request_id

    usable : Bool
    usable = is_known k.tokens (carried f).token

    opened : is_open (kind_of f.bytes) ≡ true → AllNo (opened_rows k due (open_in f))
    opened m = (all_no (client_rows a false k due wanted usable f (flag_of f.bytes) (Some kinds.Open)) (rows_of_kind a false k due wanted usable f (Some kinds.Open) h (is_open_tells (kind_of f.bytes) m))).1

    some_tokens : (length k.tokens == 0) ≡ false
    some_tokens = ap (λ (ts : List Token). length ts == 0) (client_tokens past) ∙ unopened_none (granted_in past) some

    named : (o : Option OpenChunk) → AllNo (opened_rows k due o) → channel_named o ≡ channel_in past
    named None n = absurd (cc (n.0))
    named (Some opening) n =
        let other = or_parts (opening.channel == 0) (not (length k.tokens == 0) && not (opening.channel == k.channel)) n.0 in
        let differs : not (opening.channel == k.channel) ≡ false = ap (λ b. not b && not (opening.channel == k.channel)) (sym some_tokens) ∙ other.1 in
        eqb-true opening.channel k.channel (not-false (opening.channel == k.channel) differs) ∙ known_channel past

    by : (b : Bool) → is_open (kind_of f.bytes) ≡ b → channel_by (cond b (Some f) (find (λ (g : Frame). is_open (kind_of g.bytes)) past)) ≡ channel_in past
    by true e = named (open_in f) (opened e)
    by false e = refl

granted_least : (past : Past) (f : Frame) → length (granted_in past) ≤ length (granted_in (f ∷ past))
granted_least past f = let one = granted_step past f in omega (arith, ap length one.1, length-append one.0 (granted_in past))

pub channel_along : (a : Asker) (cmds : Commands) (past : Past) (fs : List Frame) → AllAfter (Accepts a cmds) past fs → 1 ≤ length (granted_in past) → (client_known (newest_first fs past)).channel ≡ (client_known past).channel
channel_along a cmds past [] h some = refl
channel_along a cmds past (f ∷ fs) h some =
    channel_along a cmds (f ∷ past) fs h.1 (omega (arith, some, granted_least past f))
    ∙ known_channel (f ∷ past) ∙ channel_stays a cmds past f h.0 some ∙ sym (known_channel past)

-- ---- the Acknowledge stays

known_ack : (past : Past) → (client_known past).ack ≡ ack_by (acknowledge_frame_in past)
unfolding client_known
known_ack past = refl

pub ack_along : (past : Past) (fs : List Frame) (f : Frame) → acknowledge_frame_in past ≡ Some f → (client_known (newest_first fs past)).ack ≡ (client_known past).ack
ack_along past fs f e = known_ack (newest_first fs past) ∙ ap ack_by (acknowledge_same fs past f e ∙ sym e) ∙ sym (known_ack past)

pub known_newest : (past : Past) → newest_id (client_known past).tokens ≡ newest_id (two_newest (granted_in past))
known_newest past = ap newest_id (client_tokens past)
