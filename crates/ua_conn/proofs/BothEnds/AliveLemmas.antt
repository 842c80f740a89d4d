-- While the tokens live that are used, what is accepted but for their age is accepted, and a stream of it is not refused.
use mathlib.Core.List.{IsPrefix}
use Rattle.std.proofs.Common.{◌≡◌, ℕ, Bool, true, false, cond, List, [], ◌∷◌, ◌++◌, map, Option, Some, None, is_some, refl, sym, ap, subst, ◌∙◌}
use Rattle.std.specs.Prelude.{◌==◌, ◌&&◌, not, option_map}
use Rattle.std.specs.List.{find}
use Rattle.std.proofs.lemmas.List.{append_cancel_left, map-append}
use Rattle.ua_frame.specs.Streams.{TimedByte, plain, rest_of}
use Rattle.ua_frame.specs.Layout.{Frame, frames_of, kind_of, flag_of}
use Rattle.ua_frame.specs.Rows.{or_else, first_row}
use Rattle.ua_frame.specs.HeaderRows.{header_fault}
use Rattle.ua_frame.specs.Beginnings.{IsPart, NextPasses, rest_passes}
use Rattle.ua_frame.specs.declared.kind.Kind.{Kind}
use Rattle.ua_frame.specs.declared.kind.Kind.TheVariants as kinds
use Rattle.ua_channel.specs.declared.token.Token.{Token}
use Rattle.ua_channel.specs.Token.{named, is_known, lives, two_newest}
use Rattle.ua_service.specs.declared.request.Request.{Request}
use Rattle.ua_conn.specs.server.Site.{Site}
use Rattle.ua_conn.specs.Past.{Past, Known, known, is_close, has_token, carried, tokens_in}
use Rattle.ua_conn.specs.server.Faults.{fault_at, fault_by, fault_in_rest, greatest_frame, names_usable}
use Rattle.ua_conn.specs.server.Replies.{Reading, reading, ended, fault_of, first_fault}
use Rattle.ua_conn.specs.server.Held.{newest_first}
use Rattle.ua_conn.specs.client.Asker.{Asker}
use Rattle.ua_conn.specs.client.Commands.{Commands}
use Rattle.ua_conn.specs.client.Past.{ClientKnown, client_known, granted_in, reverse_frame_in}
use Rattle.ua_conn.specs.client.Pending.{bytes_in, due_at, wanted_at}
use Rattle.ua_conn.specs.client.Faults.{greatest_answer, client_rows, client_fault_by, client_fault_in_rest, token_usable}
use Rattle.ua_conn.specs.client.Reading.{ClientReading, client_fault_at, client_reading, client_reading_of}
use Rattle.ua_conn.specs.BothEnds.{AllAfter, IsLive}
use Rattle.ua_conn.specs.declared.client.fault.ClientFault.{ClientFault}
use Rattle.ua_conn.specs.declared.client.fault.ClientFault.TheVariants.{Broken}
use Rattle.ua_conn.specs.declared.outcome.End.TheVariants.{Closed, Refused}
use Rattle.ua_conn.proofs.ClientEnd.EffectLemmas.{unbroken}
use Rattle.ua_conn.proofs.TableLemmas.{or_front}
use Rattle.ua_conn.proofs.BothEnds.BaseLemmas.{untokened}
use Rattle.ua_conn.proofs.BothEnds.FrameListLemmas.{all_front, all_back, all_both}
use Rattle.ua_conn.proofs.BothEnds.OnTheWayLemmas.{Are, past_of, Sound, Accepts}
use Rattle.ua_conn.proofs.BothEnds.ServerWalkLemmas.{fault_is}
use Rattle.ua_conn.proofs.BothEnds.WayLemmas.{Passes}

-- ---- a token that is known

-- of the two newest the same is named as of all
named_two : (tokens : List Token) (id : ℕ) → is_known (two_newest tokens) id ≡ true → named (two_newest tokens) id ≡ named tokens id
named_two [] id h = refl
named_two (t ∷ []) id h = refl
named_two (t ∷ u ∷ tokens) id h = by (t.id == id) (u.id == id) h
  where
    by : (b c : Bool) → is_some (cond b (Some t) (cond c (Some u) None)) ≡ true → cond b (Some t) (cond c (Some u) None) ≡ cond b (Some t) (cond c (Some u) (find (λ (x : Token). x.id == id) tokens))
    by true c h = refl
    by false true h = refl
    by false false h = absurd (cc h)

-- it is usable, where it lives of all that were issued
usable_alive : (tokens : List Token) (id now : ℕ) → lives (named tokens id) now ≡ true → (is_known (two_newest tokens) id && lives (named (two_newest tokens) id) now) ≡ is_known (two_newest tokens) id
usable_alive tokens id now h = by (is_known (two_newest tokens) id) refl
  where
    by : (b : Bool) → is_known (two_newest tokens) id ≡ b → (b && lives (named (two_newest tokens) id) now) ≡ b
    by false e = refl
    by true e = ap (λ t. lives t now) (named_two tokens id e) ∙ h

-- ---- one frame

known_tokens : (site : Site) (past : Past) → (known site past).tokens ≡ two_newest (tokens_in past)
unfolding known
known_tokens site past = refl

pub client_tokens : (past : Past) → (client_known past).tokens ≡ two_newest (granted_in past)
unfolding client_known
client_tokens past = refl

pub sound_alive : (site : Site) (past : Past) (f : Frame) → Sound site past f → IsLive (tokens_in past) f → fault_at site (known site past) f ≡ None
sound_alive site past f h live = by (has_token (kind_of f.bytes)) refl
  where
    k : Known
    k = known site past

    id : ℕ
    id = (carried f).token

    by : (b : Bool) → has_token (kind_of f.bytes) ≡ b → fault_at site k f ≡ None
    by false e = fault_is site k f ∙ untokened site k f (names_usable k f) (is_known k.tokens id) e ∙ h
    by true e =
        let same : names_usable k f ≡ is_known k.tokens id =
        (λ i. is_known (known_tokens site past i) id && lives (named (known_tokens site past i) id) f.moment) ∙ usable_alive (tokens_in past) id f.moment (live e) ∙ (λ i. is_known (sym (known_tokens site past) i) id) in
        fault_is site k f ∙ ap (fault_by site k f) same ∙ h

client_untokened_rows : (a : Asker) (k : ClientKnown) (due : Option ℕ) (wanted : Option Request) (b c : Bool) (f : Frame) (flag : ℕ) (kind : Option Kind) → has_token kind ≡ false → client_rows a false k due wanted b f flag kind ≡ client_rows a false k due wanted c f flag kind
client_untokened_rows a k due wanted b c f flag None h = refl
client_untokened_rows a k due wanted b c f flag (Some kinds.Hello) h = refl
client_untokened_rows a k due wanted b c f flag (Some kinds.Acknowledge) h = refl
client_untokened_rows a k due wanted b c f flag (Some kinds.Error) h = refl
client_untokened_rows a k due wanted b c f flag (Some kinds.ReverseHello) h = refl
client_untokened_rows a k due wanted b c f flag (Some kinds.Open) h = refl
client_untokened_rows a k due wanted b c f flag (Some kinds.Message) h = absurd (cc h)
client_untokened_rows a k due wanted b c f flag (Some kinds.Close) h = absurd (cc h)

client_untokened : (a : Asker) (k : ClientKnown) (due : Option ℕ) (wanted : Option Request) (b c : Bool) (f : Frame) → has_token (kind_of f.bytes) ≡ false → client_fault_by a false k due wanted b f ≡ client_fault_by a false k due wanted c f
unfolding client_fault_by
client_untokened a k due wanted b c f h =
    ap (λ rows. or_else (option_map Broken (header_fault (greatest_answer k.ack) f.bytes)) (first_row rows)) (client_untokened_rows a k due wanted b c f (flag_of f.bytes) (kind_of f.bytes) h)

pub accepts_alive : (a : Asker) (cmds : Commands) (past : Past) (f : Frame) → a.reverse ≡ false → Accepts a cmds past f → IsLive (granted_in past) f → Passes a cmds past f
accepts_alive a cmds past f plain h live = ap (λ b. client_fault_by a (b && not (is_some (reverse_frame_in past))) k due wanted (token_usable k f) f) plain ∙ by (has_token (kind_of f.bytes)) refl
  where
    k : ClientKnown
    k = client_known past

    id : ℕ
    id = (carried f).token

    due : Option ℕ
    due = due_at cmds past (bytes_in (f ∷ past))

    wanted : Option Request
    wanted = wanted_at cmds past (bytes_in (f ∷ past)) (carried f).request_id

    by : (b : Bool) → has_token (kind_of f.bytes) ≡ b → client_fault_by a false k due wanted (token_usable k f) f ≡ None
    by false e = client_untokened a k due wanted (token_usable k f) (is_known k.tokens id) f e ∙ h
    by true e =
        let same : token_usable k f ≡ is_known k.tokens id =
        (λ i. is_known (client_tokens past i) id && lives (named (client_tokens past i) id) f.moment) ∙ usable_alive (granted_in past) id f.moment (live e) ∙ (λ i. is_known (sym (client_tokens past) i) id) in
        ap (λ b. client_fault_by a false k due wanted b f) same ∙ h

-- ---- the header of a frame in which no row holds

sound_header : (site : Site) (past : Past) (f : Frame) → Sound site past f → header_fault (greatest_frame (known site past).limits) f.bytes ≡ None
unfolding fault_by
sound_header site past f h = or_front (header_fault (greatest_frame (known site past).limits) f.bytes) _ h

accepts_header : (a : Asker) (cmds : Commands) (past : Past) (f : Frame) → Accepts a cmds past f → header_fault (greatest_answer (client_known past).ack) f.bytes ≡ None
unfolding client_fault_by
accepts_header a cmds past f h = unbroken (header_fault (greatest_answer (client_known past).ack) f.bytes) (or_front (option_map Broken (header_fault (greatest_answer (client_known past).ack) f.bytes)) _ h)

-- ---- a stream

-- what is left of the frames that were sent, by their bytes
pub rest_bytes : (u : List TimedByte) (ps : List Frame) (front back all : List (List ℕ)) → (p : IsPrefix (frames_of u) ps) → Are (frames_of u) front → front ++ back ≡ all → Are ps all → map (λ (f : Frame). f.bytes) p.0 ≡ back
rest_bytes u ps front back all p e w is =
    append_cancel_left front (map (λ (f : Frame). f.bytes) p.0) back
    (ap (λ l. l ++ map (λ (f : Frame). f.bytes) p.0) (sym e) ∙ sym (map-append (λ (f : Frame). f.bytes) (frames_of u) p.0) ∙ ap (map (λ (f : Frame). f.bytes)) p.1 ∙ is ∙ sym w)

next_sound : (site : Site) (past : Past) (qs : List Frame) → AllAfter (Sound site) past qs → NextPasses (greatest_frame (known site past).limits) (map (λ (f : Frame). f.bytes) qs)
next_sound site past [] h = tt
next_sound site past (q ∷ qs) h = sound_header site past q h.0

calm_rest : (o : Option ℕ) (rest : List ℕ) → o ≡ None → fault_of (ended o rest) ≡ None
calm_rest (Some n) rest e = absurd (cc e)
calm_rest None [] e = refl
calm_rest None (b ∷ rest) e = refl

reading_well : (site : Site) (past : Past) (fs : List Frame) (rest : List ℕ) → AllAfter (λ past f. fault_at site (known site past) f ≡ None) past fs → fault_in_rest (known site (newest_first fs past)) rest ≡ None → fault_of (reading site past fs rest).ending ≡ None
reading_well site past [] rest h e = calm_rest (fault_in_rest (known site past) rest) rest e
reading_well site past (f ∷ fs) rest h e = by (fault_at site (known site past) f) (is_close (kind_of f.bytes)) h.0 (reading_well site (f ∷ past) fs rest h.1 e)
  where
    by : (o : Option ℕ) (b : Bool) → o ≡ None → fault_of (reading site (f ∷ past) fs rest).ending ≡ None →
        (let R : Reading = elim o [ Some status ↦ record { past = past; ending = Refused status } | None ↦ cond b (record { past = f ∷ past; ending = Closed }) (reading site (f ∷ past) fs rest) ] in fault_of R.ending ≡ None)
    by (Some status) b e k = absurd (cc e)
    by None true e k = refl
    by None false e k = k

-- The server refuses nothing of a stream whose frames are the first of sound ones, where their tokens live.
pub server_well : (site : Site) (u : List TimedByte) (ps : List Frame) (front back all : List (List ℕ)) → IsPrefix (frames_of u) ps → Are (frames_of u) front → front ++ back ≡ all → Are ps all → IsPart (plain (rest_of u)) back
    → AllAfter (Sound site) [] ps → AllAfter (λ past f. IsLive (tokens_in past) f) [] (frames_of u) → AllAfter (λ past f. fault_at site (known site past) f ≡ None) [] (frames_of u) × (first_fault site u ≡ None)
unfolding fault_in_rest
server_well site u ps front back all p e w is part sound live =
    let fs = frames_of u in
    let both : AllAfter (Sound site) [] (fs ++ p.0) = subst (λ l. AllAfter (Sound site) [] l) (sym p.1) sound in
    let passes = all_both (Sound site) (λ past f. IsLive (tokens_in past) f) (λ past f. fault_at site (known site past) f ≡ None) [] fs (λ past f h k. sound_alive site past f h k) (all_front (Sound site) [] fs p.0 both) live in
    let limit = greatest_frame (known site (past_of fs)).limits in
    let next : NextPasses limit back = subst (NextPasses limit) (rest_bytes u ps front back all p e w is) (next_sound site (past_of fs) p.0 (all_back (Sound site) [] fs p.0 both)) in
    (passes, reading_well site [] fs (plain (rest_of u)) passes (rest_passes limit (plain (rest_of u)) back part next))

next_accepts : (a : Asker) (cmds : Commands) (past : Past) (qs : List Frame) → AllAfter (Accepts a cmds) past qs → NextPasses (greatest_answer (client_known past).ack) (map (λ (f : Frame). f.bytes) qs)
next_accepts a cmds past [] h = tt
next_accepts a cmds past (q ∷ qs) h = accepts_header a cmds past q h.0

client_reading_well : (a : Asker) (cmds : Commands) (past : Past) (fs : List Frame) (rest : List ℕ) → AllAfter (Passes a cmds) past fs → client_fault_in_rest (client_known (newest_first fs past)) rest ≡ None
    → client_reading a cmds past fs rest ≡ record { past = newest_first fs past; fault = None }
client_reading_well a cmds past [] rest h e = (λ i. record { past = past; fault = e i })
client_reading_well a cmds past (f ∷ fs) rest h e = by (client_fault_at a cmds past f) h.0 (client_reading_well a cmds (f ∷ past) fs rest h.1 e)
  where
    by : (o : Option ClientFault) → o ≡ None → client_reading a cmds (f ∷ past) fs rest ≡ record { past = newest_first (f ∷ fs) past; fault = None } →
        (let R : ClientReading = elim o [ Some fault ↦ record { past = past; fault = Some fault } | None ↦ client_reading a cmds (f ∷ past) fs rest ] in R ≡ record { past = newest_first (f ∷ fs) past; fault = None })
    by (Some fault) e k = absurd (cc e)
    by None e k = k

-- Nor does the client, of frames that it accepts; all of them stand.
pub client_well : (a : Asker) (cmds : Commands) (v : List TimedByte) (rs : List Frame) (front back all : List (List ℕ)) → a.reverse ≡ false → IsPrefix (frames_of v) rs → Are (frames_of v) front → front ++ back ≡ all → Are rs all → IsPart (plain (rest_of v)) back
    → AllAfter (Accepts a cmds) [] rs → AllAfter (λ past f. IsLive (granted_in past) f) [] (frames_of v) → client_reading_of a cmds v ≡ record { past = past_of (frames_of v); fault = None }
unfolding client_fault_in_rest
client_well a cmds v rs front back all own p e w is part taken live =
    let fs = frames_of v in
    let both : AllAfter (Accepts a cmds) [] (fs ++ p.0) = subst (λ l. AllAfter (Accepts a cmds) [] l) (sym p.1) taken in
    let passes = all_both (Accepts a cmds) (λ past f. IsLive (granted_in past) f) (Passes a cmds) [] fs (λ past f h k. accepts_alive a cmds past f own h k) (all_front (Accepts a cmds) [] fs p.0 both) live in
    let limit = greatest_answer (client_known (past_of fs)).ack in
    let next : NextPasses limit back = subst (NextPasses limit) (rest_bytes v rs front back all p e w is) (next_accepts a cmds (past_of fs) p.0 (all_back (Accepts a cmds) [] fs p.0 both)) in
    client_reading_well a cmds [] fs (plain (rest_of v)) passes (ap (option_map Broken) (rest_passes limit (plain (rest_of v)) back part next))
