-- What a client makes of a frame that a server sent: which rows hold.
use Rattle.std.proofs.Common.{◌≡◌, ℕ, ◌+◌, ◌<◌, ◌≤◌, ◌^◌, Bool, true, false, cond, not, ◌&&◌, List, [], ◌∷◌, ◌++◌, length, Option, Some, None, is_none, refl, ap, ◌∙◌, arith, lit≤}
use Rattle.std.specs.Prelude.{◌==◌, nat_le, option_map}
use Rattle.std.proofs.lemmas.Bool.{eq-eqb, le-leb}
use Rattle.ua_frame.specs.Layout.{Frame, fields_of}
use Rattle.ua_frame.specs.HeaderRows.{flag_fits, header_fault}
use Rattle.ua_frame.specs.Hello.{acknowledge_layout, is_acceptable}
use Rattle.ua_frame.specs.declared.kind.Kind.TheVariants as kinds
use Rattle.ua_frame.specs.declared.acknowledge.Ack.{Ack}
use Rattle.ua_chunk.specs.Layout.{Chunk, chunk_of, policy_none}
use Rattle.ua_chunk.specs.Cut.{Part}
use Rattle.ua_chunk.specs.Half.{Half, body_of, half_after}
use Rattle.ua_chunk.specs.HalfLaws.{NoPartRow}
use Rattle.ua_chunk.specs.FrameLaws.{abort_read}
use Rattle.ua_channel.specs.Token.{two_newest}
use Rattle.ua_channel.specs.declared.token.Token.{Token}
use Rattle.ua_channel.specs.Admission.{follows_last, is_text, admit_rows_by}
use Rattle.ua_frame.specs.Rows.{Row, first_row, or_else}
use Rattle.ua_channel.specs.ClientChannel.{names_other}
use Rattle.ua_service.specs.declared.channel.OpenResponse.{OpenResponse}
use Rattle.ua_service.specs.declared.request.Request.{Request}
use Rattle.ua_service.specs.declared.response.Response.{Response}
use Rattle.ua_service.specs.ChannelMessages.{open_response_of}
use Rattle.ua_service.specs.Responses.{response_of}
use Rattle.ua_conn.specs.Past.{or_empty, open_in, carried, is_open, is_message, has_number, sequence_of}
use Rattle.ua_conn.specs.client.Machine.{client_known_after}
use Rattle.ua_conn.specs.client.Asker.{Asker, hello_by}
use Rattle.ua_conn.specs.client.Reading.{result_by, answer_with, answer_at}
use Rattle.ua_conn.specs.server.Replies.{aborted}
use Rattle.ua_conn.specs.declared.client.answer.AnswerResult.TheVariants.{Response as Responds, Aborted}
use Rattle.ua_conn.specs.client.Past.{ClientKnown, client_channel, acknowledge_in, response_in, granted_by, channel_named}
use Rattle.ua_conn.specs.client.Faults.{broken, greatest_answer, is_awaited, acknowledge_rows, opened_rows, response_rows, whole_rows, whole_response, fits, answer_rows, client_rows, client_fault_by}
use Rattle.ua_conn.specs.declared.client.fault.ClientFault.TheVariants.{ServerSaid, Broken}
use Rattle.ua_conn.proofs.BothEnds.SpokenLemmas.{Spoken, Acknowledges, Opens, Tells, spell, parts_of, IsSized, IsFlagged, IsProper, size_by, spell_passes, IsRead, is_read}
use Rattle.ua_conn.proofs.BothEnds.SpokenEffectLemmas.{opening_of, chunk_by}
use Rattle.ua_conn.proofs.BothEnds.SpokenRequestLemmas.{some_tokens}
use Rattle.ua_conn.proofs.BothEnds.SpokenTurnLemmas.{text_same}

-- The whole table of a client, at a frame that is no greater than what it takes: the rows of the value's type and flag.
pub heard_fault : (a : Asker) (k : ClientKnown) (due : Option ℕ) (wanted : Option Request) (usable : Bool) (f : Frame) (x : Spoken) → f.bytes ≡ spell x → IsSized x → IsFlagged x → IsProper x → size_by x ≤ greatest_answer k.ack
    → client_fault_by a false k due wanted usable f ≡ first_row (client_rows a false k due wanted usable f (parts_of x).flag (Some (parts_of x).kind))
unfolding client_fault_by
heard_fault a k due wanted usable f x e short flag is within =
    let head : header_fault (greatest_answer k.ack) f.bytes ≡ None = ap (header_fault (greatest_answer k.ack)) e ∙ spell_passes (greatest_answer k.ack) x short flag within in
    let read = is_read f x e short is in
    λ i. or_else (option_map Broken (head i)) (first_row (client_rows a false k due wanted usable f (read.flag i) (read.kind i)))

-- ---- an ACK

abbrev pub unacknowledged : ClientKnown
unacknowledged = record { ack = None; channel = 0; tokens = []; last = None; half = None }

sizes_fit : (a : Asker) (ack : Ack) → 8192 ≤ ack.receive → ack.receive ≤ a.config.buffer → 8192 ≤ ack.send → ack.send ≤ a.config.buffer → is_acceptable (hello_by a) ack ≡ true
sizes_fit a ack p q r s =
    let one = le-leb 8192 ack.receive p in
    let two = le-leb ack.receive a.config.buffer q in
    let three = le-leb 8192 ack.send r in
    let four = le-leb ack.send a.config.buffer s in
    λ i. (one i && two i) && (three i && four i)

pub acknowledge_heard : (a : Asker) (due : Option ℕ) (wanted : Option Request) (usable : Bool) (ack : Ack) (f : Frame) → f.bytes ≡ spell (Acknowledges ack) → acknowledge_layout.IsValue ack
    → 8192 ≤ ack.receive → ack.receive ≤ a.config.buffer → 8192 ≤ ack.send → ack.send ≤ a.config.buffer → client_fault_by a false unacknowledged due wanted usable f ≡ None
acknowledge_heard a due wanted usable ack f e is p q r s =
    let x = Acknowledges ack in
    let read : acknowledge_in f ≡ Some ack = (is_read f x e tt is).says in
    let fine = sizes_fit a ack p q r s in
    heard_fault a unacknowledged due wanted usable f x e tt refl is (lit≤ tt)
    ∙ ap (λ o. first_row (broken (acknowledge_rows a o))) read
    ∙ (λ i. cond (not (fine i)) (Some (Broken 0x80810000)) None)

-- ---- an OPN

abbrev pub hears : Ack → ℕ → List Token → Option ℕ → Option Half → ClientKnown
hears ack channel tokens last half = record { ack = Some ack; channel = channel; tokens = tokens; last = last; half = half }

either : (b : Bool) → cond b true true ≡ true
either true = refl
either false = refl

-- The open response that is due, for the channel.
pub opened_heard : (a : Asker) (ack : Ack) (known channel : ℕ) (tokens : List Token) (last : Option ℕ) (wanted : Option Request) (usable : Bool) (number id : ℕ) (body : List ℕ) (r : OpenResponse) (f : Frame)
    → f.bytes ≡ spell (Opens channel number id body) → length body ≤ 8113 → 8192 ≤ ack.send → channel < 2 ^ 32 → number < 2 ^ 32 → id < 2 ^ 32
    → names_other (client_channel (hears ack known tokens last None)) channel ≡ false → follows_last last number ≡ true
    → open_response_of body ≡ Some r → nat_le 0x80000000 r.header.service_result.0 ≡ false → r.channel_id ≡ channel
    → client_fault_by a false (hears ack known tokens last None) (Some id) wanted usable f ≡ None
opened_heard a ack known channel tokens last wanted usable number id body r f e short room c n i own follow is good same =
    let k = hears ack known tokens last None in
    let x = Opens channel number id body in
    let sized : 79 + length body < 2 ^ 32 = omega (arith, short) in
    let read : open_in f ≡ Some (opening_of channel number id body) = (is_read f x e sized (c, n, i)).says in
    let awaited : is_awaited false k (Some id) (Some kinds.Open) ≡ true = either (length tokens == 0) in
    let text = text_same policy_none in
    let asked : (id == id) ≡ true = eq-eqb id id refl in
    let named : (r.channel_id == channel) ≡ true = eq-eqb r.channel_id channel same in
    heard_fault a k (Some id) wanted usable f x e sized refl (c, n, i) (omega (arith, short, room))
    ∙ ap (λ o. cond (not (is_awaited false k (Some id) (Some kinds.Open))) (Some (Broken 0x807E0000)) (first_row (opened_rows k (Some id) o))) read
    ∙ ap (λ o. cond (not (is_awaited false k (Some id) (Some kinds.Open))) (Some (Broken 0x807E0000)) (cond (names_other (client_channel k) channel) (Some (Broken 0x807F0000))
    (cond (not (is_text policy_none (Some policy_none))) (Some (Broken 0x80550000)) (cond (not (follows_last last number)) (Some (Broken 0x80880000)) (cond (not (id == id)) (Some (Broken 0x80090000)) (first_row (response_rows channel o))))))) is
    ∙ (λ j. cond (not (awaited j)) (Some (Broken 0x807E0000)) (cond (own j) (Some (Broken 0x807F0000)) (cond (not (text j)) (Some (Broken 0x80550000)) (cond (not (follow j)) (Some (Broken 0x80880000))
    (cond (not (asked j)) (Some (Broken 0x80090000)) (cond (good j) (Some (ServerSaid r.header.service_result.0 None)) (cond (not (named j)) (Some (Broken 0x807F0000)) None)))))))

-- ---- a MSG

-- the rows of a whole message, behind those of its last part
abbrev pub last_rows : Option Request → ℕ → Option Response → List Row
last_rows wanted flag response = cond (flag == 70) (whole_rows wanted response) []

broken_none : (rows more : List Row) → first_row (broken rows) ≡ None → first_row (broken more) ≡ None → first_row (broken (rows ++ more)) ≡ None
broken_none [] more h k = k
broken_none ((true, status) ∷ rows) more h k = absurd cc
broken_none ((false, status) ∷ rows) more h k = broken_none rows more h k

answers_none : (a : Asker) (k : ClientKnown) (request : Request) (flag : ℕ) (c : Chunk) → NoPartRow a.config.max_message a.config.max_chunks k.half flag c.request_id c.body → first_row (broken (last_rows (Some request) flag (whole_response k c))) ≡ None
    → first_row (broken (answer_rows a k (Some request) flag c)) ≡ None
answers_none a k request flag c h last =
    λ i. cond (h.id i) (Some (Broken 0x807E0000)) (cond (h.size i) (Some (Broken 0x80800000)) (cond (h.abort i) (Some (Broken 0x80070000)) (last i)))

-- A part of the answer to a request that is pending.
pub part_heard : (a : Asker) (ack : Ack) (channel : ℕ) (tokens : List Token) (last : Option ℕ) (half : Option Half) (due : Option ℕ) (request : Request) (token number : ℕ) (p : Part) (f : Frame)
    → f.bytes ≡ spell (Tells channel token number p) → flag_fits kinds.Message p.flag ≡ true → 24 + length p.bytes ≤ ack.send → ack.send < 2 ^ 32
    → channel < 2 ^ 32 → token < 2 ^ 32 → number < 2 ^ 32 → p.id < 2 ^ 32 → 0 < length tokens → follows_last last number ≡ true
    → NoPartRow a.config.max_message a.config.max_chunks half p.flag p.id p.bytes
    → first_row (broken (last_rows (Some request) p.flag (response_of (body_of half ++ p.bytes)))) ≡ None
    → client_fault_by a false (hears ack channel tokens last half) due (Some request) true f ≡ None
part_heard a ack channel tokens last half due request token number p f e flag within fits ch t n i some follow rows whole =
    let k = hears ack channel tokens last half in
    let x = Tells channel token number p in
    let c = chunk_by channel token number p.id p.bytes in
    let sized : 24 + length p.bytes < 2 ^ 32 = omega (arith, within, fits) in
    let read : chunk_of (fields_of f.bytes) ≡ Some c = (is_read f x e sized (ch, t, n, i)).says in
    let awaited : is_awaited false k due (Some kinds.Message) ≡ true = ap (λ b. cond b false true) (some_tokens tokens some) in
    let own : (channel == channel) ≡ true = eq-eqb channel channel refl in
    let admits : first_row (broken ((is_none (Some c), 0x80070000) ∷ admit_rows_by (client_channel k) c true)) ≡ None =
    λ j. cond (not (own j)) (Some (Broken 0x807F0000)) (cond (not (follow j)) (Some (Broken 0x80880000)) None) in
    heard_fault a k due (Some request) true f x e sized flag (ch, t, n, i) within
    ∙ ap (λ o. cond (not (is_awaited false k due (Some kinds.Message))) (Some (Broken 0x807E0000)) (first_row (broken (((is_none o, 0x80070000) ∷ admit_rows_by (client_channel k) (or_empty o) true) ++ answer_rows a k (Some request) p.flag (or_empty o))))) read
    ∙ ap (λ b. cond (not b) (Some (Broken 0x807E0000)) (first_row (broken (((is_none (Some c), 0x80070000) ∷ admit_rows_by (client_channel k) c true) ++ answer_rows a k (Some request) p.flag c)))) awaited
    ∙ broken_none ((is_none (Some c), 0x80070000) ∷ admit_rows_by (client_channel k) c true) (answer_rows a k (Some request) p.flag c) admits (answers_none a k request p.flag c rows whole)

-- before the last part nothing more is read,
pub more_heard : (request : Request) (flag : ℕ) (o : Option Response) → (flag == 70) ≡ false → first_row (broken (last_rows (Some request) flag o)) ≡ None
more_heard request flag o h = ap (λ b. first_row (broken (cond b (whole_rows (Some request) o) []))) h

-- and with it the response, of a kind that fits the request.
pub whole_heard : (request : Request) (flag : ℕ) (o : Option Response) (r : Response) → o ≡ Some r → fits request r ≡ true → first_row (broken (last_rows (Some request) flag o)) ≡ None
whole_heard request flag o r e h = by (flag == 70)
  where
    by : (b : Bool) → first_row (broken (cond b (whole_rows (Some request) o) [])) ≡ None
    by true = ap (λ q. first_row (broken (whole_rows (Some request) q))) e ∙ (λ i. cond (not (h i)) (Some (Broken 0x80090000)) None)
    by false = refl

-- ---- all parts of an answer

-- what is known behind one part
pub known_heard : (ack : Ack) (channel : ℕ) (tokens : List Token) (last : Option ℕ) (half next : Option Half) (token number : ℕ) (p : Part) (f : Frame) → IsRead f (Tells channel token number p) → half_after half p.flag p.id p.bytes ≡ next
    → client_known_after (hears ack channel tokens last half) f ≡ hears ack channel tokens (Some number) next
unfolding client_known_after
known_heard ack channel tokens last half next token number p f h put =
    let car : carried f ≡ chunk_by channel token number p.id p.bytes = ap or_empty h.says in
    (λ i. record {
      ack = Some ack;
      channel = cond (is_open (h.kind i)) (channel_named (open_in f)) channel;
      tokens = cond (is_open (h.kind i)) (two_newest (granted_by (response_in f) f.moment ∷ tokens)) tokens;
      last = cond (has_number (h.kind i)) (Some (cond (is_open (h.kind i)) (sequence_of (open_in f)) (carried f).sequence)) last;
      half = cond (is_message (h.kind i)) (half_after half (h.flag i) (carried f).request_id (carried f).body) half;
    })
    ∙ (λ i. hears ack channel tokens (Some (car i).sequence) (half_after half p.flag (car i).request_id (car i).body))
    ∙ ap (hears ack channel tokens (Some number)) put

-- what does not change from part to part
pub record IsAnswering (ack : Ack) (channel : ℕ) (known : List Token) (named request : ℕ) : Type 0 where
  pub channel_fits : channel < 2 ^ 32
  pub token : named < 2 ^ 32
  pub id : request < 2 ^ 32
  pub tokens : 0 < length known
  pub send : ack.send < 2 ^ 32

-- ---- what is given to the caller

given_by : (k : ClientKnown) (wanted : Option Request) (f : Frame) (channel token number : ℕ) (p : Part) → IsRead f (Tells channel token number p)
    → answer_at k wanted f ≡ answer_with p.id wanted (result_by k p.flag (chunk_by channel token number p.id p.bytes))
unfolding answer_at
given_by k wanted f channel token number p h =
    let car : carried f ≡ chunk_by channel token number p.id p.bytes = ap or_empty h.says in
    λ i. cond (is_message (h.kind i)) (answer_with (car i).request_id wanted (result_by k (h.flag i) (car i))) []

-- With the last part, the response of the joined bodies,
pub answer_given : (k : ClientKnown) (f : Frame) (channel token number : ℕ) (p : Part) (request : Request) (r : Response) → IsRead f (Tells channel token number p) → p.flag ≡ 70 → response_of (body_of k.half ++ p.bytes) ≡ Some r
    → answer_at k (Some request) f ≡ record { id = p.id; request = request; result = Responds r } ∷ []
answer_given k f channel token number p request r h last is =
    let c = chunk_by channel token number p.id p.bytes in
    given_by k (Some request) f channel token number p h
    ∙ ap (λ n. answer_with p.id (Some request) (result_by k n c)) last
    ∙ (λ i. answer_with p.id (Some request) (option_map Responds (is i)))

-- with an abort its status,
pub abort_given : (k : ClientKnown) (f : Frame) (channel token number id status : ℕ) (request : Request) → IsRead f (Tells channel token number (aborted id status)) → status < 2 ^ 32
    → answer_at k (Some request) f ≡ record { id = id; request = request; result = Aborted status } ∷ []
abort_given k f channel token number id status request h lt =
    given_by k (Some request) f channel token number (aborted id status) h ∙ (λ i. answer_with id (Some request) (option_map Aborted (abort_read status lt i)))

-- and nothing before.
pub none_given : (k : ClientKnown) (wanted : Option Request) (f : Frame) (channel token number : ℕ) (p : Part) → IsRead f (Tells channel token number p) → p.flag ≡ 67 → answer_at k wanted f ≡ []
none_given k wanted f channel token number p h more =
    given_by k wanted f channel token number p h
    ∙ ap (λ n. answer_with p.id wanted (result_by k n (chunk_by channel token number p.id p.bytes))) more
    ∙ nothing wanted
  where
    nothing : (o : Option Request) → answer_with p.id o None ≡ []
    nothing None = refl
    nothing (Some q) = refl
