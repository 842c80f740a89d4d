-- Bytes come to the client, from what both ends show to what the world says then.
use Rattle.std.proofs.Common.{◌≡◌, ℕ, ℤ, ◌+◌, ◌<◌, ◌≤◌, max, min, true, false, List, [], ◌∷◌, ◌++◌, map, length, Option, Some, refl, sym, ap, subst, ◌∙◌, true≢false, arith}
use Rattle.std.proofs.lemmas.List.{append-nil, length-append}
use Rattle.ua_frame.specs.Streams.{Piece, TimedByte, at, moment_of}
use Rattle.ua_conn.specs.client.Asker.{Asker}
use Rattle.ua_conn.specs.client.Reading.{ClientReading, client_fault, matched, answers}
use Rattle.ua_conn.specs.client.Sending.{sent_by, sent_all, client_bytes}
use Rattle.ua_conn.specs.client.Held.{Log, Came, stream_of, latest_of, fault_in, client_held}
use Rattle.ua_conn.specs.client.Feeding.{ClientShown, HandsAll, FailsAll, FailsBy, Fails, SendsMore}
use Rattle.ua_conn.specs.Story.{Setup, World, delivered, came_by, came, server_stream}
use Rattle.ua_conn.specs.Between.{is_said, Heard, Answered, Refused, Left, Run, Living, ClientAt, Lives, Failed, Between}
use Rattle.ua_conn.specs.declared.client.fault.ClientFault.{ClientFault}
use Rattle.ua_conn.specs.declared.client.fault.ClientFault.TheVariants as faults
use Rattle.ua_conn.specs.declared.client.answer.Answer.{Answer}
use Rattle.ua_conn.proofs.ClientEnd.StopLemmas.{client_reading_stays}
use Rattle.ua_conn.proofs.BothEnds.BetweenServerLemmas.{next_of, next_length, delivered_length, next_piece, piece_is}

abbrev pub heard_run : Run → ClientShown → ℕ → List Answer → List ℕ → Option ClientFault → Run
heard_run r client down_to answers up fault = record r { client = client; down_to = down_to; answers = answers; up = up; client_fault = fault }

fails_of : (a : Asker) (log : Log) (x : Piece) (old new : ClientShown) (f : ClientFault) → is_said f ≡ true → FailsBy a log x old new f → Fails a log x old new f
fails_of a log x old new (faults.ServerSaid status reason) h k = k
fails_of a log x old new (faults.Broken status) h k = k
fails_of a log x old new faults.NoMemory h k = absurd (cc h)
fails_of a log x old new faults.Ended h k = absurd k

pub heard_between : (s : Setup) (w : World) (r : Run) (n down_to : ℕ) (client client' : ClientShown) (answers' : List Answer) (up' : List ℕ) (fault' : Option ClientFault) → Between s w r →
    down_to ≡ r.down_to + length (next_of r.down_to n r.down) →
    Heard r.client client (next_piece r.clock r.down_to n r.down) r.answers answers' r.client_fault fault' →
    client' ≡ record client { output = [] } → up' ≡ r.up ++ client.output →
    Between s (came s w (delivered w.clock w.down n (server_stream s w))) (heard_run r client' down_to answers' up' fault')
heard_between s w r n down_to client client' answers' up' fault' b more heard emptied sent = by heard
  where
    a : Asker
    a = s.asker

    now : ℕ
    now = moment_of w.clock

    y : Piece
    y = next_piece w.clock (length w.down) n (server_stream s w)

    same : next_piece r.clock r.down_to n r.down ≡ y
    same = λ i. next_piece (b.clock i) (b.down_to i) n (b.down_is i)

    down : List TimedByte
    down = delivered w.clock w.down n (server_stream s w)

    Goal : Type 0
    Goal = Between s (came s w down) (heard_run r client' down_to answers' up' fault')

    full : (settled : List TimedByte) → came s w down ≡ record w { down = down; settled = settled } → ClientAt a now w.cmds down settled client' fault' → answers' ≡ matched a w.cmds settled → up' ≡ client_bytes a w.cmds down → Goal
    full settled turns at_end are bytes = subst (λ (v : World). Between s v (heard_run r client' down_to answers' up' fault')) (sym turns)
        (record {
          clock = b.clock;
          client = at_end;
          server = b.server;
          asked_are = b.asked_are;
          handed_are = b.handed_are;
          answers_are = are;
          up_is = bytes;
          down_is = b.down_is;
          all_sent = ap (λ (k : ClientShown). k.output) emptied;
          up_to = b.up_to;
          up_within = omega (arith, b.up_within, ap length sent, length-append r.up client.output);
          down_to = more ∙ (λ i. b.down_to i + length (next_of (b.down_to i) n (b.down_is i))) ∙ sym (delivered_length w.clock w.down n (server_stream s w));
          down_within = omega (arith, more, next_length r.down_to n r.down b.down_within);
        })

    moment : (log : Log) → latest_of log ≤ now → max (latest_of log) now ≡ now
    moment log le = omega (arith, le)

    stream_is : (log : Log) → Living a now w.cmds w.down w.settled r.client log → stream_of (Came y ∷ log) ≡ down
    stream_is log l = λ i. l.stream i ++ map (at (moment log l.before i)) y.bytes

    fault_is : (log : Log) → Living a now w.cmds w.down w.settled r.client log → fault_in a (Came y ∷ log) ≡ client_fault a w.cmds down
    fault_is log l = λ i. client_fault a (l.commands i) (stream_is log l i)

    bytes_are : (log : Log) → Living a now w.cmds w.down w.settled r.client log → SendsMore a log (Came y) r.client.output client.output → up' ≡ client_bytes a w.cmds down
    bytes_are log l sends =
        let out : client.output ≡ sends.added = sends.out_is ∙ ap (λ k. k ++ sends.added) b.all_sent in
        sent ∙ (λ i. b.up_is i ++ out i) ∙ (λ i. client_bytes a (sym l.commands i) (sym l.stream i) ++ sends.added) ∙ sym sends.sent ∙ (λ i. client_bytes a (l.commands i) (stream_is log l i))

    when_answered : (given : List Answer) → r.client.failed ≡ false → HandsAll r.client y client given → answers' ≡ r.answers ++ given → fault' ≡ r.client_fault → ClientAt a now w.cmds w.down w.settled r.client r.client_fault → Goal
    when_answered given alive hands has kept (Failed f failed is shows) = absurd (true≢false (sym failed ∙ alive))
    when_answered given alive hands has kept (Lives log l none) =
        let h = hands a log l.lived in
        let later : Log = Came y ∷ log in
        let shown : client' ≡ record r.client { held = client_held a later; output = [] } = emptied ∙ ap (λ (k : ClientShown). record k { output = [] }) h.shows in
        full down (ap (came_by w down) (sym (fault_is log l) ∙ h.fine))
        (Lives later (record {
          lived = record {
            config = l.lived.config ∙ ap (λ (k : ClientShown). k.config) (sym shown);
            first = l.lived.first;
            accepted = l.lived.accepted;
            fine = h.fine;
            held_is = ap (λ (k : ClientShown). k.held) (sym shown);
          };
          alive = ap (λ (k : ClientShown). k.failed) shown ∙ l.alive;
          commands = l.commands;
          stream = stream_is log l;
          settled_is = refl;
          before = omega (arith, l.before);
        }) (kept ∙ none))
        (has ∙ ap (λ k. k ++ given) (b.answers_are ∙ (λ i. matched a (sym l.commands i) ((l.settled_is ∙ sym l.stream) i))) ∙ sym h.answered ∙ (λ i. matched a (l.commands i) (stream_is log l i)))
        (bytes_are log l h.sends)

    when_refused : (f : ClientFault) → r.client.failed ≡ false → is_said f ≡ true → FailsAll r.client y client f → answers' ≡ r.answers → fault' ≡ Some f → ClientAt a now w.cmds w.down w.settled r.client r.client_fault → Goal
    when_refused f alive said fails has shows (Failed g failed is before) = absurd (true≢false (sym failed ∙ alive))
    when_refused f alive said fails has shows (Lives log l none) =
        let h = fails_of a log y r.client client f said (fails a log l.lived) in
        let is : client_fault a w.cmds down ≡ Some f = sym (fault_is log l) ∙ h.fault_is in
        full w.settled (ap (came_by w down) is)
        (Failed f (ap (λ (k : ClientShown). k.failed) emptied ∙ h.failed) is shows)
        (has ∙ b.answers_are)
        (bytes_are log l h.sends)

    when_left : r.client.failed ≡ true → client ≡ r.client → answers' ≡ r.answers → fault' ≡ r.client_fault → ClientAt a now w.cmds w.down w.settled r.client r.client_fault → Goal
    when_left failed client_is has kept (Lives log l none) = absurd (true≢false (sym failed ∙ l.alive))
    when_left failed client_is has kept (Failed f down_failed is shows) =
        let stays = client_reading_stays a w.cmds w.down (map (at now) y.bytes) f is in
        let later : client_fault a w.cmds down ≡ Some f = ap (λ (R : ClientReading). R.fault) stays ∙ is in
        full w.settled (ap (came_by w down) later)
        (Failed f (ap (λ (k : ClientShown). k.failed) (emptied ∙ ap (λ (k : ClientShown). record k { output = [] }) client_is) ∙ failed) later (kept ∙ shows))
        (has ∙ b.answers_are)
        (sent ∙ (λ i. b.up_is i ++ (ap (λ (k : ClientShown). k.output) client_is ∙ b.all_sent) i) ∙ append-nil _ ∙ (λ i. sent_all a.first_sequence 0 (sent_by a w.cmds (sym stays i).past)))

    by : Heard r.client client (next_piece r.clock r.down_to n r.down) r.answers answers' r.client_fault fault' → Goal
    by (Answered given alive hands has kept) = when_answered given alive (subst (λ p. HandsAll r.client p client given) same hands) has kept b.client
    by (Refused f alive said fails has shows) = when_refused f alive said (subst (λ p. FailsAll r.client p client f) same fails) has shows b.client
    by (Left failed client_is has kept) = when_left failed client_is has kept b.client

pub heard_step : (r : Run) (n down_to : ℕ) (z : ℤ) (bytes piece : List ℕ) (client client' : ClientShown) (answers' : List Answer) (up' : List ℕ) (fault' : Option ClientFault) → z ≡ r.clock →
    bytes ≡ r.down → length bytes < 18446744073709551616 → piece ≡ next_of r.down_to n bytes → down_to ≡ min (r.down_to + length piece) 18446744073709551615 →
    Heard r.client client (record { moment = moment_of z; bytes = piece }) r.answers answers' r.client_fault fault' →
    client' ≡ record client { output = [] } → up' ≡ r.up ++ client.output →
    (s : Setup) (w : World) → Between s w r → Between s (came s w (delivered w.clock w.down n (server_stream s w))) (heard_run r client' down_to answers' up' fault')
heard_step r n down_to z bytes piece client client' answers' up' fault' same all small is more heard emptied sent s w b =
    let cut = piece_is r.down_to n down_to r.clock z r.down bytes piece b.down_within same all small is more in
    heard_between s w r n down_to client client' answers' up' fault' b cut.1 (subst (λ (p : Piece). Heard r.client client p r.answers answers' r.client_fault fault') cut.0 heard) emptied sent
