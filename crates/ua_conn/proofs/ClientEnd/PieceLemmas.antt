-- From the bytes of one more piece to all that happened to a client.
use Rattle.std.proofs.Common.{◌≡◌, ℕ, max, true, List, [], ◌∷◌, ◌++◌, map, Option, Some, None, refl, sym, ap, subst, ◌∙◌}
use Rattle.ua_frame.specs.Streams.{Piece, at, plain, rest_of}
use Rattle.ua_frame.specs.Layout.{Frame, frames_of}
use Rattle.ua_conn.specs.client.Asker.{Asker}
use Rattle.ua_conn.specs.client.Faults.{client_fault_by}
use Rattle.ua_conn.specs.client.Sending.{sent_after}
use Rattle.ua_conn.specs.client.Held.{Came, Log, ClientHeld, client_held, ClientGains}
use Rattle.ua_conn.specs.client.Machine.{Awaiting, ClientRun, awaiting_of, awaiting_fault, awaiting_after, frame_says, frame_answers, ahead_of, client_run, client_run_on, sent_next, next_sent, client_gain}
use Rattle.ua_conn.specs.client.Taking.{ClientRunning}
use Rattle.ua_conn.specs.client.Effects.{asker_with}
use Rattle.ua_conn.specs.client.Hearing.{Hears, SaysPart, Breaks, BreaksBy}
use Rattle.ua_conn.specs.client.Feeding.{answers_of, sent_of, ClientShown, Lived, SendsPart, Hands, Fails, FailsBy}
use Rattle.ua_conn.specs.declared.client.config.ClientConfig.{ClientConfig}
use Rattle.ua_conn.specs.declared.client.answer.Answer.{Answer}
use Rattle.ua_conn.specs.declared.client.fault.ClientFault.{ClientFault}
use Rattle.ua_conn.specs.declared.client.fault.ClientFault.TheVariants.{ServerSaid, Broken, NoMemory, Ended}
use Rattle.ua_conn.proofs.ClientEnd.GainLemmas.{sent_is_next, came_sent, came_gained}

-- ---- what frames do depends on the configuration of a client alone, and on what it waits for

same_run : (a : Asker) (w : Awaiting) (fs : List Frame) (rest : List ℕ) → client_run a w fs rest ≡ client_run (asker_with a.config) w fs rest
unfolding client_fault_by
same_run a w [] rest = refl
same_run a w (f ∷ fs) rest = by (awaiting_fault (asker_with a.config) w f) (same_run a (awaiting_after w f) fs rest)
  where
    by : (o : Option ClientFault) → client_run a (awaiting_after w f) fs rest ≡ client_run (asker_with a.config) (awaiting_after w f) fs rest →
        (let first : ClientRun = elim o [ Some fault ↦ record { says = []; answers = []; fault = Some fault; after = w } | None ↦ ahead_of (frame_says a w f) (frame_answers w f) (client_run a (awaiting_after w f) fs rest) ] in
        let second : ClientRun = elim o [ Some fault ↦ record { says = []; answers = []; fault = Some fault; after = w } | None ↦ ahead_of (frame_says (asker_with a.config) w f) (frame_answers w f) (client_run (asker_with a.config) (awaiting_after w f) fs rest) ] in
        first ≡ second)
    by (Some fault) h = refl
    by None h = ap (ahead_of (frame_says a w f) (frame_answers w f)) h

same_brought : (a : Asker) (config : ClientConfig) (w : Awaiting) (now : ℕ) (bytes : List ℕ) → a.config ≡ config → client_run_on a w now bytes ≡ client_run_on (asker_with config) w now bytes
same_brought a config w now bytes e =
    same_run a w (frames_of (map (at now) bytes)) (plain (rest_of (map (at now) bytes))) ∙ ap (λ config. client_run_on (asker_with config) w now bytes) e

-- ---- a piece

-- what runs where that is held
abbrev pub running : ClientConfig → ClientHeld → ℕ → ClientRunning
running config h moment = record { config = config; waits = awaiting_of h; next = h.next; moment = moment }

-- what one more piece brings
abbrev came : ClientShown → Piece → ClientRun
came old x = client_run_on (asker_with old.config) (awaiting_of old.held) (max old.held.moment x.moment) (old.held.rest ++ x.bytes)

abbrev held_then : ClientShown → Piece → ClientRun → ClientHeld
held_then old x r = record old.held {
  reverse = r.after.reverse;
  known = r.after.known;
  pending = r.after.pending;
  due = r.after.due;
  next = next_sent old.held.next r.says;
  moment = max old.held.moment x.moment;
  rest = plain (rest_of (map (at (max old.held.moment x.moment)) (old.held.rest ++ x.bytes)));
}

record Gained (a : Asker) (log : Log) (x : Piece) (old : ClientShown) (r : ClientRun) : Type 0 where
  gains : ClientGains a log (Came x) (record { bytes = sent_next old.held.next r.says; answers = r.answers; fault = r.fault; after = held_then old x r })

gained : (a : Asker) (log : Log) (x : Piece) (old : ClientShown) → Lived a log old → Gained a log x old (came old x)
unfolding client_gain
gained a log x old l =
    subst (λ (r : ClientRun). Gained a log x old r) (same_brought a old.config (awaiting_of old.held) (max old.held.moment x.moment) (old.held.rest ++ x.bytes) l.config)
    (record { gains = subst (λ k. ClientGains a log (Came x) (client_gain a k (Came x))) l.held_is (came_gained a log x l.first l.accepted l.fine) })

pub hands : (old shown : ClientShown) (x : Piece) (moment : ℕ) (new : ClientRunning) (given : List Answer) (left : List ℕ) →
    Hears (running old.config old.held moment) new (max old.held.moment x.moment) (old.held.rest ++ x.bytes) (record { bytes = old.output; answers = [] }) (record { bytes = shown.output; answers = given }) left →
    shown ≡ record {
      config = new.config;
      held = record old.held {
        reverse = new.waits.reverse;
        known = new.waits.known;
        pending = new.waits.pending;
        due = new.waits.due;
        next = new.next;
        moment = max old.held.moment x.moment;
        rest = left;
      };
      output = shown.output;
      failed = old.failed;
    } →
    (a : Asker) (log : Log) → Lived a log old → Hands a log x old shown given
hands old shown x moment new given left h s a log l =
    let g = (gained a log x old l).gains in record {
      fine = g.fault_is ∙ h.fine;
      answered = g.answered ∙ ap (λ ys. answers_of a log ++ ys) (sym h.given);
      sends = record { added = _; out_is = h.said; sent = g.sent };
      shows = s
          ∙ (λ i. record old {
            config = h.config i;
            held = record old.held { reverse = (h.waits i).reverse; known = (h.waits i).known; pending = (h.waits i).pending; due = (h.waits i).due; next = h.number i; moment = max old.held.moment x.moment; rest = h.rest i };
            output = shown.output;
          })
          ∙ (λ i. record old { held = sym (g.after_is h.fine) i; output = shown.output });
    }

fails : (old shown : ClientShown) (x : Piece) (moment : ℕ) (fault : ClientFault) →
    Breaks (running old.config old.held moment) (max old.held.moment x.moment) (old.held.rest ++ x.bytes) old.output shown.output fault → shown.failed ≡ true →
    (a : Asker) (log : Log) → Lived a log old → Fails a log x old shown fault
fails old shown x moment fault h f a log l =
    let g = (gained a log x old l).gains in
    record { fault_is = g.fault_is ∙ h.fault_is; sends = record { added = _; out_is = h.said; sent = g.sent }; failed = f }

-- the frames that one more piece asks for
more_sent : (a : Asker) (log : Log) (x : Piece) (old : ClientShown) → Lived a log old →
    (out : List ℕ) → SaysPart old.held.next (came old x).says old.output out → SendsPart a log (Came x) old.output out
unfolding client_held
more_sent a log x old l out p = record {
  gained = (came old x).says;
  sent = came_sent a log x l.accepted l.fine
      ∙ ap (λ (k : ClientHeld). sent_of a log ++ (client_run_on a (awaiting_of k) (max k.moment x.moment) (k.rest ++ x.bytes)).says) l.held_is
      ∙ ap (λ (r : ClientRun). sent_of a log ++ r.says) (same_brought a old.config (awaiting_of old.held) (max old.held.moment x.moment) (old.held.rest ++ x.bytes) l.config);
  said = p.said;
  left = p.left;
  begins = p.begins;
  out_is = p.added ∙ ap (λ n. old.output ++ sent_next n p.said) (sym (ap (λ (k : ClientHeld). k.next) l.held_is)) ∙ ap (λ b. old.output ++ b) (sym (sent_is_next a.first_sequence (sent_after 0 (sent_of a log)) p.said l.first));
}

-- where it fails, whatever the fault is
pub breaks : (old shown : ClientShown) (x : Piece) (moment : ℕ) (fault : ClientFault) →
    BreaksBy (running old.config old.held moment) (max old.held.moment x.moment) (old.held.rest ++ x.bytes) old.output shown.output fault → shown.failed ≡ true →
    (a : Asker) (log : Log) → Lived a log old → FailsBy a log x old shown fault
breaks old shown x moment (ServerSaid status reason) h f a log l = fails old shown x moment (ServerSaid status reason) h f a log l
breaks old shown x moment (Broken status) h f a log l = fails old shown x moment (Broken status) h f a log l
breaks old shown x moment NoMemory h f a log l = (more_sent a log x old l shown.output h, f)
breaks old shown x moment Ended h f a log l = absurd h
