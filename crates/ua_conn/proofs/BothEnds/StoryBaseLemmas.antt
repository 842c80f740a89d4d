-- What every world of a story keeps, whatever was refused: streams that are beginnings, ids that are left, moments of a clock.
use mathlib.Core.List.{IsPrefix}
use Rattle.std.proofs.Common.{◌≡◌, ℕ, ◌<◌, ◌^◌, false, List, [], ◌∷◌, ◌++◌, map, take, drop, length, Option, Some, None, refl, sym, ◌∙◌, subst, arith, lit<, ◌⊎◌, inl, inr}
use Rattle.std.specs.Prelude.{ℤ, pos, negsuc, ◌+ℤ◌}
use Rattle.ua_frame.specs.Streams.{TimedByte, at, moment_of, plain}
use Rattle.ua_frame.specs.Beginnings.{AreMoments, moments_are}
use Rattle.ua_conn.specs.Past.{Past}
use Rattle.ua_conn.specs.client.Commands.{Act, Ask, Renew, Close, Commands, is_closed}
use Rattle.ua_conn.specs.client.Reading.{client_reading_of, client_fault}
use Rattle.ua_conn.specs.client.Sending.{Sent, sent_by}
use Rattle.ua_conn.specs.client.Asking.{ask_fault}
use Rattle.ua_conn.specs.Story.{Setup, World, begun, client_stream, server_stream, delivered, ticked, told_by, came_by, happens}
use Rattle.ua_conn.specs.declared.schedule.Step.{Step}
use Rattle.ua_conn.specs.declared.schedule.Step.TheVariants as steps
use Rattle.ua_conn.specs.declared.client.ask_fault.AskFault.{AskFault}
use Rattle.ua_conn.specs.declared.client.fault.ClientFault.{ClientFault}
use Rattle.ua_conn.proofs.ClientEnd.AcceptedLemmas.{accepted_fine, accepted_open}
use Rattle.ua_conn.proofs.BothEnds.FaithfulLemmas.{Flow, flow, flow_kept, prefix_self, prefix_trans}
use Rattle.ua_conn.proofs.BothEnds.FirstStageLemmas.{IsAckTimely, ack_timely}
use Rattle.ua_conn.proofs.BothEnds.FrameListLemmas.{Timely, timely_front}
use Rattle.ua_conn.proofs.BothEnds.ScheduleLemmas.{Asks, asks_begun, asks_kept}
use Rattle.ua_conn.proofs.BothEnds.SpokenLemmas.{BeginsSpoken}
use Rattle.ua_conn.proofs.BothEnds.StoryLemmas.{AreCut, cut_kept, all_spoken, up_begins}
use Rattle.ua_conn.proofs.BothEnds.WayLemmas.{Standing, standing}
use Rattle.ua_conn.proofs.BothEnds.PlainForms.{IsPlain, plain_down}

-- ---- moments

pub record AreTimely (w : World) : Type 0 where
  pub clock : moment_of w.clock < 2 ^ 63
  pub up : AreMoments (λ m. m < 2 ^ 63) w.up
  pub down : AreMoments (λ m. m < 2 ^ 63) w.down

moments_join : (a b : List TimedByte) → AreMoments (λ m. m < 2 ^ 63) a → AreMoments (λ m. m < 2 ^ 63) b → AreMoments (λ m. m < 2 ^ 63) (a ++ b)
moments_join [] b h k = k
moments_join (x ∷ a) b h k = (h.0, moments_join a b h.1 k)

moments_at : (now : ℕ) (bytes : List ℕ) → now < 2 ^ 63 → AreMoments (λ m. m < 2 ^ 63) (map (at now) bytes)
moments_at now [] h = tt
moments_at now (b ∷ bytes) h = (h, moments_at now bytes h)

pub ticked_timely : (z : ℤ) → moment_of (ticked z) < 2 ^ 63
ticked_timely (pos n) = omega arith
ticked_timely (negsuc n) = lit< tt

told_timely : (w : World) (act : Act) (o : Option AskFault) → AreTimely w → AreTimely (told_by w act o)
told_timely w act (Some fault) h = h
told_timely w act None h = record { clock = h.clock; up = h.up; down = h.down }

came_timely : (w : World) (v : List TimedByte) (o : Option ClientFault) → AreTimely w → AreMoments (λ m. m < 2 ^ 63) v → AreTimely (came_by w v o)
came_timely w v (Some fault) h k = record { clock = h.clock; up = h.up; down = k }
came_timely w v None h k = record { clock = h.clock; up = h.up; down = k }

timely_kept : (s : Setup) (w : World) (e : Step) → AreTimely w → AreTimely (happens s w e)
timely_kept s w (steps.Ask request part) h = told_timely w (Ask request part) (ask_fault s.asker w.cmds w.down (Ask request part)) h
timely_kept s w steps.Renew h = told_timely w Renew (ask_fault s.asker w.cmds w.down Renew) h
timely_kept s w steps.Close h = told_timely w Close (ask_fault s.asker w.cmds w.down Close) h
timely_kept s w (steps.Tick n) h = record { clock = ticked_timely (w.clock +ℤ pos n); up = h.up; down = h.down }
timely_kept s w (steps.Up n) h =
    let bytes = take n (drop (length w.up) (client_stream s w)) in
    record { clock = h.clock; up = moments_join w.up (map (at (moment_of w.clock)) bytes) h.up (moments_at (moment_of w.clock) bytes h.clock); down = h.down }
timely_kept s w (steps.Down n) h =
    let bytes = take n (drop (length w.down) (server_stream s w)) in
    let v = delivered w.clock w.down n (server_stream s w) in
    came_timely w v (client_fault s.asker w.cmds v) h (moments_join w.down (map (at (moment_of w.clock)) bytes) h.down (moments_at (moment_of w.clock) bytes h.clock))

-- ---- what a client has that is settled, and its last command

-- none but the newest command closes
abbrev pub ClosesLast : Commands → Type 0
ClosesLast [] = Unit {0}
ClosesLast (c ∷ cmds) = is_closed cmds ≡ false

pub record Settles (s : Setup) (w : World) : Type 0 where
  pub settled : (w.settled ≡ w.down) ⊎ ((fault : ClientFault) × (client_fault s.asker w.cmds w.down ≡ Some fault))
  pub front : IsPrefix w.settled w.down
  pub last : ClosesLast w.cmds

settles_told : (s : Setup) (w : World) (act : Act) (o : Option AskFault) → ask_fault s.asker w.cmds w.down act ≡ o → Settles s w → Settles s (told_by w act o)
settles_told s w act (Some fault) e h = h
settles_told s w act None e h = record { settled = inl (by h.settled); front = h.front; last = accepted_open s.asker w.cmds w.down act e }
  where
    by : (w.settled ≡ w.down) ⊎ ((fault : ClientFault) × (client_fault s.asker w.cmds w.down ≡ Some fault)) → w.settled ≡ w.down
    by (inl same) = same
    by (inr fault) = absurd (let clash : None ≡ Some fault.0 = sym (accepted_fine s.asker w.cmds w.down act e) ∙ fault.1 in cc clash)

settles_came : (s : Setup) (w : World) (t : List TimedByte) (o : Option ClientFault) → client_fault s.asker w.cmds (w.down ++ t) ≡ o → Settles s w → Settles s (came_by w (w.down ++ t) o)
settles_came s w t (Some fault) e h = record { settled = inr (fault, e); front = prefix_trans w.settled w.down (w.down ++ t) h.front (t, refl); last = h.last }
settles_came s w t None e h = record { settled = inl refl; front = prefix_self (w.down ++ t); last = h.last }

settles_kept : (s : Setup) (w : World) (e : Step) → Settles s w → Settles s (happens s w e)
settles_kept s w (steps.Ask request part) h = settles_told s w (Ask request part) (ask_fault s.asker w.cmds w.down (Ask request part)) refl h
settles_kept s w steps.Renew h = settles_told s w Renew (ask_fault s.asker w.cmds w.down Renew) refl h
settles_kept s w steps.Close h = settles_told s w Close (ask_fault s.asker w.cmds w.down Close) refl h
settles_kept s w (steps.Tick n) h = record { settled = h.settled; front = h.front; last = h.last }
settles_kept s w (steps.Up n) h = record { settled = h.settled; front = h.front; last = h.last }
settles_kept s w (steps.Down n) h =
    settles_came s w (map (at (moment_of w.clock)) (take n (drop (length w.down) (server_stream s w)))) (client_fault s.asker w.cmds (delivered w.clock w.down n (server_stream s w))) refl h

-- ---- all of it

pub record Base (s : Setup) (w : World) : Type 0 where
  pub flow : Flow s w
  pub asks : Asks s w
  pub cut : AreCut w.cmds
  pub timely : AreTimely w
  pub settles : Settles s w

pub base_begun : (s : Setup) → IsPlain s → Base s (begun s)
base_begun s h = record {
  flow = flow s [];
  asks = asks_begun s;
  cut = tt;
  timely = record { clock = h.start; up = tt; down = tt };
  settles = record { settled = inl refl; front = prefix_self []; last = tt };
}

pub base_kept : (s : Setup) → IsPlain s → (w : World) (e : Step) → Base s w → Base s (happens s w e)
base_kept s h w e i = record {
  flow = flow_kept s w i.flow e;
  asks = asks_kept s w i.asks e;
  cut = cut_kept s w e h.asker.config.buffer_most i.cut;
  timely = timely_kept s w e i.timely;
  settles = settles_kept s w e i.settles;
}

-- ---- what follows

-- what stands at the client, and what it sends
abbrev pub here_of : Setup → World → Past
here_of s w = (client_reading_of s.asker w.cmds w.down).past

abbrev pub sends : Setup → World → List Sent
sends s w = sent_by s.asker w.cmds (here_of s w)

pub up_are : (s : Setup) → IsPlain s → (w : World) → Base s w → BeginsSpoken w.up (all_spoken s.asker.first_sequence 0 (sends s w))
up_are s h w i = up_begins s w i.flow.up h.plain (h.asker.url h.plain) i.cut

pub standing_of : (s : Setup) → IsPlain s → (w : World) → Base s w → Standing s w.cmds w.up w.down
standing_of s h w i = standing s w.cmds w.up w.down h (plain_down s h w (plain w.down) i.flow.down)

pub here_timely : (s : Setup) → IsPlain s → (w : World) → Base s w → IsAckTimely (here_of s w)
here_timely s h w i =
    let st = standing_of s h w i in
    let all : Timely (st.frames ++ st.first.0) = subst Timely (sym st.first.1) (moments_are (λ m. m < 2 ^ 63) w.down i.timely.down) in
    subst IsAckTimely (sym st.is) (ack_timely st.frames [] (timely_front st.frames st.first.0 all) (λ f e. absurd (cc e)))
