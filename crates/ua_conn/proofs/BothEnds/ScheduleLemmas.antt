-- After every schedule: one open request is pending at most, and ids and tokens fit.
use Rattle.std.proofs.Common.{◌≡◌, ◌+◌, ◌^◌, ◌<◌, ◌≤◌, List, [], ◌∷◌, ◌++◌, map, take, drop, length, Option, Some, None, refl, sym, subst, arith}
use Rattle.ua_frame.specs.Streams.{TimedByte, at, moment_of, plain, rest_of}
use Rattle.ua_frame.specs.Layout.{frames_of}
use Rattle.ua_conn.specs.Past.{Past}
use Rattle.ua_conn.specs.client.Asker.{Asker}
use Rattle.ua_conn.specs.client.Commands.{Act, Ask, Renew, Close, Command, Commands, opens_asked}
use Rattle.ua_conn.specs.client.Past.{granted_in}
use Rattle.ua_conn.specs.client.Reading.{ClientReading, client_reading_of, client_fault}
use Rattle.ua_conn.specs.client.Asking.{ask_fault}
use Rattle.ua_conn.specs.Story.{Setup, World, begun, server_stream, delivered, told_by, came_by, happens}
use Rattle.ua_conn.specs.declared.schedule.Step.{Step}
use Rattle.ua_conn.specs.declared.schedule.Step.TheVariants as steps
use Rattle.ua_conn.specs.declared.client.ask_fault.AskFault.{AskFault}
use Rattle.ua_conn.specs.declared.client.fault.ClientFault.{ClientFault}
use Rattle.ua_conn.proofs.ClientEnd.PlaceLemmas.{frames_within}
use Rattle.ua_conn.proofs.ClientEnd.ReadingLemmas.{stands, reads_more, reads_same}
use Rattle.ua_conn.proofs.ClientEnd.RunLemmas.{AtMostOne, one_more}
use Rattle.ua_conn.proofs.ClientEnd.GainLemmas.{told_one}
use Rattle.ua_conn.proofs.ClientEnd.CountLemmas.{counted, window, ids_left, opens_few}

pub record Asks (s : Setup) (w : World) : Type 0 where
  pub one : AtMostOne w.cmds (client_reading_of s.asker w.cmds w.down).past
  pub ids : length w.cmds + 2 ≤ 2 ^ 32

one_came : (a : Asker) (cmds : Commands) (v t : List TimedByte) → AtMostOne cmds (client_reading_of a cmds v).past → AtMostOne cmds (client_reading_of a cmds (v ++ t)).past
one_came a cmds v t h =
    let r = reads_more a cmds v t in
    subst (λ (past : Past). AtMostOne cmds past) (sym r.behind) (one_more cmds r.more (client_reading_of a cmds v).past h)

asks_told : (s : Setup) (w : World) → Asks s w → (act : Act) (o : Option AskFault) → ask_fault s.asker w.cmds w.down act ≡ o → Asks s (told_by w act o)
asks_told s w i act (Some reason) e = i
asks_told s w i act None e =
    let c : Command = record { act = act; moment = moment_of w.clock; seen = length w.down } in
    record {
      one = subst (λ (R : ClientReading). AtMostOne (c ∷ w.cmds) R.past) (sym (reads_same s.asker c w.cmds w.down (frames_within w.down))) (told_one s.asker w.cmds w.down c e i.one);
      ids = omega (arith, ids_left s.asker w.cmds w.down act e);
    }

asks_down : (s : Setup) (w : World) → Asks s w → (t : List TimedByte) (o : Option ClientFault) → Asks s (came_by w (w.down ++ t) o)
asks_down s w i t (Some fault) = record { one = one_came s.asker w.cmds w.down t i.one; ids = i.ids }
asks_down s w i t None = record { one = one_came s.asker w.cmds w.down t i.one; ids = i.ids }

pub asks_kept : (s : Setup) (w : World) → Asks s w → (e : Step) → Asks s (happens s w e)
asks_kept s w i (steps.Ask request part) = asks_told s w i (Ask request part) (ask_fault s.asker w.cmds w.down (Ask request part)) refl
asks_kept s w i steps.Renew = asks_told s w i Renew (ask_fault s.asker w.cmds w.down Renew) refl
asks_kept s w i steps.Close = asks_told s w i Close (ask_fault s.asker w.cmds w.down Close) refl
asks_kept s w i (steps.Tick n) = record { one = i.one; ids = i.ids }
asks_kept s w i (steps.Up n) = record { one = i.one; ids = i.ids }
asks_kept s w i (steps.Down n) =
    asks_down s w i (map (at (moment_of w.clock)) (take n (drop (length w.down) (server_stream s w)))) (client_fault s.asker w.cmds (delivered w.clock w.down n (server_stream s w)))

pub asks_begun : (s : Setup) → Asks s (begun s)
asks_begun s =
    let h = stands s.asker [] [] (frames_of []) (plain (rest_of [])) in
    record { one = subst (λ (past : Past). AtMostOne [] past) (sym h.1) (one_more [] h.0 [] (record { one = omega arith })); ids = omega arith }

-- Tokens that came: all that were asked for but one, and no more; and their number fits.
pub record TokensFit (cmds : Commands) (past : Past) : Type 0 where
  pub least : length (opens_asked cmds) ≤ length (granted_in past) + 1
  pub most : length (granted_in past) ≤ length (opens_asked cmds)
  pub fits : length (granted_in past) < 2 ^ 32

pub tokens_of : (s : Setup) (w : World) → Asks s w → TokensFit w.cmds (client_reading_of s.asker w.cmds w.down).past
tokens_of s w i =
    let past = (client_reading_of s.asker w.cmds w.down).past in
    let k = counted s.asker w.cmds w.down in
    record {
      least = window w.cmds past i.one;
      most = omega (arith, k.few);
      fits = omega (arith, k.few, opens_few w.cmds, i.ids);
    }
