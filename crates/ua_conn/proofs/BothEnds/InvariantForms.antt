-- What is on the way in a story: all that was sent and all replies to it, at whatever moments, and what both ends make of it.
use mathlib.Core.List.{IsPrefix}
use Rattle.std.proofs.Common.{◌≡◌, ℕ, List, [], length}
use Rattle.ua_frame.specs.Streams.{TimedByte}
use Rattle.ua_frame.specs.Layout.{Frame, frames_of}
use Rattle.ua_conn.specs.server.Replies.{replies, numbered_after}
use Rattle.ua_conn.specs.client.Commands.{Commands, asked_in, opens_asked, next_id}
use Rattle.ua_conn.specs.client.Reading.{answers}
use Rattle.ua_conn.specs.client.Sending.{Sent, sent_after}
use Rattle.ua_conn.specs.Story.{Setup}
use Rattle.ua_conn.specs.BothEnds.{AllAfter, served_by, AnswersInOrder}
use Rattle.ua_conn.proofs.ClientEnd.FreshLemmas.{AreFresh}
use Rattle.ua_conn.proofs.BothEnds.FrameListLemmas.{Timely}
use Rattle.ua_conn.proofs.BothEnds.OnTheWayLemmas.{frames_sent, frames_replied, Are, past_of, Sound, Accepts}
use Rattle.ua_conn.proofs.BothEnds.HoldLemmas.{Keeps}

-- All that was sent, of which the stream u has the first frames, at moments of a clock; and all replies to it.
pub record Comes (s : Setup) (xs : List Sent) (u : List TimedByte) (ps rs : List Frame) : Type 0 where
  pub front : IsPrefix (frames_of u) ps
  pub sent : Are ps (frames_sent s.asker.first_sequence 0 xs)
  pub clock : Timely ps
  pub replied : Are rs (frames_replied s.site 0 (replies s.site (past_of ps)))

-- What the law needs of it: both ends accept all but for the age of tokens, and each request is answered.
pub record Bears (s : Setup) (cmds : Commands) (ps rs : List Frame) : Type 0 where
  pub sound : AllAfter (Sound s.site) [] ps
  pub taken : AllAfter (Accepts s.asker cmds) [] rs
  pub fresh : AreFresh (next_id cmds) (past_of rs)
  pub order : AnswersInOrder s (asked_in cmds) (served_by s.site (past_of ps)) (answers cmds (past_of rs))
  pub many_served : length (served_by s.site (past_of ps)) ≡ length (asked_in cmds)
  pub many_answers : length (answers cmds (past_of rs)) ≡ length (asked_in cmds)

abbrev pub BearsAll : Setup → Commands → List Sent → List TimedByte → Type 0
BearsAll s cmds xs u = (ps rs : List Frame) → Comes s xs u ps rs → Bears s cmds ps rs

-- Whatever the moments at which what is not delivered yet will come; o tokens came to the client.
abbrev pub Core : Setup → Commands → ℕ → List Sent → List TimedByte → Type 0
Core s cmds o xs u = (ps rs : List Frame) → Comes s xs u ps rs →
    Keeps s cmds o (length (opens_asked cmds)) (sent_after 0 xs) (numbered_after 0 (replies s.site (past_of ps))) [] [] ps rs

pub bears_of : (s : Setup) (cmds : Commands) (o : ℕ) (xs : List Sent) (u : List TimedByte) → Core s cmds o xs u → BearsAll s cmds xs u
bears_of s cmds o xs u core ps rs c =
    let k = core ps rs c in
    record {
      sound = k.sound;
      taken = k.taken;
      fresh = k.holds.fresh;
      order = k.holds.answers_are;
      many_served = k.holds.many_served;
      many_answers = k.holds.many_answers;
    }
