-- What a server that goes on holds of all pieces so far, and the law that nothing else of them counts.
use Rattle.std.specs.Prelude.{◌≡◌, ℕ, Bool, List, [], ◌∷◌, ◌++◌, Option, Some, None}
use Rattle.ua_frame.specs.Streams.{Piece, timed, latest, rest_of, plain}
use Rattle.ua_frame.specs.Layout.{Frame, frames_of}
use Rattle.ua_chunk.specs.Numbers.{number_after}
use Rattle.ua_service.specs.declared.request.Request.{Request}
use Rattle.ua_conn.specs.server.Site.{Site}
use Rattle.ua_conn.specs.Past.{Past, Known, known}
use Rattle.ua_conn.specs.server.Replies.{replies, numbered_after, end_of, reply_bytes, handed}
use Rattle.ua_conn.specs.declared.outcome.End.{End}
use Rattle.ua_conn.specs.declared.outcome.End.TheVariants.{Closed, Refused}

-- the frames, newest first, before those that came earlier
abbrev pub newest_first : List Frame → Past → Past
newest_first [] past = past
newest_first (f ∷ fs) past = newest_first fs (f ∷ past)

-- The rest has no moments: no beginning of it is a frame, so its frame ends with a byte that is still to come.
pub record Held : Type 0 where
  -- limits, two newest tokens, last number, half received message, greatest token used
  pub known : Known
  -- the number of the next OPN or MSG of the reply
  pub next : ℕ
  -- the greatest moment
  pub moment : ℕ
  pub rest : List ℕ

unfoldable pub held : Site → List Piece → Held
held site ps =
    let past = newest_first (frames_of (timed ps)) [] in
    record {
      known = known site past;
      next = number_after 1 (numbered_after 0 (replies site past));
      moment = latest ps;
      rest = plain (rest_of (timed ps));
    }

-- the end to which a server comes by itself, if any
abbrev pub stop : End → Option End
stop Closed = Some Closed
stop (Refused status) = Some (Refused status)
stop ending = None

-- neither fault nor CLO came
abbrev pub GoesOn : Site → List Piece → Type 0
GoesOn site ps = stop (end_of site (timed ps)) ≡ None

-- what one more piece brings: bytes to the reply, requests, an end, or what is held then
pub record Gain : Type 0 where
  pub bytes : List ℕ
  pub asked : List Request
  pub stopped : Option End
  pub after : Held

pub record Gains (site : Site) (ps : List Piece) (x : Piece) (g : Gain) : Type 0 where
  pub replied : (reverse : Bool) → reply_bytes reverse site (timed (ps ++ x ∷ [])) ≡ reply_bytes reverse site (timed ps) ++ g.bytes
  pub asked : handed site (timed (ps ++ x ∷ [])) ≡ handed site (timed ps) ++ g.asked
  pub stopped : stop (end_of site (timed (ps ++ x ∷ []))) ≡ g.stopped
  pub after : g.stopped ≡ None → held site (ps ++ x ∷ []) ≡ g.after

-- The gains depend on the record and the piece alone.
abbrev pub ByRecord : Type 0
ByRecord = (site : Site) (h : Held) (x : Piece) → (g : Gain) × ((ps : List Piece) → GoesOn site ps → held site ps ≡ h → Gains site ps x g)
