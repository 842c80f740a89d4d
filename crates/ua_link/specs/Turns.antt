-- One turn of a server over a link: a read, what the server makes of it, and what is sent.
use Rattle.std.specs.Prelude.{Bool, ◌≡◌, ℕ, ◌+◌, ◌≤◌, ℤ, true, false, List, [], ◌∷◌, ◌++◌, take, length, Option, Some, None, ◌⊎◌}
use Rattle.std.specs.Io.KnownBytes.{Appends, Consumes, Keeps, IsAtEnd}
use Rattle.ua_frame.specs.Streams.{Piece, timed}
use Rattle.ua_conn.specs.server.Site.{Site}
use Rattle.ua_conn.specs.server.Replies.{reply_bytes, handed, end_of}
use Rattle.ua_conn.specs.server.Held.{held, stop, GoesOn}
use Rattle.ua_conn.specs.server.Feeding.{Shown}
use Rattle.ua_conn.specs.declared.outcome.End.{End}
use Rattle.ua_conn.specs.declared.outcome.End.TheVariants.{LinkFailed, NoMemory}
use Rattle.ua_link.specs.Reads.{piece_at}
use Rattle.ua_link.specs.declared.turn.Turn.{Turn}

-- what contracts see of a link
pub record Seen : Type 0 where
  pub input : Option (List ℕ)
  pub output : Option (List ℕ)
  pub faults : ℕ

-- the pieces so far, and the bytes that came then
abbrev pub more : List Piece → ℤ → List ℕ → List Piece
more ps now bytes = ps ++ piece_at now bytes ∷ []

-- The end that a read brings, if any: that to which the server comes by itself, and in any case one where no byte came,
-- since the input has then ended.
abbrev pub ending_at : List ℕ → End → Option End
ending_at [] ending = Some ending
ending_at (b ∷ bytes) ending = stop ending

-- the same, of a server that came to an end by itself or not, where `ending` is that of the input
abbrev pub ended_with : Option End → List ℕ → End → Option End
ended_with (Some came) bytes ending = Some came
ended_with None [] ending = Some ending
ended_with None (b ∷ bytes) ending = None

-- All that the server said is out.
pub record SentWhole (said : List ℕ) (came : Option End) (before after : Seen) (turn : Turn) : Type 0 where
  pub written : turn.written ≡ length said
  pub ending : turn.end ≡ came
  pub counted : after.faults ≡ before.faults

-- The link failed before.
pub record SentPart (said : List ℕ) (before after : Seen) (turn : Turn) : Type 0 where
  pub written : turn.written ≤ length said
  pub ending : turn.end ≡ Some LinkFailed
  pub counted : after.faults ≡ before.faults + 1

-- The server heard the bytes, behind the pieces ps: what it says to them is sent, as far as the link goes.
pub record Heard (site : Site) (ps : List Piece) (now : ℤ) (bytes : List ℕ) (new : Shown) (before after : Seen) (turn : Turn) : Type 0 where
  pub said : List ℕ
  pub replied : (reverse : Bool) → reply_bytes reverse site (timed (more ps now bytes)) ≡ reply_bytes reverse site (timed ps) ++ said
  pub hands : handed site (timed (more ps now bytes)) ≡ handed site (timed ps) ++ turn.requests.items
  pub shows : GoesOn site (more ps now bytes) → new ≡ record { site = site; held = held site (more ps now bytes); failed = false }
  pub sent : Appends before.output after.output (take turn.written said)
  pub outcome : SentWhole said (ending_at bytes (end_of site (timed (more ps now bytes)))) before after turn ⊎ SentPart said before after turn

-- A growth was refused: nothing is sent, and the server has failed.
pub record Unheard (new : Shown) (before after : Seen) (turn : Turn) : Type 0 where
  pub ending : turn.end ≡ Some NoMemory
  pub written : turn.written ≡ 0
  pub hands : turn.requests.items ≡ []
  pub output : after.output ≡ before.output
  pub counted : after.faults ≡ before.faults
  pub failed : new.failed ≡ true

-- what the server makes of bytes, whichever pieces they were of which it holds what it shows
abbrev pub HearsAll : Shown → Shown → ℤ → List ℕ → Seen → Seen → Turn → Type 0
HearsAll old new now bytes before after turn =
    (ps : List Piece) → GoesOn old.site ps → held old.site ps ≡ old.held → Heard old.site ps now bytes new before after turn ⊎ Unheard new before after turn

-- The read failed, and the server heard nothing.
pub record Unread (old new : Shown) (before after : Seen) (turn : Turn) : Type 0 where
  pub cut : turn.cut ≡ None
  pub ending : turn.end ≡ Some LinkFailed
  pub written : turn.written ≡ 0
  pub hands : turn.requests.items ≡ []
  pub server : new ≡ old
  pub input : Keeps before.input after.input
  pub output : after.output ≡ before.output
  pub counted : after.faults ≡ before.faults + 1

-- Bytes came, at most 4096, or none at the end of the input, and the server was given them.
pub record Read (old new : Shown) (before after : Seen) (turn : Turn) : Type 0 where
  pub now : ℤ
  pub bytes : List ℕ
  pub cut : turn.cut ≡ Some (now, length bytes)
  pub input : Consumes before.input after.input bytes
  pub within : length bytes ≤ 4096
  pub at_end : bytes ≡ [] → IsAtEnd after.input
  pub heard : HearsAll old new now bytes before after turn

abbrev pub Turns : Shown → Shown → Seen → Seen → Turn → Type 0
Turns old new before after turn = Unread old new before after turn ⊎ Read old new before after turn
