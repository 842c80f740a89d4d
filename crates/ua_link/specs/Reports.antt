-- A whole connection over a link.
use Rattle.std.specs.Prelude.{◌≡◌, ℕ, ◌+◌, ◌≤◌, Bool, false, List, [], ◌∷◌, ◌++◌, take, length, Option, Some, None}
use Rattle.std.specs.Io.KnownBytes.{Appends, Consumes, IsAtEnd}
use Rattle.ua_frame.specs.Streams.{timed}
use Rattle.ua_conn.specs.server.Site.{Site}
use Rattle.ua_conn.specs.server.Replies.{reply_bytes, end_of}
use Rattle.ua_conn.specs.server.Held.{held, stop, GoesOn}
use Rattle.ua_conn.specs.server.Feeding.{Shown}
use Rattle.ua_conn.specs.declared.outcome.End.{End}
use Rattle.ua_conn.specs.declared.outcome.End.TheVariants.{Closed, InputEnded, Truncated, Refused, LinkFailed, TurnsSpent, NoMemory}
use Rattle.ua_link.specs.Reads.{Cut, total, pieces_by, NoneEmpty, LastEmpty}
use Rattle.ua_link.specs.Turns.{Seen}

-- One fault is counted where the link ended the connection, and none else.
abbrev pub faults_by : End → ℕ → ℕ
faults_by LinkFailed n = n + 1
faults_by ending n = n

-- what an end says of a connection whose stream ends with `ending`, and whose reply is `owed` bytes long
abbrev pub Tells : End → End → ℕ → ℕ → ℕ → List Cut → Seen → Type 0
Tells LinkFailed ending written owed turns cuts after = Unit {0}
Tells NoMemory ending written owed turns cuts after = Unit {0}
Tells TurnsSpent ending written owed turns cuts after = (written ≡ owed) × (length cuts ≡ turns) × NoneEmpty cuts × (stop ending ≡ None)
Tells Closed ending written owed turns cuts after = (written ≡ owed) × (ending ≡ Closed)
Tells (Refused status) ending written owed turns cuts after = (written ≡ owed) × (ending ≡ Refused status)
Tells InputEnded ending written owed turns cuts after = (written ≡ owed) × (ending ≡ InputEnded) × LastEmpty cuts × IsAtEnd after.input
Tells Truncated ending written owed turns cuts after = (written ≡ owed) × (ending ≡ Truncated) × LastEmpty cuts × IsAtEnd after.input

-- A beginning of the reply to what was read was sent, which is n bytes long, by a server that opened the connection itself or not.
pub record Served (reverse : Bool) (site : Site) (turns : ℕ) (before after : Seen) (ending : End) (cuts : List Cut) (n : ℕ) : Type 0 where
  pub read : List ℕ
  pub input : Consumes before.input after.input read
  pub lengths : length read ≡ total cuts
  pub sent : Appends before.output after.output (take n (reply_bytes reverse site (timed (pieces_by cuts read))))
  pub within : n ≤ length (reply_bytes reverse site (timed (pieces_by cuts read)))
  pub tells : Tells ending (end_of site (timed (pieces_by cuts read))) n (length (reply_bytes reverse site (timed (pieces_by cuts read)))) turns cuts after
  pub counted : after.faults ≡ faults_by ending before.faults

-- a connection that goes on, after these reads
pub record Serving (reverse : Bool) (site : Site) (server : Shown) (cuts : List Cut) (n : ℕ) (before after : Seen) : Type 0 where
  pub read : List ℕ
  pub input : Consumes before.input after.input read
  pub lengths : length read ≡ total cuts
  pub goes_on : GoesOn site (pieces_by cuts read)
  pub shows : server ≡ record { site = site; held = held site (pieces_by cuts read); failed = false }
  pub sent : Appends before.output after.output (reply_bytes reverse site (timed (pieces_by cuts read)))
  pub written : n ≡ length (reply_bytes reverse site (timed (pieces_by cuts read)))
  pub filled : NoneEmpty cuts
  pub counted : after.faults ≡ before.faults

-- the reads so far, and the next, if it gave anything
abbrev pub cuts_with : Option Cut → List Cut → List Cut
cuts_with None cuts = cuts
cuts_with (Some cut) cuts = cuts ++ cut ∷ []
