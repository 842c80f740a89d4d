-- One of several connections of a server, turn after turn: a read that does not wait, what the server makes of it, and a
-- write that does not wait.
use Rattle.std.specs.Prelude.{◌≡◌, ℕ, zero, suc, ◌+◌, ◌-◌, ◌*◌, ◌^◌, ◌<◌, ◌≤◌, ◌||◌, ◌&&◌, not, min, ℤ, Bool, true, false, nat_lt, nat_le, ◌==◌, if◌then◌else◌, List, [], ◌∷◌, ◌++◌, take, length, Option, Some, None, is_none, ◌⊎◌}
use Rattle.std.specs.Io.KnownBytes.{Appends, Consumes, Keeps, IsAtEnd}
use Rattle.ua_frame.specs.Streams.{Piece, timed, latest, plain, rest_of}
use Rattle.ua_conn.specs.server.Site.{Site}
use Rattle.ua_conn.specs.server.Faults.{is_unopened}
use Rattle.ua_conn.specs.server.Replies.{reply_bytes, end_of, ended}
use Rattle.ua_conn.specs.server.Held.{held, stop, GoesOn}
use Rattle.ua_conn.specs.server.Feeding.{Shown as Server}
use Rattle.ua_conn.specs.declared.outcome.End.{End}
use Rattle.ua_conn.specs.declared.outcome.End.TheVariants.{TurnsSpent}
use Rattle.ua_link.specs.Fronts.{OneAtMost}
use Rattle.ua_link.specs.ReadyLink.{Tries}
use Rattle.ua_link.specs.Reads.{Cut, total, pieces_by, NoneEmpty}
use Rattle.ua_link.specs.Turns.{Seen, more}
use Rattle.ua_link.specs.Reports.{Served, Tells, faults_by}
use Rattle.ua_link.specs.declared.connection.Over.{Over}
use Rattle.ua_link.specs.declared.connection.Over.TheVariants.{Ended, TimedOut}
use Rattle.ua_link.specs.declared.ready_link.Call.{Call}
use Rattle.ua_link.specs.declared.ready_link.Call.TheVariants.{Read, Write}

-- what contracts see of a connection
pub record Shown : Type 0 where
  pub server : Server
  -- what was read and the server did not hear yet, and the moment at which it came
  pub waiting : List ℕ
  pub came : ℤ
  -- what the server said and is not out yet
  pub owed : List ℕ
  -- the end to which it came, which stands once all of that is out
  pub ending : Option End
  -- how many reads are left
  pub left : ℕ
  -- steady moments: of the beginning, the greatest, the one at which a byte last came or went, and the one at which the server
  -- heard the first byte of the frame that is not whole
  pub begun : ℕ
  pub latest : ℕ
  pub active : ℕ
  pub frame : ℕ

-- ---- a read

-- a connection that is read: no end came, nothing waits, and not too much is owed
abbrev pub is_read : Shown → Bool
is_read c = is_none c.ending && length c.waiting == 0 && nat_le (length c.owed) 65536

-- a connection of which the server hears more: no end came, something waits, and not too much is owed
abbrev pub is_heard : Shown → Bool
is_heard c = is_none c.ending && nat_lt 0 (length c.waiting) && nat_le (length c.owed) 65536

-- The end of the input is the end of a connection.
abbrev pub ending_at_read : ℕ → List ℕ → Option End
ending_at_read zero rest = Some (ended None rest)
ending_at_read (suc n) rest = None

-- Nothing came, or some bytes or the end of the input at a moment of the clock.
abbrev pub Reads : Shown → Shown → Option (List ℕ) → Option (List ℕ) → Option Cut → Type 0
Reads old new input input' None = (new ≡ old) × Keeps input input' × (is_read old ≡ false → input' ≡ input)
Reads old new input input' (Some cut) =
    (is_read old ≡ true) × (length new.waiting ≡ cut.1) × (cut.1 ≤ 4096) × Consumes input input' new.waiting × (cut.1 ≡ 0 → IsAtEnd input')
    × (new ≡ record old { waiting = new.waiting; came = cut.0; left = old.left - 1; ending = ending_at_read cut.1 old.server.held.rest })

-- ---- what the server hears

-- two lists of pieces that are one stream, of which the next piece has one moment
pub record SameStream (ps qs : List Piece) : Type 0 where
  pub bytes : timed ps ≡ timed qs
  pub moment : latest ps ≡ latest qs

-- some bytes behind these pieces, where there are any
abbrev pub behind : List Piece → ℤ → List ℕ → List Piece
behind ps now [] = ps
behind ps now (b ∷ bytes) = more ps now (b ∷ bytes)

-- The end to which the server came by itself, if any; without one, once it heard all that was read, the last read is the end.
abbrev pub ending_with : List ℕ → ℕ → Option End → Option End
ending_with waiting left (Some ending) = Some ending
ending_with [] zero None = Some TurnsSpent
ending_with [] (suc left) None = None
ending_with (b ∷ waiting) left None = None

-- Before the last of what was given, which makes one frame whole at the most, no more than the bound was owed.
pub record IsBounded (site : Site) (ps : List Piece) (now : ℤ) (given : List ℕ) (owed : ℕ) : Type 0 where
  pub first : List ℕ
  pub last : List ℕ
  pub joined : given ≡ first ++ last
  pub one : OneAtMost (plain (rest_of (timed (more ps now first)))) last
  pub bound : owed + length (reply_bytes false site (timed (more ps now first))) ≤ 65536 + length (reply_bytes false site (timed ps))

-- What the server makes of what waited, behind the pieces ps, as far as it was given that: what it says is owed besides.
pub record Takes (site : Site) (ps : List Piece) (old new : Shown) : Type 0 where
  pub given : List ℕ
  pub waited : old.waiting ≡ given ++ new.waiting
  pub heard : List Piece
  pub stream : SameStream heard (behind ps old.came given)
  pub said : List ℕ
  pub replied : reply_bytes false site (timed heard) ≡ reply_bytes false site (timed ps) ++ said
  pub owed : new.owed ≡ old.owed ++ said
  pub ending : new.ending ≡ ending_with new.waiting old.left (stop (end_of site (timed heard)))
  pub shows : GoesOn site heard → new.server ≡ record { site = site; held = held site heard; failed = false }
  pub bounded : 0 < length given → IsBounded site ps old.came given (length old.owed)

-- whichever pieces they were that the server heard
abbrev pub TakesAll : Shown → Shown → Type 0
TakesAll old new = (site : Site) (ps : List Piece) → GoesOn site ps → old.server ≡ record { site = site; held = held site ps; failed = false } → Takes site ps old new

-- the moment of the first byte of the frame that is not whole, of which `rest` bytes are there, where the server heard `given` bytes
-- at this moment
abbrev pub begun_at : ℕ → ℕ → ℕ → ℕ → ℕ
begun_at rest given now before = if nat_lt given rest then before else now

-- A connection that came to no end gave the server what waited.
pub record Hears (old new : Shown) : Type 0 where
  pub goes : old.ending ≡ None → TakesAll old new
  pub stays : (e : End) → old.ending ≡ Some e → new ≡ old
  pub came : new.came ≡ old.came
  pub left : new.left ≡ old.left
  pub begun : new.begun ≡ old.begun
  pub latest : new.latest ≡ old.latest
  pub active : new.active ≡ old.active
  -- where the frame that is not whole began before, all that the server heard is of it
  pub grown : new.ending ≡ None → length old.waiting - length new.waiting < length new.server.held.rest →
      length new.server.held.rest ≡ length old.server.held.rest + (length old.waiting - length new.waiting)
  pub frame : new.ending ≡ None → 0 < length new.server.held.rest →
      new.frame ≡ begun_at (length new.server.held.rest) (length old.waiting - length new.waiting) old.latest old.frame

-- the bytes that a read brought
abbrev pub bytes_of : Option Cut → ℕ
bytes_of None = 0
bytes_of (Some cut) = cut.1

-- What the server heard in a turn, behind the pieces ps: of what waited and what came all but what waits then.
pub record Fed (site : Site) (ps : List Piece) (old new : Shown) (cut : Option Cut) : Type 0 where
  pub given : List ℕ
  pub amount : length given + length new.waiting ≡ length old.waiting + bytes_of cut
  pub bounded : 0 < length given → IsBounded site ps new.came given (length old.owed)

-- whichever pieces they were that the server had heard
abbrev pub IsFed : Shown → Shown → Option Cut → Type 0
IsFed old new cut = (site : Site) (ps : List Piece) → GoesOn site ps → old.server ≡ record { site = site; held = held site ps; failed = false } → Fed site ps old new cut

-- ---- a connection that stands

-- The reads are not at an end: the server heard what they brought but for what waits, and there are more to come.
pub record Going (site : Site) (turns : ℕ) (server : Server) (waiting : List ℕ) (came : ℤ) (owed : List ℕ) (left : ℕ) (cuts : List Cut) (ps : List Piece) (out : List ℕ) : Type 0 where
  pub heard : List Piece
  pub stream : SameStream (behind heard came waiting) ps
  pub replied : reply_bytes false site (timed heard) ≡ out ++ owed
  pub goes_on : GoesOn site heard
  pub shows : server ≡ record { site = site; held = held site heard; failed = false }
  pub filled : NoneEmpty cuts
  pub some : waiting ≡ [] → 0 < left
  pub spends : length cuts + left ≡ turns

-- The reads are at an end, which is that of what they brought.
pub record Leaving (site : Site) (turns : ℕ) (owed : List ℕ) (ending : End) (cuts : List Cut) (ps : List Piece) (out : List ℕ) (after : Seen) : Type 0 where
  pub replied : reply_bytes false site (timed ps) ≡ out ++ owed
  pub tells : (n : ℕ) → Tells ending (end_of site (timed ps)) n n turns cuts after
  pub unfailed : (n : ℕ) → n ≡ faults_by ending n

abbrev pub Stage : Site → ℕ → Server → List ℕ → ℤ → List ℕ → ℕ → List Cut → List Piece → List ℕ → Seen → Option End → Type 0
Stage site turns server waiting came owed left cuts ps out after None = Going site turns server waiting came owed left cuts ps out
Stage site turns server waiting came owed left cuts ps out after (Some ending) = Leaving site turns owed ending cuts ps out after

-- A connection that stands since `before`, after these reads of at most `turns`: of the reply to what the server heard of them n bytes
-- are out, and the others are owed.
pub record Stands (site : Site) (turns : ℕ) (server : Server) (waiting : List ℕ) (came : ℤ) (owed : List ℕ) (left : ℕ) (ending : Option End) (cuts : List Cut) (n : ℕ) (before after : Seen) : Type 0 where
  pub read : List ℕ
  pub input : Consumes before.input after.input read
  pub lengths : length read ≡ total cuts
  pub out : List ℕ
  pub sent : Appends before.output after.output out
  pub written : n ≡ length out
  pub counted : after.faults ≡ before.faults
  pub stage : Stage site turns server waiting came owed left cuts (pieces_by cuts read) out after ending

-- whatever its steady moments are
abbrev pub Standing : Site → ℕ → Shown → List Cut → ℕ → Seen → Seen → Type 0
Standing site turns c cuts n before after = Stands site turns c.server c.waiting c.came c.owed c.left c.ending cuts n before after

-- A beginning of the reply to what was read went out, and no call of the link failed.
pub record Dropped (site : Site) (cuts : List Cut) (n : ℕ) (before after : Seen) : Type 0 where
  pub read : List ℕ
  pub input : Consumes before.input after.input read
  pub lengths : length read ≡ total cuts
  pub sent : Appends before.output after.output (take n (reply_bytes false site (timed (pieces_by cuts read))))
  pub within : n ≤ length (reply_bytes false site (timed (pieces_by cuts read)))
  pub counted : after.faults ≡ before.faults

-- what a turn leaves: a connection that stands, one that ended, or one that patience ended
abbrev pub Leaves : Site → ℕ → Shown → List Cut → ℕ → Seen → Seen → Option Over → Type 0
Leaves site turns c cuts n before after None = Standing site turns c cuts n before after
Leaves site turns c cuts n before after (Some (Ended ending)) = Served false site turns before after ending cuts n
Leaves site turns c cuts n before after (Some TimedOut) = Dropped site cuts n before after

-- ---- patience

-- some byte came or went
abbrev pub has_moved : Option Cut → ℕ → Bool
has_moved cut written = nat_lt 0 (bytes_of cut) || nat_lt 0 written

-- no channel is open yet, and no end came
abbrev pub is_opening : Shown → Bool
is_opening c = is_none c.ending && is_unopened c.server.held.known

-- a frame was begun and is not whole, and no end came
abbrev pub is_within_frame : Shown → Bool
is_within_frame c = is_none c.ending && nat_lt 0 (length c.server.held.rest)

-- a frame may take ten times as long as a client may be quiet, of as many ticks as are counted
abbrev pub frame_patience : ℕ → ℕ
frame_patience patience = min (patience * 10) (2 ^ 64 - 1)

-- Whether it is over for its client's sake: nothing moved for as long as patience lasts, nor in the turn; no channel was opened
-- within as long of the beginning; or a frame was not whole within ten times that of its first byte.
abbrev pub is_due : Shown → Bool → ℕ → Bool
is_due c moved patience = (not moved && nat_le patience (c.latest - c.active))
    || (is_opening c && nat_le patience (c.latest - c.begun))
    || (is_within_frame c && nat_le (frame_patience patience) (c.latest - c.frame))

-- the lesser of two numbers of ticks, of which the second may not count
abbrev pub least_left : ℕ → Bool → ℕ → ℕ
least_left ticks counts other = if counts then min ticks other else ticks

-- the ticks that are left at a moment by the one of these rules that ends first
abbrev pub left_at : Shown → ℕ → ℕ → ℕ
left_at c now patience =
    least_left (least_left (patience - (now - c.active)) (is_opening c) (patience - (now - c.begun))) (is_within_frame c) (frame_patience patience - (now - c.frame))

-- Whether a connection is over behind a turn in which no call failed, where `moved` says that a byte came or went in it: by its end
-- where nothing is owed, and else for its client's sake.
abbrev pub Judges : Shown → Bool → ℕ → Option Over → Type 0
Judges c moved patience None = (c.owed ≡ [] → c.ending ≡ None) × (is_due c moved patience ≡ false)
Judges c moved patience (Some (Ended ending)) = (c.owed ≡ []) × (c.ending ≡ Some ending)
Judges c moved patience (Some TimedOut) = (c.owed ≡ [] → c.ending ≡ None) × (is_due c moved patience ≡ true)

-- ---- the calls of a turn

abbrev pub reads_of : Bool → List Call
reads_of true = Read ∷ []
reads_of false = []

abbrev pub writes_of : ℕ → List Call
writes_of zero = []
writes_of (suc owed) = Write ∷ []

-- A connection that is read tries one read, first; and then one write is tried where anything is owed.
abbrev pub Calls : Bool → ℕ → Option (List Call) → Option (List Call) → Type 0
Calls read owed old new = Tries old new (reads_of read ++ writes_of owed)

-- The read failed, or the write.
abbrev pub FailedCalls : Bool → Option (List Call) → Option (List Call) → Type 0
FailedCalls read old new = ((read ≡ true) × Tries old new (Read ∷ [])) ⊎ Tries old new (reads_of read ++ Write ∷ [])
