-- What one more piece does to a server, by the definitions of the whole.
use Rattle.std.specs.Prelude.{◌≡◌, ℕ, ◌<◌, ◌≤◌, ◌^◌, Bool, true, false, List, [], ◌∷◌, ◌++◌, map, take, length, Option, Some, None}
use Rattle.ua_frame.specs.Streams.{Piece, TimedByte, IsFrame, at, plain, timed, size_of, rest_of}
use Rattle.ua_frame.specs.Layout.{Frame}
use Rattle.ua_service.specs.declared.request.Request.{Request}
use Rattle.ua_conn.specs.server.Site.{Site}
use Rattle.ua_conn.specs.Past.{Known}
use Rattle.ua_conn.specs.server.Faults.{fault_at, fault_in_rest}
use Rattle.ua_conn.specs.server.Replies.{Reply, replies, failing, reading_of, reply_bytes, handed, end_of}
use Rattle.ua_conn.specs.server.Held.{Held, held, stop, GoesOn}
use Rattle.ua_conn.specs.server.Machine.{Run, run_on, spelled_next, next_after}
use Rattle.ua_conn.specs.server.Taking.{Running, Gained, Stands, Closes}
use Rattle.ua_conn.specs.declared.outcome.End.{End}
use Rattle.ua_conn.specs.declared.server.hearing.Step.{Step}
use Rattle.ua_conn.specs.declared.server.hearing.Step.TheVariants as steps

-- ---- what stands at the front of bytes that were not used yet

-- The bytes begin with a frame of n bytes.
pub record BeginsFrame (n : ℕ) (bytes : List ℕ) : Type 0 where
  pub within : n ≤ length bytes
  pub frame : IsFrame (take n bytes)

-- that frame, come whole at a moment
abbrev pub first_frame : ℕ → ℕ → List ℕ → Frame
first_frame now n bytes = record { bytes = take n bytes; moment = now }

abbrev pub BeginsNoFrame : List ℕ → Type 0
BeginsNoFrame bytes = (n : ℕ) → n ≤ length bytes → IsFrame (take n bytes) → ⊥

-- A row refuses the frame at the front, or the header where no whole frame is.
pub data IsRefused (site : Site) (k : Known) (now : ℕ) (bytes : List ℕ) (status : ℕ) : Type 0 where
  by_header : fault_in_rest k bytes ≡ Some status → IsRefused site k now bytes status
  by_frame : (n : ℕ) → BeginsFrame n bytes → fault_at site k (first_frame now n bytes) ≡ Some status → IsRefused site k now bytes status

-- What is left of some bytes behind their whole frames. It is the same whenever they came: a moment says nothing of where a frame lies.
abbrev pub left_of : List ℕ → List ℕ
left_of bytes = plain (rest_of (map (at 0) bytes))

-- what the front of the bytes did, come at one moment
abbrev pub Steps : Running → Running → ℕ → List ℕ → Gained → Gained → Step → Type 0
Steps old new now bytes had has steps.Waits = BeginsNoFrame bytes × (fault_in_rest old.known bytes ≡ None) × (new ≡ old) × (has ≡ had)
Steps old new now bytes had has steps.GoesOn = BeginsFrame (size_of bytes) bytes × Stands old new (first_frame now (size_of bytes) bytes) had has
Steps old new now bytes had has steps.Closed = (n : ℕ) × BeginsFrame n bytes × Closes old (first_frame now n bytes) had has
Steps old new now bytes had has (steps.Refused status) = IsRefused old.site old.known now bytes status × (has ≡ had)

-- ---- the bytes that a server has, all come at one moment

-- new is old with whole frames at its end, which begin the frames rs; next is the number of the first that has one
pub record SaysPart (site : Site) (next : ℕ) (rs : List Reply) (old new : List ℕ) : Type 0 where
  pub said : List Reply
  pub left : List Reply
  pub begins : rs ≡ said ++ left
  pub added : new ≡ old ++ spelled_next site next said

abbrev pub brought : Running → ℕ → List ℕ → Run
brought r now bytes = run_on r.site r.known now bytes

-- all that they bring, and what is left of them
pub record Hears (old new : Running) (now : ℕ) (bytes : List ℕ) (had has : Gained) (left : List ℕ) (came : Option End) : Type 0 where
  pub said : has.bytes ≡ had.bytes ++ spelled_next old.site old.next (brought old now bytes).replies
  pub asked : has.asked ≡ had.asked ++ (brought old now bytes).asked
  pub came_is : came ≡ stop (brought old now bytes).ending
  pub site : came ≡ None → new.site ≡ old.site
  pub known : came ≡ None → new.known ≡ (brought old now bytes).known
  pub number : came ≡ None → new.next ≡ next_after old.next (brought old now bytes).replies
  pub rest : came ≡ None → left ≡ plain (rest_of (map (at now) bytes))

abbrev pub HearsPart : Running → ℕ → List ℕ → List ℕ → List ℕ → Type 0
HearsPart old now bytes had has = SaysPart old.site old.next (brought old now bytes).replies had has

-- these bytes are left, and bring what is left of all that the bytes bring together
pub record Hearing (old new : Running) (now : ℕ) (bytes : List ℕ) (had has : Gained) (left : List ℕ) : Type 0 where
  pub said : List Reply
  pub hands : List Request
  pub brings : (brought old now bytes).replies ≡ said ++ (brought new now left).replies
  pub asks : (brought old now bytes).asked ≡ hands ++ (brought new now left).asked
  pub added : has.bytes ≡ had.bytes ++ spelled_next old.site old.next said
  pub asked : has.asked ≡ had.asked ++ hands
  pub ending : (brought old now bytes).ending ≡ (brought new now left).ending
  pub site : new.site ≡ old.site
  pub known : (brought old now bytes).known ≡ (brought new now left).known
  pub number : new.next ≡ next_after old.next said
  pub rest : plain (rest_of (map (at now) bytes)) ≡ plain (rest_of (map (at now) left))

-- ---- a piece

-- what contracts see of a server
pub record Shown : Type 0 where
  pub site : Site
  pub held : Held
  pub failed : Bool

-- No frame came later than the greatest moment, as long as the server goes on; and a moment is one of a clock.
pub record IsTimely (frames server : ℕ) (failed : Bool) : Type 0 where
  pub within : failed ≡ false → frames ≤ server
  pub clock : server < 2 ^ 63

-- the frames of the reply
abbrev pub replies_of : Site → List TimedByte → List Reply
replies_of site s = replies site (reading_of site s).past ++ failing (end_of site s)

-- One more piece behind the pieces ps: the reply gains so many bytes, these requests are handed on, the end is
-- theirs, and where it goes on, it shows what is held of all.
pub record Feeds (site : Site) (ps : List Piece) (x : Piece) (out out' : List ℕ) (asked : List Request) (came : Option End) (new : Shown) : Type 0 where
  pub added : List ℕ
  pub out_is : out' ≡ out ++ added
  pub replied : (reverse : Bool) → reply_bytes reverse site (timed (ps ++ x ∷ [])) ≡ reply_bytes reverse site (timed ps) ++ added
  pub hands : handed site (timed (ps ++ x ∷ [])) ≡ handed site (timed ps) ++ asked
  pub came_is : came ≡ stop (end_of site (timed (ps ++ x ∷ [])))
  pub shows : came ≡ None → new ≡ record { site = site; held = held site (ps ++ x ∷ []); failed = false }
  pub fails : (e : End) → came ≡ Some e → new.failed ≡ true

-- whichever pieces they were of which the server holds this
abbrev pub FeedsAll : Shown → Piece → List ℕ → List ℕ → List Request → Option End → Shown → Type 0
FeedsAll old x out out' asked came new = (ps : List Piece) → GoesOn old.site ps → held old.site ps ≡ old.held → Feeds old.site ps x out out' asked came new

-- after want of memory: whole frames that begin what the piece adds to the reply
pub record FeedsPart (site : Site) (ps : List Piece) (x : Piece) (out out' : List ℕ) : Type 0 where
  pub gained : List Reply
  pub replied : replies_of site (timed (ps ++ x ∷ [])) ≡ replies_of site (timed ps) ++ gained
  pub part : SaysPart site (held site ps).next gained out out'

abbrev pub FeedsPartAll : Shown → Piece → List ℕ → List ℕ → Type 0
FeedsPartAll old x out out' = (ps : List Piece) → GoesOn old.site ps → held old.site ps ≡ old.held → FeedsPart old.site ps x out out'

-- the loop over the pieces: those done brought no end
pub record Answering (reverse : Bool) (site : Site) (done : List Piece) (reply : List ℕ) (asked : List Request) (shown : Shown) : Type 0 where
  pub goes_on : GoesOn site done
  pub shows : shown ≡ record { site = site; held = held site done; failed = false }
  pub replied : reply ≡ reply_bytes reverse site (timed done)
  pub hands : asked ≡ handed site (timed done)
