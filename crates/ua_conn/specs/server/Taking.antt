-- What one whole frame does to a server, by the definitions of the whole.
use Rattle.std.specs.Prelude.{◌≡◌, ℕ, true, false, List, ◌++◌, Some, None}
use Rattle.ua_frame.specs.Layout.{Frame, kind_of}
use Rattle.ua_service.specs.declared.request.Request.{Request}
use Rattle.ua_conn.specs.server.Site.{Site}
use Rattle.ua_conn.specs.Past.{Known, is_close}
use Rattle.ua_conn.specs.server.Faults.{fault_at}
use Rattle.ua_conn.specs.server.Replies.{reply_to, handed_at}
use Rattle.ua_conn.specs.server.Machine.{known_after, spelled_next, next_after}
use Rattle.ua_conn.specs.declared.server.connection.Taken.{Taken}
use Rattle.ua_conn.specs.declared.server.connection.Taken.TheVariants.{GoesOn, Closed, Refused}

-- what a server holds between whole frames
pub record Running : Type 0 where
  pub site : Site
  pub known : Known
  -- the number of the next OPN or MSG of the reply
  pub next : ℕ
  -- the greatest moment of a frame that it took
  pub moment : ℕ

-- what the calls have gained so far: bytes of the reply, and the requests that are handed on
pub record Gained : Type 0 where
  pub bytes : List ℕ
  pub asked : List Request

-- no row refuses the frame, and more may come: what is said, handed on and known then
pub record Stands (old new : Running) (f : Frame) (had has : Gained) : Type 0 where
  pub fine : fault_at old.site old.known f ≡ None
  pub more : is_close (kind_of f.bytes) ≡ false
  pub site : new.site ≡ old.site
  pub known : new.known ≡ known_after old.site old.known f
  pub number : new.next ≡ next_after old.next (reply_to old.site old.known f)
  pub said : has.bytes ≡ had.bytes ++ spelled_next old.site old.next (reply_to old.site old.known f)
  pub handed : has.asked ≡ had.asked ++ handed_at old.known f

-- a CLO that no row refuses, to which nothing is said
pub record Closes (old : Running) (f : Frame) (had has : Gained) : Type 0 where
  pub fine : fault_at old.site old.known f ≡ None
  pub close : is_close (kind_of f.bytes) ≡ true
  pub unchanged : has ≡ had

-- a row refuses the frame, and nothing was said yet
pub record Refuses (old : Running) (f : Frame) (status : ℕ) (had has : Gained) : Type 0 where
  pub fault : fault_at old.site old.known f ≡ Some status
  pub unchanged : has ≡ had

abbrev pub Takes : Running → Running → Frame → Gained → Gained → Taken → Type 0
Takes old new f had has GoesOn = Stands old new f had has
Takes old new f had has Closed = Closes old f had has
Takes old new f had has (Refused status) = Refuses old f status had has
