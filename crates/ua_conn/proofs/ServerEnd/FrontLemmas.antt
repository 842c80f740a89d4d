-- What stands at the front of some bytes, as it was found there.
use Rattle.std.proofs.Common.{◌≡◌, ℕ, ◌≤◌, List, length, take, Some, None, ◌∙◌, arith}
use Rattle.std.proofs.lemmas.List.{length-take-le}
use Rattle.ua_frame.specs.Streams.{size_of}
use Rattle.ua_frame.specs.Layout.{Parts, IsFrameOf}
use Rattle.ua_frame.specs.HeaderRows.{header_fault}
use Rattle.ua_frame.specs.HeaderLaws.{header_fault_take}
use Rattle.ua_conn.specs.server.Site.{Site}
use Rattle.ua_conn.specs.Past.{Known}
use Rattle.ua_conn.specs.server.Faults.{fault_in_rest, greatest_frame}
use Rattle.ua_conn.specs.server.Taking.{Running, Gained, Takes}
use Rattle.ua_conn.specs.server.Feeding.{BeginsFrame, first_frame, IsRefused, by_header, by_frame, Steps}
use Rattle.ua_conn.specs.declared.server.connection.Taken.{Taken}
use Rattle.ua_conn.specs.declared.server.connection.Taken.TheVariants as taken
use Rattle.ua_conn.specs.declared.server.hearing.Step.TheVariants as steps

pub header_refuses : (site : Site) (k : Known) (now : ℕ) (bytes : List ℕ) (status : ℕ) → header_fault (greatest_frame k.limits) bytes ≡ Some status → IsRefused site k now bytes status
unfolding fault_in_rest
header_refuses site k now bytes status h = by_header h

pub header_waits : (k : Known) (bytes : List ℕ) → header_fault (greatest_frame k.limits) bytes ≡ None → fault_in_rest k bytes ≡ None
unfolding fault_in_rest
header_waits k bytes h = h

pub waits_header : (k : Known) (bytes : List ℕ) → fault_in_rest k bytes ≡ None → header_fault (greatest_frame k.limits) bytes ≡ None
unfolding fault_in_rest
waits_header k bytes h = h

-- what is said of the frame, whatever bytes spell it
abbrev pub TakesAny : Running → Running → ℕ → Parts → Gained → Gained → Taken → Type 0
TakesAny old new now f had has t =
    (bytes : List ℕ) → IsFrameOf bytes f → header_fault (greatest_frame old.known.limits) bytes ≡ None → Takes old new (record { bytes = bytes; moment = now }) had has t

-- is said of the one at the front
taken_front : (old new : Running) (now : ℕ) (bytes : List ℕ) (f : Parts) (had has : Gained) (t : Taken) → size_of bytes ≤ length bytes → IsFrameOf (take (size_of bytes) bytes) f →
    header_fault (greatest_frame old.known.limits) bytes ≡ None → TakesAny old new now f had has t →
    BeginsFrame (size_of bytes) bytes × Takes old new (first_frame now (size_of bytes) bytes) had has t
taken_front old new now bytes f had has t within is h all =
    let z = size_of bytes in (
      record { within = within; frame = is.there },
      all (take z bytes) is (header_fault_take (greatest_frame old.known.limits) z bytes (omega (arith, is.there.header, length-take-le z bytes within)) ∙ h),
    )

pub front_goes_on : (old new : Running) (now : ℕ) (bytes : List ℕ) (f : Parts) (had has : Gained) → size_of bytes ≤ length bytes → IsFrameOf (take (size_of bytes) bytes) f →
    header_fault (greatest_frame old.known.limits) bytes ≡ None → TakesAny old new now f had has taken.GoesOn → Steps old new now bytes had has steps.GoesOn
front_goes_on old new now bytes f had has within is h all = taken_front old new now bytes f had has taken.GoesOn within is h all

pub front_refused : (old new : Running) (now : ℕ) (bytes : List ℕ) (f : Parts) (status : ℕ) (had has : Gained) → size_of bytes ≤ length bytes → IsFrameOf (take (size_of bytes) bytes) f →
    header_fault (greatest_frame old.known.limits) bytes ≡ None → TakesAny old new now f had has (taken.Refused status) → Steps old new now bytes had has (steps.Refused status)
front_refused old new now bytes f status had has within is h all =
    let at = taken_front old new now bytes f had has (taken.Refused status) within is h all in (by_frame (size_of bytes) at.0 at.1.fault, at.1.unchanged)
