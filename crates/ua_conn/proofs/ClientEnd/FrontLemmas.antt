-- What stands at the front of some bytes that came to a client, as it was found there.
use Rattle.std.proofs.Common.{◌≡◌, ℕ, ◌≤◌, true, List, Option, length, take, Some, None, Result, Ok, Err, refl, ap, ◌∙◌, arith}
use Rattle.std.proofs.lemmas.List.{length-take-le}
use Rattle.std.specs.Prelude.{option_map}
use Rattle.ua_frame.specs.Streams.{size_of}
use Rattle.ua_frame.specs.Layout.{Parts, IsFrameOf}
use Rattle.ua_frame.specs.HeaderRows.{header_fault}
use Rattle.ua_frame.specs.HeaderLaws.{header_fault_take}
use Rattle.ua_conn.specs.server.Feeding.{BeginsFrame, first_frame}
use Rattle.ua_conn.specs.client.Past.{ClientKnown}
use Rattle.ua_conn.specs.client.Faults.{greatest_answer, client_fault_in_rest}
use Rattle.ua_conn.specs.client.Machine.{awaiting_fault}
use Rattle.ua_conn.specs.client.Taking.{ClientRunning}
use Rattle.ua_conn.specs.client.Effects.{asker_with, Given, FaultIs, Takes}
use Rattle.ua_conn.specs.client.Hearing.{by_header, by_frame, RefusedAs, Steps}
use Rattle.ua_conn.specs.declared.client.fault.ClientFault.{ClientFault}
use Rattle.ua_conn.specs.declared.client.fault.ClientFault.TheVariants.{ServerSaid, Broken, NoMemory, Ended}

pub header_refuses : (old new : ClientRunning) (now : ℕ) (bytes : List ℕ) (had : Given) (status : ℕ) → header_fault (greatest_answer old.waits.known.ack) bytes ≡ Some status → Steps old new now bytes had had (Err (Broken status))
unfolding client_fault_in_rest
header_refuses old new now bytes had status h = (by_header (ap (option_map Broken) h), refl)

pub header_waits : (k : ClientKnown) (bytes : List ℕ) → header_fault (greatest_answer k.ack) bytes ≡ None → client_fault_in_rest k bytes ≡ None
unfolding client_fault_in_rest
header_waits k bytes h = ap (option_map Broken) h

not_broken : (o : Option ℕ) → option_map Broken o ≡ None → o ≡ None
not_broken None h = refl
not_broken (Some status) h = absurd cc

pub waits_header : (k : ClientKnown) (bytes : List ℕ) → client_fault_in_rest k bytes ≡ None → header_fault (greatest_answer k.ack) bytes ≡ None
unfolding client_fault_in_rest
waits_header k bytes h = not_broken (header_fault (greatest_answer k.ack) bytes) h

-- what is said of the frame, whatever bytes spell it
abbrev pub TakesAny : ClientRunning → ClientRunning → ℕ → Parts → Given → Given → Result (Unit {0}) ClientFault → Type 0
TakesAny old new now f had has t =
    (bytes : List ℕ) → IsFrameOf bytes f → header_fault (greatest_answer old.waits.known.ack) bytes ≡ None → Takes old new (record { bytes = bytes; moment = now }) had has t

-- is said of the one at the front
taken_front : (old new : ClientRunning) (now : ℕ) (bytes : List ℕ) (f : Parts) (had has : Given) (t : Result (Unit {0}) ClientFault) → size_of bytes ≤ length bytes → IsFrameOf (take (size_of bytes) bytes) f →
    header_fault (greatest_answer old.waits.known.ack) bytes ≡ None → TakesAny old new now f had has t →
    BeginsFrame (size_of bytes) bytes × Takes old new (first_frame now (size_of bytes) bytes) had has t
taken_front old new now bytes f had has t within is h all =
    let z = size_of bytes in (
      record { within = within; frame = is.there },
      all (take z bytes) is (header_fault_take (greatest_answer old.waits.known.ack) z bytes (omega (arith, is.there.header, length-take-le z bytes within)) ∙ h),
    )

pub front_goes_on : (old new : ClientRunning) (now : ℕ) (bytes : List ℕ) (f : Parts) (had has : Given) (u : Unit {0}) → size_of bytes ≤ length bytes → IsFrameOf (take (size_of bytes) bytes) f →
    header_fault (greatest_answer old.waits.known.ack) bytes ≡ None → TakesAny old new now f had has (Ok u) → Steps old new now bytes had has (Ok true)
front_goes_on old new now bytes f had has u within is h all = taken_front old new now bytes f had has (Ok u) within is h all

refused_as : (old : ClientRunning) (now n : ℕ) (bytes : List ℕ) (fault : ClientFault) → BeginsFrame n bytes → FaultIs (awaiting_fault (asker_with old.config) old.waits (first_frame now n bytes)) fault → RefusedAs old now bytes fault
refused_as old now n bytes (ServerSaid status reason) b h = by_frame n b h
refused_as old now n bytes (Broken status) b h = by_frame n b h
refused_as old now n bytes NoMemory b h = tt
refused_as old now n bytes Ended b h = absurd h

pub front_refused : (old new : ClientRunning) (now : ℕ) (bytes : List ℕ) (f : Parts) (had has : Given) (fault : ClientFault) → size_of bytes ≤ length bytes → IsFrameOf (take (size_of bytes) bytes) f →
    header_fault (greatest_answer old.waits.known.ack) bytes ≡ None → TakesAny old new now f had has (Err fault) → Steps old new now bytes had has (Err fault)
front_refused old new now bytes f had has fault within is h all =
    let at = taken_front old new now bytes f had has (Err fault) within is h all in (refused_as old now (size_of bytes) bytes fault at.0 at.1.0, at.1.1)
