-- What a whole frame does, from the effect of its type.
use Rattle.std.proofs.Common.{◌≡◌, ℕ, true, false, cond, not, List, ◌++◌, Some, None, Result, Ok, Err, IfOk, OnErr, refl, sym, ap, ◌∙◌}
use Rattle.ua_frame.specs.Rows.{first_row, or_else}
use Rattle.ua_frame.specs.HeaderRows.{header_fault}
use Rattle.ua_frame.specs.Layout.{Frame, kind_of, flag_of}
use Rattle.ua_conn.specs.server.Site.{Site}
use Rattle.ua_conn.specs.Past.{Known, is_close}
use Rattle.ua_conn.specs.server.Faults.{fault_at, frame_rows, type_rows, is_allowed, greatest_frame}
use Rattle.ua_conn.specs.server.Machine.{spelled_next, next_after}
use Rattle.ua_conn.specs.server.Taking.{Running, Gained, Stands, Refuses, Takes}
use Rattle.ua_conn.specs.server.Effects.{Effect, Acts, Stops, Does}
use Rattle.ua_conn.specs.server.Settled.{settled}
use Rattle.ua_conn.specs.declared.server.connection.Taken.{Taken}
use Rattle.ua_conn.specs.declared.server.connection.Taken.TheVariants.{GoesOn, Closed}
use Rattle.ua_conn.specs.declared.server.fault.Fault.{Fault}
use Rattle.ua_conn.specs.declared.server.fault.Fault.TheVariants as faults
use Rattle.ua_conn.proofs.ServerEnd.TypeLemmas.{IsEffect}

-- with a header in order, the first row of the whole frame decides
by_rows : (site : Site) (k : Known) (f : Frame) → header_fault (greatest_frame k.limits) f.bytes ≡ None →
    fault_at site k f ≡ cond (not (is_allowed k (kind_of f.bytes))) (Some 0x807E0000) (first_row (type_rows site k f (flag_of f.bytes) (kind_of f.bytes)))
unfolding fault_at
by_rows site k f h = ap (λ o. or_else o (first_row (frame_rows site k f (kind_of f.bytes) (flag_of f.bytes)))) h

of_type : (site : Site) (k : Known) (f : Frame) (e : Effect) → header_fault (greatest_frame k.limits) f.bytes ≡ None → is_allowed k (kind_of f.bytes) ≡ true → IsEffect e site k f → fault_at site k f ≡ first_row e.rows
of_type site k f e h a is = by_rows site k f h
    ∙ ap (λ b. cond (not b) (Some 0x807E0000) (first_row (type_rows site k f (flag_of f.bytes) (kind_of f.bytes)))) a
    ∙ is.rows

-- a type out of turn
pub out_of_turn : (old : Running) (f : Frame) (had : Gained) → header_fault (greatest_frame old.known.limits) f.bytes ≡ None → is_allowed old.known (kind_of f.bytes) ≡ false →
    Refuses old f 0x807E0000 had had
out_of_turn old f had h a = record {
  fault = by_rows old.site old.known f h ∙ ap (λ b. cond (not b) (Some 0x807E0000) (first_row (type_rows old.site old.known f (flag_of f.bytes) (kind_of f.bytes)))) a;
  unchanged = refl;
}

stands : (old new : Running) (f : Frame) (e : Effect) (had has : Gained) → header_fault (greatest_frame old.known.limits) f.bytes ≡ None → is_allowed old.known (kind_of f.bytes) ≡ true →
    is_close (kind_of f.bytes) ≡ false → IsEffect e old.site old.known f → Acts e old new had has → Stands old new f had has
stands old new f e had has h a c is acts = record {
  fine = of_type old.site old.known f e h a is ∙ acts.fine;
  more = c;
  site = acts.site;
  known = acts.known ∙ sym is.known;
  number = acts.number ∙ ap (next_after old.next) (sym is.says);
  said = acts.said ∙ ap (λ rs. had.bytes ++ spelled_next old.site old.next rs) (sym is.says);
  handed = acts.handed ∙ ap (λ qs. had.asked ++ qs) (sym is.asks);
}

refuses : (old : Running) (f : Frame) (e : Effect) (status : ℕ) (had has : Gained) → header_fault (greatest_frame old.known.limits) f.bytes ≡ None → is_allowed old.known (kind_of f.bytes) ≡ true →
    IsEffect e old.site old.known f → Stops e status had has → Refuses old f status had has
refuses old f e status had has h a is stops = record { fault = of_type old.site old.known f e h a is ∙ stops.fault; unchanged = stops.unchanged }

-- a frame that more may follow
pub goes_on : (done : Result (Unit {0}) Fault) (old new : Running) (f : Frame) (e : Effect) (had has : Gained) → header_fault (greatest_frame old.known.limits) f.bytes ≡ None → is_allowed old.known (kind_of f.bytes) ≡ true →
    is_close (kind_of f.bytes) ≡ false → IsEffect e old.site old.known f → Does e old new had has done → IfOk (settled done GoesOn) (λ taken. Takes old new f had has taken)
goes_on (Ok u) old new f e had has h a c is does = stands old new f e had has h a c is does
goes_on (Err (faults.Refused status)) old new f e had has h a c is does = refuses old f e status had has h a is does
goes_on (Err faults.NoMemory) old new f e had has h a c is does = tt

-- a frame that closes
pub closes : (done : Result (Unit {0}) Fault) (old new : Running) (f : Frame) (e : Effect) (had : Gained) → header_fault (greatest_frame old.known.limits) f.bytes ≡ None → is_allowed old.known (kind_of f.bytes) ≡ true →
    is_close (kind_of f.bytes) ≡ true → IsEffect e old.site old.known f → Does e old new had had done → IfOk (settled done Closed) (λ taken. Takes old new f had had taken)
closes (Ok u) old new f e had h a c is does = record { fine = of_type old.site old.known f e h a is ∙ does.fine; close = c; unchanged = refl }
closes (Err (faults.Refused status)) old new f e had h a c is does = refuses old f e status had had h a is does
closes (Err faults.NoMemory) old new f e had h a c is does = tt

-- want of memory leaves the output
pub leaves : (done : Result (Unit {0}) Fault) (good : Taken) (old new : Running) (e : Effect) (had has : Gained) → Does e old new had has done → OnErr (settled done good) (has.bytes ≡ had.bytes)
leaves (Ok u) good old new e had has does = tt
leaves (Err (faults.Refused status)) good old new e had has does = tt
leaves (Err faults.NoMemory) good old new e had has does = does

-- whatever bytes the frame has
pub for_frames : {E : Type 0} (r : Result Taken E) (P Q : List ℕ → Type 0) (T : List ℕ → Taken → Type 0) → ((bytes : List ℕ) → P bytes → Q bytes → IfOk r (λ taken. T bytes taken)) →
    IfOk r (λ taken. (bytes : List ℕ) → P bytes → Q bytes → T bytes taken)
for_frames (Ok taken) P Q T h = λ bytes p q. h bytes p q
for_frames (Err e) P Q T h = tt
