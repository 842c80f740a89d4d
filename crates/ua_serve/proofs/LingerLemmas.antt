-- Links that linger.
use Rattle.std.proofs.Common.{◌≡◌, ℕ, ℤ, Bool, false, List, [], ◌∷◌, Option, Result, unwrap_or, sym, ap, subst, ◌∙◌}
use Rattle.ua_link.specs.Link.{Counts}
use Rattle.ua_link.specs.ReadyLink.{ReadsNow, Tries}
use Rattle.ua_link.specs.Turns.{Seen}
use Rattle.ua_link.specs.declared.link.LinkFault.{LinkFault}
use Rattle.ua_link.specs.declared.ready_link.Call.{Call}
use Rattle.ua_link.specs.declared.ready_link.Call.TheVariants.{Read}
use Rattle.ua_serve.specs.declared.lingering.LingeringLink.{LingeringLink}
use Rattle.ua_serve.specs.declared.place.Seat.{Seat}
use Rattle.ua_serve.specs.declared.place.Seat.TheVariants.{Free, Taken, Lingering}
use Rattle.ua_serve.specs.Turn.{seen_by}
use Rattle.ua_serve.specs.Lingering.{dropped_by, stays_by, Drains, Lingers}
use Rattle.ua_serve.specs.Steps.{Lasts, seat_of}

-- a read, by what came of it
pub drains : {L : Type 0} (seen : L → Seen) (tried : L → Option (List Call)) (old new : LingeringLink L) (came is : Result (Option ℕ) LinkFault) (room : List ℕ) (more : Option Bool) →
    ReadsNow (seen old.link).input (seen new.link).input came room → Tries (tried old.link) (tried new.link) (Read ∷ []) → (seen new.link).output ≡ (seen old.link).output → Counts came (seen old.link).faults (seen new.link).faults →
    new.begun ≡ old.begun → came ≡ is → new.dropped ≡ dropped_by is old.dropped → more ≡ stays_by is new.dropped → Drains seen tried old new more
drains seen tried old new came is room more reads tries silent counts begun e dropped stays = record {
  came = came;
  room = room;
  reads = reads;
  tries = tries;
  silent = silent;
  counts = counts;
  begun = begun;
  dropped = dropped ∙ ap (λ r. dropped_by r old.dropped) (sym e);
  stays = stays ∙ ap (λ r. stays_by r new.dropped) (sym e);
}

-- what contracts see of a link that was told that no more bytes come
pub same_seen : {L : Type 0} (input output : L → Option (List ℕ)) (faults : L → ℕ) (l m : L) → input m ≡ input l → output m ≡ output l → faults m ≡ faults l → seen_by input output faults m ≡ seen_by input output faults l
same_seen input output faults l m i o f =
    ap (λ x. let s : Seen = record { input = x; output = output m; faults = faults m } in s) i
    ∙ ap (λ x. let s : Seen = record { input = input l; output = x; faults = faults m } in s) o
    ∙ ap (λ x. let s : Seen = record { input = input l; output = output l; faults = x } in s) f

-- the link that lingers at a place
abbrev link_in : {L : Type 0} → Seat L → LingeringLink L → LingeringLink L
link_in Free l = l
link_in (Taken p) l = l
link_in (Lingering m) l = m

pub one_link : {L : Type 0} (l m : LingeringLink L) → Lingering l ≡ Lingering m → l ≡ m
one_link l m e = ap (λ s. link_in s l) e

pub lasts : {L : Type 0} (seen : L → Seen) (tried : L → Option (List Call)) (moment : ℤ) (was : Bool) (link l now : LingeringLink L) (stays is : Option Bool) → link ≡ l → Lingers seen tried moment was link now stays → stays ≡ is →
    Lasts seen tried moment was l (seat_of now is) (unwrap_or is false)
lasts {L} seen tried moment was link l now stays is same lingers e = record {
  now = now;
  stays = stays;
  lingers = subst (λ (m : LingeringLink L). Lingers seen tried moment was m now stays) same lingers;
  keeps = ap (seat_of now) (sym e);
  more = ap (λ o. unwrap_or o false) (sym e);
}
