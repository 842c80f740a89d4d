-- What a step makes of all places.
use Rattle.std.proofs.Common.{arith, ◌≡◌, inl, inr, ℕ, ◌+◌, ◌≤◌, nat_lt, if◌then◌else◌, ◌&&◌, ◌==◌, ℤ, Bool, true, false, List, [], ◌∷◌, Option, Some, None, unwrap_or, slice_get, slice_set, refl, sym, ap, subst, ◌∙◌}
use Rattle.ua_disco.specs.Configuration.{Configuration}
use Rattle.ua_link.specs.Reads.{Cut, total}
use Rattle.ua_link.specs.Turns.{Seen}
use Rattle.ua_link.specs.Reports.{cuts_with}
use Rattle.ua_link.specs.Connections.{Standing, Leaves, has_moved, bytes_of}
use Rattle.ua_link.specs.declared.connection.Over.{Over}
use Rattle.ua_link.specs.declared.connection.ReadyTurn.{ReadyTurn}
use Rattle.ua_link.specs.declared.ready_link.Call.{Call}
use Rattle.ua_serve.specs.declared.lingering.LingeringLink.{LingeringLink}
use Rattle.ua_serve.specs.declared.place.Place.{Place}
use Rattle.ua_serve.specs.declared.place.Seat.{Seat}
use Rattle.ua_serve.specs.declared.place.Seat.TheVariants.{Free, Taken, Lingering}
use Rattle.ua_serve.specs.declared.place.Step.{Step}
use Rattle.ua_serve.specs.declared.place.Step.TheVariants.{Quiet, Parted, NotAccepted, Failed}
use Rattle.ua_serve.specs.Places.{Crowd, HasPlace, AreNumbered, is_ready}
use Rattle.ua_serve.specs.Looks.{Look}
use Rattle.ua_serve.specs.Admission.{Admits, shut, nobody, wanting, failed, begun, Begins, IsFresh, new_place, with_place, with_one, with_failure, told_failure, may_accept, pause_left, can_accept}
use Rattle.ua_serve.proofs.PlaceLemmas.{set_cases, set_same, one_place}
use Rattle.ua_serve.specs.Turn.{Takes, Stands, counted, site_of}
use Rattle.ua_serve.specs.Steps.{Ends, lingering, freed, Keeps, Moves, GoesOn, Lasts, Fades, seat_of, StepsFrom, Steps, AllStand, IsTold, IsToldFrom, moves, told_of, is_due, is_free, seeks, IsOver}

-- ---- one turn

pub moved : {L : Type 0} (seen : L → Seen) (tried : L → Option (List Call)) (settings : Configuration) (patience : ℕ) (moment : ℤ) (asked asked' timed timed' : Option (List ℤ)) (taken p now : Place L) (turn : ReadyTurn) (over : Option Over) (seat : Seat L) →
    taken ≡ p → Takes seen tried settings patience asked asked' timed timed' taken now turn → turn.over ≡ over → Keeps seen tried moment now over seat → (ready : Bool) → ready ≡ moves (has_moved turn.cut turn.written) over →
    Moves seen tried settings patience moment asked asked' timed timed' p seat ready (told_of now over)
moved {L} seen tried settings patience moment asked asked' timed timed' taken p now turn over seat same takes is keeps ready ready_is = record {
  now = now;
  turn = turn;
  takes = subst (λ (q : Place L). Takes seen tried settings patience asked asked' timed timed' q now turn) same takes;
  keeps = subst (λ (o : Option Over). Keeps seen tried moment now o seat) (sym is) keeps;
  moves = ready_is ∙ ap (moves (has_moved turn.cut turn.written)) (sym is);
  told = ap (told_of now) (sym is);
}

total_with : (cuts : List Cut) (cut : Option Cut) → total (cuts_with cut cuts) ≡ total cuts + bytes_of cut
total_with cuts None = omega arith
total_with [] (Some cut) = omega arith
total_with (c ∷ cuts) (Some cut) = let rest : total (cuts_with (Some cut) cuts) ≡ total cuts + bytes_of (Some cut) = total_with cuts (Some cut) in omega (arith, rest)

-- a count that stood before stands behind some more
counts : (old new a b : ℕ) → old ≡ counted a → new ≡ counted (old + b) → new ≡ counted (a + b)
counts old new a b was is = omega (arith, was, is)

-- ---- a place that is taken

-- what is said of a place is said of it by what its contract says
pub due_so : {L : Type 0} (seat : Seat L) (ready ready' : Bool) (moment : ℤ) (patience : ℕ) (is_it b : Bool) → ready ≡ ready' → is_it ≡ is_due seat ready moment patience → is_it ≡ b → is_due seat ready' moment patience ≡ b
due_so seat ready ready' moment patience is_it b same due is = ap (λ r. is_due seat r moment patience) (sym same) ∙ sym due ∙ is

-- what is there is what is said to be there
there_is : {L : Type 0} (places : List (Seat L)) (place : ℕ) (seat other : Seat L) → slice_get places place ≡ Some seat → slice_get places place ≡ Some other → seat ≡ other
there_is places place seat other there has = ap (λ o. unwrap_or o seat) (sym there ∙ has)

pub rests : {L : Type 0} (seen : L → Seen) (tried : L → Option (List Call)) (asked timed : Option (List ℤ)) (old new : Crowd L) (place : ℕ) (seat : Seat L) (p : Place L) → slice_get old.places place ≡ Some seat → slice_get old.places place ≡ Some (Taken p) →
    is_due seat (is_ready old.ready place) old.moment old.patience ≡ false → new ≡ record old { places = slice_set old.places place seat } → GoesOn seen tried asked asked timed timed old new place p Quiet
rests {L} seen tried asked timed old new place seat p there has due is =
    let same : seat ≡ Taken p = there_is old.places place seat (Taken p) there has in
    inr (record {
      due = subst (λ (s : Seat L). is_due s (is_ready old.ready place) old.moment old.patience ≡ false) same due;
      asks = refl;
      times = refl;
      same = is ∙ ap (λ ps. record old { places = ps }) (set_same old.places place seat there);
      quiet = refl;
    })

pub turns : {L : Type 0} (seen : L → Seen) (tried : L → Option (List Call)) (asked asked' timed timed' : Option (List ℤ)) (old new : Crowd L) (place : ℕ) (seat after : Seat L) (ready : Bool) (step : Step) (p : Place L) → slice_get old.places place ≡ Some seat →
    slice_get old.places place ≡ Some (Taken p) → is_due seat (is_ready old.ready place) old.moment old.patience ≡ true → (seat ≡ Taken p → Moves seen tried old.settings old.patience old.moment asked asked' timed timed' p after ready step) →
    new ≡ record old { places = slice_set old.places place after; ready = slice_set old.ready place ready } → GoesOn seen tried asked asked' timed timed' old new place p step
turns {L} seen tried asked asked' timed timed' old new place seat after ready step p there has due moved is =
    let same : seat ≡ Taken p = there_is old.places place seat (Taken p) there has in
    inl (record {
      due = subst (λ (s : Seat L). is_due s (is_ready old.ready place) old.moment old.patience ≡ true) same due;
      seat = after;
      ready = ready;
      moves = moved same;
      after = is;
    })

-- ---- a place at which a link lingers

pub fades : {L : Type 0} (seen : L → Seen) (tried : L → Option (List Call)) (asked timed : Option (List ℤ)) (old new : Crowd L) (place : ℕ) (seat after : Seat L) (was ready : Bool) (l : LingeringLink L) → slice_get old.places place ≡ Some seat →
    slice_get old.places place ≡ Some (Lingering l) → was ≡ is_ready old.ready place → (seat ≡ Lingering l → Lasts seen tried old.moment was l after ready) →
    new ≡ record old { places = slice_set old.places place after; ready = slice_set old.ready place ready } → Fades seen tried asked asked timed timed old new place l Quiet
fades {L} seen tried asked timed old new place seat after was ready l there has ready_is lasts is =
    let same : seat ≡ Lingering l = there_is old.places place seat (Lingering l) there has in
    record {
      asks = refl;
      times = refl;
      seat = after;
      ready = ready;
      lasts = subst (λ (b : Bool). Lasts seen tried old.moment b l after ready) ready_is (lasts same);
      after = is;
      quiet = refl;
    }

-- ---- a place that is free

pub can : {L : Type 0} (old : Crowd L) (ticks : ℕ) → true ≡ may_accept old → ticks ≡ pause_left old → ticks ≤ 0 → can_accept old ≡ true
can old ticks may is none =
    let over : pause_left old ≡ 0 = omega (arith, is, none) in
    ap (λ b. b && (pause_left old == 0)) (sym may) ∙ ap (λ n. true && (n == 0)) over

pub at_place : {L : Type 0} (seen : L → Seen) (tried : L → Option (List Call)) (asked asked' timed timed' : Option (List ℤ)) (sought sought' : Option (List Look)) (old new : Crowd L) (place : ℕ) (step : Step) (there : Option (Seat L)) → slice_get old.places place ≡ there →
    StepsFrom there seen tried asked asked' timed timed' sought sought' old new place step → Steps seen tried asked asked' timed timed' sought sought' old new place step
at_place {L} seen tried asked asked' timed timed' sought sought' old new place step there is a = subst (λ (o : Option (Seat L)). StepsFrom o seen tried asked asked' timed timed' sought sought' old new place step) (sym is) a

-- at a free place nobody is looked for where nobody can be accepted
pub away : {L : Type 0} (old : Crowd L) (place : ℕ) → slice_get old.places place ≡ Some Free → seeks old place ≡ false → can_accept old ≡ false
away {L} old place there e = sym (ap (λ (o : Option (Seat L)). is_free o && can_accept old) there) ∙ e

-- ---- what stands stands behind a turn, or is over

pub kept_stands : {L : Type 0} (seen : L → Seen) (tried : L → Option (List Call)) (settings : Configuration) (patience : ℕ) (asked asked' timed timed' : Option (List ℤ)) (p now : Place L) (turn : ReadyTurn) → Takes seen tried settings patience asked asked' timed timed' p now turn → turn.over ≡ None →
    Stands seen settings p → Stands seen settings now
kept_stands {L} seen tried settings patience asked asked' timed timed' p now turn (inl h) none s =
    let cuts = cuts_with turn.cut s.cuts in
    let n = s.sent + turn.written in
    let stands = subst (λ (o : Option Over). Leaves (site_of settings p) 65536 now.connection cuts n s.began (seen now.link) o) none (h.leaves s.cuts s.sent s.began s.standing) in
    record {
      began = s.began;
      cuts = cuts;
      sent = n;
      standing = subst (λ (id : ℕ). Standing (record { settings = settings; channel = id }) 65536 now.connection cuts n s.began (seen now.link)) (sym h.id) stands;
      read = counts p.read now.read (total s.cuts) (bytes_of turn.cut) s.read h.read ∙ ap counted (sym (total_with s.cuts turn.cut));
      written = counts p.written now.written s.sent turn.written s.written h.written;
    }
kept_stands seen tried settings patience asked asked' timed timed' p now turn (inr g) none s = absurd (let over = ap (λ (t : ReadyTurn). t.over) g.is in cc)

over_told : {L : Type 0} (seen : L → Seen) (tried : L → Option (List Call)) (settings : Configuration) (patience : ℕ) (asked asked' timed timed' : Option (List ℤ)) (p now : Place L) (turn : ReadyTurn) (over : Over) → Takes seen tried settings patience asked asked' timed timed' p now turn →
    turn.over ≡ Some over → Stands seen settings p → IsOver seen settings p (record { id = now.id; over = over; read = now.read; written = now.written })
over_told {L} seen tried settings patience asked asked' timed timed' p now turn over (inl h) is s =
    let cuts = cuts_with turn.cut s.cuts in
    let n = s.sent + turn.written in
    record {
      id = h.id;
      began = s.began;
      cuts = cuts;
      sent = n;
      after = seen now.link;
      shown = now.connection;
      ended = inl (subst (λ (o : Option Over). Leaves (site_of settings p) 65536 now.connection cuts n s.began (seen now.link) o) is (h.leaves s.cuts s.sent s.began s.standing));
      read = counts p.read now.read (total s.cuts) (bytes_of turn.cut) s.read h.read ∙ ap counted (sym (total_with s.cuts turn.cut));
      written = counts p.written now.written s.sent turn.written s.written h.written;
    }
over_told {L} seen tried settings patience asked asked' timed timed' p now turn over (inr g) is s = record {
  id = ap (λ (q : Place L). q.id) g.place;
  began = s.began;
  cuts = s.cuts;
  sent = s.sent;
  after = seen p.link;
  shown = p.connection;
  ended = inr (ap (λ o. unwrap_or o over) (sym is ∙ ap (λ (t : ReadyTurn). t.over) g.is), s.standing, g.faults);
  read = ap (λ (q : Place L). q.read) g.place ∙ s.read;
  written = ap (λ (q : Place L). q.written) g.place ∙ s.written;
}

id_kept : {L : Type 0} (seen : L → Seen) (tried : L → Option (List Call)) (settings : Configuration) (patience : ℕ) (asked asked' timed timed' : Option (List ℤ)) (p now : Place L) (turn : ReadyTurn) → Takes seen tried settings patience asked asked' timed timed' p now turn → now.id ≡ p.id
id_kept seen tried settings patience asked asked' timed timed' p now turn (inl h) = h.id
id_kept {L} seen tried settings patience asked asked' timed timed' p now turn (inr g) = ap (λ (q : Place L). q.id) g.place

-- a connection that keeps its place goes on
ends_is : {L : Type 0} (seen : L → Seen) (tried : L → Option (List Call)) (moment : ℤ) (now q : Place L) (over : Over) (seat : Seat L) → Ends seen tried moment now over seat → seat ≡ Taken q → ⊥
ends_is seen tried moment now q over seat (lingering so link e d is) there = let no = sym is ∙ there in cc
ends_is seen tried moment now q over seat (freed so is) there = let no = sym is ∙ there in cc

kept_is : {L : Type 0} (seen : L → Seen) (tried : L → Option (List Call)) (moment : ℤ) (now q : Place L) (over : Option Over) (seat : Seat L) → Keeps seen tried moment now over seat → seat ≡ Taken q → (over ≡ None) × (now ≡ q)
kept_is seen tried moment now q None seat is there = (refl, one_place now q (sym is ∙ there))
kept_is seen tried moment now q (Some over) seat is there = absurd (ends_is seen tried moment now q over seat is there)

-- a link that lingers is no connection
fades_is : {L : Type 0} (l : LingeringLink L) (stays : Option Bool) (q : Place L) → seat_of l stays ≡ Taken q → ⊥
fades_is l None q e = cc
fades_is l (Some more) q e = cc

-- ---- all places

new_stands : {L : Type 0} (seen : L → Seen) (old : Crowd L) (link : L) (now : ℤ) → IsFresh old now → Stands seen old.settings (new_place old link now)
new_stands seen old link now fresh = record { began = seen link; cuts = []; sent = 0; standing = fresh (seen link); read = refl; written = refl }

begun_stands : {L : Type 0} (seen : L → Seen) (old new : Crowd L) (link : L) (now : ℤ) (place : ℕ) (step : Step) → Begins old new link now place step → AllStand seen old → AllStand seen new
begun_stands {L} seen old new link now place Quiet b all = subst (λ (c : Crowd L). AllStand seen c) (sym b.0) (λ k q has.
    elim (set_cases old.places place (Taken (new_place old link now)) k (Taken q) has) [
      | inl h ↦ subst (λ (p : Place L). Stands seen old.settings p) (one_place (new_place old link now) q h.1) (new_stands seen old link now b.1)
      | inr h ↦ all k q h
    ])
begun_stands {L} seen old new link now place (Parted parted) b all = subst (λ (c : Crowd L). AllStand seen c) (sym b.0) all
begun_stands seen old new link now place (NotAccepted n) b all = absurd b
begun_stands seen old new link now place Failed b all = absurd b

free_stands : {L : Type 0} (seen : L → Seen) (asked asked' timed timed' : Option (List ℤ)) (sought sought' : Option (List Look)) (old new : Crowd L) (place : ℕ) (step : Step) → Admits asked asked' timed timed' sought sought' old new place step → AllStand seen old → AllStand seen new
free_stands {L} seen asked asked' timed timed' sought sought' old new place step (shut can unasked untimed unsought is quiet) all = subst (λ (c : Crowd L). AllStand seen c) (sym is) all
free_stands {L} seen asked asked' timed timed' sought sought' old new place step (nobody can unasked untimed looks is quiet) all = subst (λ (c : Crowd L). AllStand seen c) (sym is) all
free_stands {L} seen asked asked' timed timed' sought sought' old new place step (wanting can unasked untimed looks is quiet) all = subst (λ (c : Crowd L). AllStand seen c) (sym is) all
free_stands {L} seen asked asked' timed timed' sought sought' old new place step (failed can unasked untimed looks is told) all = subst (λ (c : Crowd L). AllStand seen c) (sym is) all
free_stands seen asked asked' timed timed' sought sought' old new place step (begun can looks unasked link now asks b) all = begun_stands seen old new link now place step b all

turn_stands : {L : Type 0} (seen : L → Seen) (tried : L → Option (List Call)) (asked asked' timed timed' : Option (List ℤ)) (old new : Crowd L) (place : ℕ) (p : Place L) (step : Step) → HasPlace old place p → GoesOn seen tried asked asked' timed timed' old new place p step → AllStand seen old →
    AllStand seen new
turn_stands {L} seen tried asked asked' timed timed' old new place p step there (inl t) all = subst (λ (c : Crowd L). AllStand seen c) (sym t.after) (λ k q has.
    elim (set_cases old.places place t.seat k (Taken q) has) [
      | inl h ↦ let m = t.moves in let goes = kept_is seen tried old.moment m.now q m.turn.over t.seat m.keeps h.1 in
          subst (λ (r : Place L). Stands seen old.settings r) goes.1 (kept_stands seen tried old.settings old.patience asked asked' timed timed' p m.now m.turn m.takes goes.0 (all place p there))
      | inr h ↦ all k q h
    ])
turn_stands {L} seen tried asked asked' timed timed' old new place p step there (inr r) all = subst (λ (c : Crowd L). AllStand seen c) (sym r.same) all

fade_stands : {L : Type 0} (seen : L → Seen) (tried : L → Option (List Call)) (asked asked' timed timed' : Option (List ℤ)) (old new : Crowd L) (place : ℕ) (l : LingeringLink L) (step : Step) → Fades seen tried asked asked' timed timed' old new place l step → AllStand seen old →
    AllStand seen new
fade_stands {L} seen tried asked asked' timed timed' old new place l step f all = subst (λ (c : Crowd L). AllStand seen c) (sym f.after) (λ k q has.
    elim (set_cases old.places place f.seat k (Taken q) has) [
      | inl h ↦ let t = f.lasts in absurd (fades_is t.now t.stays q (sym t.keeps ∙ h.1))
      | inr h ↦ all k q h
    ])

stand_from : {L : Type 0} (seen : L → Seen) (tried : L → Option (List Call)) (asked asked' timed timed' : Option (List ℤ)) (sought sought' : Option (List Look)) (old new : Crowd L) (place : ℕ) (step : Step) (there : Option (Seat L)) → slice_get old.places place ≡ there →
    StepsFrom there seen tried asked asked' timed timed' sought sought' old new place step → AllStand seen old → AllStand seen new
stand_from {L} seen tried asked asked' timed timed' sought sought' old new place step None is s all = subst (λ (c : Crowd L). AllStand seen c) (sym s.same) all
stand_from seen tried asked asked' timed timed' sought sought' old new place step (Some Free) is s all = free_stands seen asked asked' timed timed' sought sought' old new place step s all
stand_from seen tried asked asked' timed timed' sought sought' old new place step (Some (Taken p)) is s all = turn_stands seen tried asked asked' timed timed' old new place p step is s all
stand_from seen tried asked asked' timed timed' sought sought' old new place step (Some (Lingering l)) is s all = fade_stands seen tried asked asked' timed timed' old new place l step s all

pub stand : {L : Type 0} (seen : L → Seen) (tried : L → Option (List Call)) (asked asked' timed timed' : Option (List ℤ)) (sought sought' : Option (List Look)) (old new : Crowd L) (place : ℕ) (step : Step) → Steps seen tried asked asked' timed timed' sought sought' old new place step → AllStand seen old → AllStand seen new
stand seen tried asked asked' timed timed' sought sought' old new place step s all = stand_from seen tried asked asked' timed timed' sought sought' old new place step (slice_get old.places place) refl s all

-- ---- what is told

failure_told : {L : Type 0} (seen : L → Seen) (old c : Crowd L) → IsToldFrom (Some Free) seen old (told_failure c)
failure_told seen old c = elim (nat_lt c.in_a_row 100) as (λ b. IsToldFrom (Some Free) seen old (if b then NotAccepted c.failed else Failed)) [ true ↦ tt | false ↦ tt ]

begun_told : {L : Type 0} (seen : L → Seen) (old new : Crowd L) (link : L) (now : ℤ) (place : ℕ) (step : Step) → Begins old new link now place step → IsToldFrom (Some Free) seen old step
begun_told seen old new link now place Quiet b = tt
begun_told seen old new link now place (Parted parted) b = b.1
begun_told seen old new link now place (NotAccepted n) b = absurd b
begun_told seen old new link now place Failed b = absurd b

free_told : {L : Type 0} (seen : L → Seen) (asked asked' timed timed' : Option (List ℤ)) (sought sought' : Option (List Look)) (old new : Crowd L) (place : ℕ) (step : Step) → Admits asked asked' timed timed' sought sought' old new place step → IsToldFrom (Some Free) seen old step
free_told seen asked asked' timed timed' sought sought' old new place step (shut can unasked untimed unsought is quiet) = subst (IsToldFrom (Some Free) seen old) (sym quiet) tt
free_told seen asked asked' timed timed' sought sought' old new place step (nobody can unasked untimed looks is quiet) = subst (IsToldFrom (Some Free) seen old) (sym quiet) tt
free_told seen asked asked' timed timed' sought sought' old new place step (wanting can unasked untimed looks is quiet) = subst (IsToldFrom (Some Free) seen old) (sym quiet) tt
free_told seen asked asked' timed timed' sought sought' old new place step (failed can unasked untimed looks is told) = subst (IsToldFrom (Some Free) seen old) (sym told) (failure_told seen old (with_failure old))
free_told seen asked asked' timed timed' sought sought' old new place step (begun can looks unasked link now asks b) = begun_told seen old new link now place step b

turn_told_by : {L : Type 0} (seen : L → Seen) (tried : L → Option (List Call)) (asked asked' timed timed' : Option (List ℤ)) (old : Crowd L) (p now : Place L) (turn : ReadyTurn) (over : Option Over) → Takes seen tried old.settings old.patience asked asked' timed timed' p now turn → turn.over ≡ over →
    Stands seen old.settings p → IsToldFrom (Some (Taken p)) seen old (told_of now over)
turn_told_by seen tried asked asked' timed timed' old p now turn None takes is s = tt
turn_told_by seen tried asked asked' timed timed' old p now turn (Some over) takes is s = over_told seen tried old.settings old.patience asked asked' timed timed' p now turn over takes is s

turn_told : {L : Type 0} (seen : L → Seen) (tried : L → Option (List Call)) (asked asked' timed timed' : Option (List ℤ)) (old new : Crowd L) (place : ℕ) (p : Place L) (step : Step) → GoesOn seen tried asked asked' timed timed' old new place p step → Stands seen old.settings p →
    IsToldFrom (Some (Taken p)) seen old step
turn_told seen tried asked asked' timed timed' old new place p step (inl t) s =
    let m = t.moves in
    subst (IsToldFrom (Some (Taken p)) seen old) (sym m.told) (turn_told_by seen tried asked asked' timed timed' old p m.now m.turn m.turn.over m.takes refl s)
turn_told seen tried asked asked' timed timed' old new place p step (inr r) s = subst (IsToldFrom (Some (Taken p)) seen old) (sym r.quiet) tt

told_from : {L : Type 0} (seen : L → Seen) (tried : L → Option (List Call)) (asked asked' timed timed' : Option (List ℤ)) (sought sought' : Option (List Look)) (old new : Crowd L) (place : ℕ) (step : Step) (there : Option (Seat L)) → slice_get old.places place ≡ there →
    StepsFrom there seen tried asked asked' timed timed' sought sought' old new place step → AllStand seen old → IsToldFrom there seen old step
told_from seen tried asked asked' timed timed' sought sought' old new place step None is s all = subst (IsToldFrom None seen old) (sym s.quiet) tt
told_from seen tried asked asked' timed timed' sought sought' old new place step (Some Free) is s all = free_told seen asked asked' timed timed' sought sought' old new place step s
told_from seen tried asked asked' timed timed' sought sought' old new place step (Some (Taken p)) is s all = turn_told seen tried asked asked' timed timed' old new place p step s (all place p is)
told_from seen tried asked asked' timed timed' sought sought' old new place step (Some (Lingering l)) is s all = subst (IsToldFrom (Some (Lingering l)) seen old) (sym s.quiet) tt

pub told : {L : Type 0} (seen : L → Seen) (tried : L → Option (List Call)) (asked asked' timed timed' : Option (List ℤ)) (sought sought' : Option (List Look)) (old new : Crowd L) (place : ℕ) (step : Step) → Steps seen tried asked asked' timed timed' sought sought' old new place step → AllStand seen old →
    IsTold seen old place step
told seen tried asked asked' timed timed' sought sought' old new place step s all = told_from seen tried asked asked' timed timed' sought sought' old new place step (slice_get old.places place) refl s all

-- ---- ids

-- a connection that has a place, and had it before, by its id
record Had {L : Type 0} (old : Crowd L) (k : ℕ) (q : Place L) : Type 0 where
  was : Place L
  there : HasPlace old k was
  id : q.id ≡ was.id

numbered_by : {L : Type 0} (old new : Crowd L) → new.last ≡ old.last → ((k : ℕ) (q : Place L) → HasPlace new k q → Had old k q) → AreNumbered old → AreNumbered new
numbered_by old new last had n = record {
  positive = λ k q has. let h = had k q has in let some = n.positive k h.was h.there in omega (arith, h.id, some);
  accepted = λ k q has. let h = had k q has in let most = n.accepted k h.was h.there in omega (arith, h.id, most, last);
  different = λ j k p q hp hq e. let a = had j p hp in let b = had k q hq in n.different j k a.was b.was a.there b.there (sym a.id ∙ e ∙ b.id);
}

numbered_same : {L : Type 0} (old new : Crowd L) → new ≡ old → AreNumbered old → AreNumbered new
numbered_same {L} old new is n = subst (λ (c : Crowd L). AreNumbered c) (sym is) n

-- one connection more, with the next id
numbered_more : {L : Type 0} (old : Crowd L) (place : ℕ) (p : Place L) → p.id ≡ old.last + 1 → AreNumbered old → AreNumbered (with_place (with_one old) place p)
numbered_more {L} old place p id n = record {
  positive = λ k q has. elim (set_cases old.places place (Taken p) k (Taken q) has) [
    | inl h ↦ let e = ap (λ (r : Place L). r.id) (one_place p q h.1) in omega (arith, e, id)
    | inr h ↦ n.positive k q h
  ];
  accepted = λ k q has. elim (set_cases old.places place (Taken p) k (Taken q) has) [
    | inl h ↦ let e = ap (λ (r : Place L). r.id) (one_place p q h.1) in omega (arith, e, id)
    | inr h ↦ let most = n.accepted k q h in omega (arith, most)
  ];
  different = λ j k q r hq hr e. elim (set_cases old.places place (Taken p) j (Taken q) hq) [
    | inl a ↦ elim (set_cases old.places place (Taken p) k (Taken r) hr) [
      | inl b ↦ a.0 ∙ sym b.0
      | inr b ↦ absurd (let i = ap (λ (s : Place L). s.id) (one_place p q a.1) in let most = n.accepted k r b in omega (arith, i, id, most, e))
    ]
    | inr a ↦ elim (set_cases old.places place (Taken p) k (Taken r) hr) [
      | inl b ↦ absurd (let i = ap (λ (s : Place L). s.id) (one_place p r b.1) in let most = n.accepted j q a in omega (arith, i, id, most, e))
      | inr b ↦ n.different j k q r a b e
    ]
  ];
}

numbered_one : {L : Type 0} (old : Crowd L) → AreNumbered old → AreNumbered (with_one old)
numbered_one old n = record {
  positive = n.positive;
  accepted = λ k q has. let most = n.accepted k q has in omega (arith, most);
  different = n.different;
}

begun_numbered : {L : Type 0} (old new : Crowd L) (link : L) (now : ℤ) (place : ℕ) (step : Step) → Begins old new link now place step → AreNumbered old → AreNumbered new
begun_numbered {L} old new link now place Quiet b n = subst (λ (c : Crowd L). AreNumbered c) (sym b.0) (numbered_more old place (new_place old link now) refl n)
begun_numbered {L} old new link now place (Parted parted) b n = subst (λ (c : Crowd L). AreNumbered c) (sym b.0) (numbered_one old n)
begun_numbered old new link now place (NotAccepted count) b n = absurd b
begun_numbered old new link now place Failed b n = absurd b

free_numbered : {L : Type 0} (asked asked' timed timed' : Option (List ℤ)) (sought sought' : Option (List Look)) (old new : Crowd L) (place : ℕ) (step : Step) → Admits asked asked' timed timed' sought sought' old new place step → AreNumbered old → AreNumbered new
free_numbered asked asked' timed timed' sought sought' old new place step (shut can unasked untimed unsought is quiet) n = numbered_same old new is n
free_numbered {L} asked asked' timed timed' sought sought' old new place step (nobody can unasked untimed looks is quiet) n = subst (λ (c : Crowd L). AreNumbered c) (sym is) (record { positive = n.positive; accepted = n.accepted; different = n.different })
free_numbered {L} asked asked' timed timed' sought sought' old new place step (wanting can unasked untimed looks is quiet) n = subst (λ (c : Crowd L). AreNumbered c) (sym is) (record { positive = n.positive; accepted = n.accepted; different = n.different })
free_numbered {L} asked asked' timed timed' sought sought' old new place step (failed can unasked untimed looks is told) n = subst (λ (c : Crowd L). AreNumbered c) (sym is) (record { positive = n.positive; accepted = n.accepted; different = n.different })
free_numbered asked asked' timed timed' sought sought' old new place step (begun can looks unasked link now asks b) n = begun_numbered old new link now place step b n

turn_numbered : {L : Type 0} (seen : L → Seen) (tried : L → Option (List Call)) (asked asked' timed timed' : Option (List ℤ)) (old new : Crowd L) (place : ℕ) (p : Place L) (step : Step) → HasPlace old place p → GoesOn seen tried asked asked' timed timed' old new place p step → AreNumbered old →
    AreNumbered new
turn_numbered {L} seen tried asked asked' timed timed' old new place p step there (inl t) n = numbered_by old new (ap (λ (c : Crowd L). c.last) t.after) (λ k q has.
    elim (set_cases old.places place t.seat k (Taken q) (ap (λ (c : Crowd L). slice_get c.places k) (sym t.after) ∙ has)) [
      | inl h ↦ let m = t.moves in let goes = kept_is seen tried old.moment m.now q m.turn.over t.seat m.keeps h.1 in
          record { was = p; there = ap (slice_get old.places) h.0 ∙ there; id = ap (λ (r : Place L). r.id) (sym goes.1) ∙ id_kept seen tried old.settings old.patience asked asked' timed timed' p m.now m.turn m.takes }
      | inr h ↦ record { was = q; there = h; id = refl }
    ]) n
turn_numbered seen tried asked asked' timed timed' old new place p step there (inr r) n = numbered_same old new r.same n

fade_numbered : {L : Type 0} (seen : L → Seen) (tried : L → Option (List Call)) (asked asked' timed timed' : Option (List ℤ)) (old new : Crowd L) (place : ℕ) (l : LingeringLink L) (step : Step) → Fades seen tried asked asked' timed timed' old new place l step → AreNumbered old →
    AreNumbered new
fade_numbered {L} seen tried asked asked' timed timed' old new place l step f n = numbered_by old new (ap (λ (c : Crowd L). c.last) f.after) (λ k q has.
    elim (set_cases old.places place f.seat k (Taken q) (ap (λ (c : Crowd L). slice_get c.places k) (sym f.after) ∙ has)) [
      | inl h ↦ let t = f.lasts in absurd (fades_is t.now t.stays q (sym t.keeps ∙ h.1))
      | inr h ↦ record { was = q; there = h; id = refl }
    ]) n

numbered_from : {L : Type 0} (seen : L → Seen) (tried : L → Option (List Call)) (asked asked' timed timed' : Option (List ℤ)) (sought sought' : Option (List Look)) (old new : Crowd L) (place : ℕ) (step : Step) (there : Option (Seat L)) → slice_get old.places place ≡ there →
    StepsFrom there seen tried asked asked' timed timed' sought sought' old new place step → AreNumbered old → AreNumbered new
numbered_from seen tried asked asked' timed timed' sought sought' old new place step None is s n = numbered_same old new s.same n
numbered_from seen tried asked asked' timed timed' sought sought' old new place step (Some Free) is s n = free_numbered asked asked' timed timed' sought sought' old new place step s n
numbered_from seen tried asked asked' timed timed' sought sought' old new place step (Some (Taken p)) is s n = turn_numbered seen tried asked asked' timed timed' old new place p step is s n
numbered_from seen tried asked asked' timed timed' sought sought' old new place step (Some (Lingering l)) is s n = fade_numbered seen tried asked asked' timed timed' old new place l step s n

pub numbered : {L : Type 0} (seen : L → Seen) (tried : L → Option (List Call)) (asked asked' timed timed' : Option (List ℤ)) (sought sought' : Option (List Look)) (old new : Crowd L) (place : ℕ) (step : Step) → Steps seen tried asked asked' timed timed' sought sought' old new place step → AreNumbered old → AreNumbered new
numbered seen tried asked asked' timed timed' sought sought' old new place step s n = numbered_from seen tried asked asked' timed timed' sought sought' old new place step (slice_get old.places place) refl s n
