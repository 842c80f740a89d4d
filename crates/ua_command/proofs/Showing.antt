-- What raw bytes and a file of packets come to, from the first bytes of an input.
use Rattle.std.proofs.Common.{◌≡◌, ◌++◌, ◌≤◌, ℕ, Bool, List, Option, Some, None, Result, Ok, Err, IfOk, not, nat_lt, length, arith, refl, subst, sym, true, false, inl, inr}
use Rattle.std.proofs.lemmas.Bool.{and_parts, le-ltb, ltb-false}
use Rattle.std.proofs.lemmas.List.{get_or_append_left, length-append}
use Rattle.std.specs.Io.KnownBytes.{Consumes}
use Rattle.ua_capture.specs.Beginning.{is_capture}
use Rattle.ua_capture.specs.Number.{big_32}
use Rattle.ua_command.specs.Answer.{IsInput}
use Rattle.ua_command.specs.Show.{IsTraceStatus, ShowsIn, ShowsFrom}
use Rattle.ua_words.specs.declared.form.Form.{Form}
use Rattle.ua_command.specs.declared.stop.Stop.{Stop}

-- ---- the first four bytes tell

first_number : (front more : List ℕ) → 4 ≤ length front → big_32 (front ++ more) 0 ≡ big_32 front 0
unfolding big_32
first_number front more le =
    rw (get_or_append_left front more 0 0 (omega arith), get_or_append_left front more 0 1 (omega arith), get_or_append_left front more 0 2 (omega arith), get_or_append_left front more 0 3 (omega arith)) refl

not_true : (b : Bool) → not b ≡ true → b ≡ false
not_true true h = sym h
not_true false h = refl

-- what begins as a file of packets does so with more behind it
first_tells : (front more : List ℕ) → is_capture front ≡ true → is_capture (front ++ more) ≡ true
first_tells front more is =
    let parts = and_parts (not (nat_lt (length front) 4)) _ is in
    let long : 4 ≤ length front = ltb-false (length front) 4 (not_true _ parts.0) in
    let longer : nat_lt (length (front ++ more)) 4 ≡ false = le-ltb (length (front ++ more)) 4 (rw (length-append front more) (omega arith)) in
    rw (longer, first_number front more long) parts.1

-- ---- what an input comes to

pub raw_shown : (form : Form) (left : Option (List ℕ)) (bytes : List ℕ) (old new told told' : Option (List ℕ)) (r : Result ℕ Stop) → IsInput left bytes → is_capture bytes ≡ false → told' ≡ told
    → IfOk r (ShowsIn form bytes old new) → IfOk r (ShowsFrom form left old new told told')
raw_shown form left bytes old new told told' (Ok status) input raw untold h = (bytes, input, inl (record { raw = raw; printed = h; untold = untold }))
raw_shown form left bytes old new told told' (Err stop) input raw untold h = h

pub packets_shown : (form : Form) (left left' : Option (List ℕ)) (front : List ℕ) (old new told told' : Option (List ℕ)) (status : ℕ) → Consumes left left' front → is_capture front ≡ true → IsTraceStatus status
    → (status ≤ 1 → told' ≡ told) → ShowsFrom form left old new told told' status
packets_shown form None left' front old new told told' status taken packets is untold = (front, tt, inr (record { packets = packets; status_is = is; untold = untold }))
packets_shown form (Some xs) None front old new told told' status taken packets is untold = absurd taken
packets_shown form (Some xs) (Some ys) front old new told told' status taken packets is untold =
    (xs, refl, inr (record { packets = subst (λ bytes. is_capture bytes ≡ true) (sym taken) (first_tells front ys packets); status_is = is; untold = untold }))
