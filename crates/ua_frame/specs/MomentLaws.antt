-- Moments of frames: what is left of a stream is known by its bytes, since a later byte completes the frame and
-- gives it its moment.
use Rattle.std.proofs.Common.{◌≡◌, ℕ, zero, suc, ◌+◌, ◌-◌, ◌<◌, ◌≤◌, ◌^◌, max, Bool, true, false, cond, ◌&&◌, List, [], ◌∷◌, ◌++◌, map, take, drop, length, refl, sym, ap, subst, ◌∙◌, nat_le, arith, inl, inr}
use Rattle.std.proofs.lemmas.List.{take_at, drop_at, take-append-le, length-take-le, length-append, length-map, take-map, drop-map}
use Rattle.std.proofs.lemmas.Bool.{cases_lt}
use Rattle.ua_frame.specs.Streams.{Piece, TimedByte, at, timed, latest, plain, size_of, IsFrame, begins_frame, cuts_within, rest_within, rest_of}
use Rattle.ua_frame.specs.StreamLaws.{length_plain, plain_append, plain_at, timed_more, begins_one, framed}
use Rattle.ua_frame.specs.Layout.{Parts, frame_bytes, frame_by, last_moment, frames_of}
use Rattle.ua_frame.specs.LayoutLaws.{frame_bytes_is, frames_step, frames_stop, frames_more}

-- ---- bytes that came at one moment

pub last_at : (r : List TimedByte) (m : ℕ) (b : List ℕ) → 0 < length b → last_moment (r ++ map (at m) b) ≡ m
last_at [] m [] h = absurd (omega (arith, h))
last_at [] m (x ∷ []) h = refl
last_at [] m (x ∷ y ∷ b) h = last_at [] m (y ∷ b) (omega arith)
last_at (r ∷ []) m [] h = absurd (omega (arith, h))
last_at (r ∷ []) m (x ∷ b) h = last_at [] m (x ∷ b) h
last_at (r ∷ q ∷ rs) m b h = last_at (q ∷ rs) m b h

pub same_frame : (s t : List TimedByte) → plain s ≡ plain t → last_moment s ≡ last_moment t → frame_by s ≡ frame_by t
same_frame s t p q = λ i. record { bytes = p i; moment = q i }

-- a frame at their front has that moment
pub at_once_step : (now : ℕ) (b : List ℕ) (z : ℕ) → z ≤ length b → IsFrame (take z b) →
    (frames_of (map (at now) b) ≡ record { bytes = take z b; moment = now } ∷ frames_of (map (at now) (drop z b))) × (rest_of (map (at now) b) ≡ rest_of (map (at now) (drop z b)))
at_once_step now b z le is =
    let h = frames_step (map (at now) b) z (subst (λ l. IsFrame (take z l)) (sym (plain_at now b)) is) in
    let tail : drop z (map (at now) b) ≡ map (at now) (drop z b) = drop-map (at now) z b in
    let head : frame_by (take z (map (at now) b)) ≡ record { bytes = take z b; moment = now } =
    ap frame_by (take-map (at now) z b)
    ∙ (λ i. record { bytes = plain_at now (take z b) i; moment = last_at [] now (take z b) (omega (arith, is.header)) i }) in
    (h.0 ∙ (λ i. head i ∷ frames_of (tail i)), h.1 ∙ ap rest_of tail)

pub at_once_stop : (now : ℕ) (b : List ℕ) → ((n : ℕ) → n ≤ length b → IsFrame (take n b) → ⊥) →
    (frames_of (map (at now) b) ≡ []) × (plain (rest_of (map (at now) b)) ≡ b)
at_once_stop now b none =
    let h = frames_stop (map (at now) b) (subst (λ l. (n : ℕ) → n ≤ length l → IsFrame (take n l) → ⊥) (sym (plain_at now b)) none) in
    (h.0, ap plain h.1 ∙ plain_at now b)

-- a frame that is written, and what is written behind it, as they come at one moment
pub at_once_written : (now : ℕ) (f : Parts) (more : List ℕ) → 8 + length f.fields < 2 ^ 32 →
    (frames_of (map (at now) (frame_bytes f ++ more)) ≡ record { bytes = frame_bytes f; moment = now } ∷ frames_of (map (at now) more)) × (rest_of (map (at now) (frame_bytes f ++ more)) ≡ rest_of (map (at now) more))
at_once_written now f more lt =
    let a = frame_bytes f in
    let front : take (length a) (a ++ more) ≡ a = take_at a more (length a) refl in
    let behind : drop (length a) (a ++ more) ≡ more = drop_at a more (length a) refl in
    let h = at_once_step now (a ++ more) (length a) (omega (arith, length-append a more)) (subst IsFrame (sym front) (frame_bytes_is f lt).there) in
    (h.0 ∙ (λ i. record { bytes = front i; moment = now } ∷ frames_of (map (at now) (behind i))), h.1 ∙ (λ i. rest_of (map (at now) (behind i))))

-- ---- what is left, and bytes that complete it

drop_past : {A : Type 0} (xs ys : List A) (z k : ℕ) → z ≡ length xs + k → drop z (xs ++ ys) ≡ drop k ys
drop_past [] ys z k e = ap (λ n. drop n ys) (omega (arith, e))
drop_past (x ∷ xs) ys zero k e = absurd (omega (arith, e))
drop_past (x ∷ xs) ys (suc z) k e = drop_past xs ys z k (omega (arith, e))

take_past : {A : Type 0} (xs ys : List A) (z k : ℕ) → z ≡ length xs + k → take z (xs ++ ys) ≡ xs ++ take k ys
take_past [] ys z k e = ap (λ n. take n ys) (omega (arith, e))
take_past (x ∷ xs) ys zero k e = absurd (omega (arith, e))
take_past (x ∷ xs) ys (suc z) k e = ap (λ l. x ∷ l) (take_past xs ys z k (omega (arith, e)))

suc_case : (b : Bool) (n : ℕ) (s t : List TimedByte) (z : ℕ) → (b ≡ true → (frame_by (take z s) ≡ frame_by (take z t)) × (drop z s ≡ drop z t)) → plain s ≡ plain t →
    (map frame_by (cond b (take z s ∷ cuts_within n (drop z s)) []) ≡ map frame_by (cond b (take z t ∷ cuts_within n (drop z t)) []))
    × (plain (cond b (rest_within n (drop z s)) s) ≡ plain (cond b (rest_within n (drop z t)) t))
suc_case true n s t z h e = let p = h refl in ((λ i. p.0 i ∷ map frame_by (cuts_within n (p.1 i))), (λ i. plain (rest_within n (p.1 i))))
suc_case false n s t z h e = (refl, e)

same_length : (s t : List TimedByte) → plain s ≡ plain t → length s ≡ length t
same_length s t e = sym (length_plain s) ∙ ap length e ∙ length_plain t

-- streams of the same bytes, of which the first frames are alike and what is behind them is equal
retimed : (n : ℕ) (s t : List TimedByte) → plain s ≡ plain t →
    (begins_frame s ≡ true → (frame_by (take (size_of (plain s)) s) ≡ frame_by (take (size_of (plain s)) t)) × (drop (size_of (plain s)) s ≡ drop (size_of (plain s)) t)) →
    (map frame_by (cuts_within n s) ≡ map frame_by (cuts_within n t)) × (plain (rest_within n s) ≡ plain (rest_within n t))
unfolding cuts_within rest_within
retimed zero s t e h = (refl, e)
retimed (suc n) s t e h =
    let P : List ℕ → ℕ → Type 0 = λ bytes len.
    (map frame_by (cond (begins_frame s) (take (size_of (plain s)) s ∷ cuts_within n (drop (size_of (plain s)) s)) []) ≡ map frame_by (cond (nat_le 8 (size_of bytes) && nat_le (size_of bytes) len) (take (size_of bytes) t ∷ cuts_within n (drop (size_of bytes) t)) []))
    × (plain (cond (begins_frame s) (rest_within n (drop (size_of (plain s)) s)) s) ≡ plain (cond (nat_le 8 (size_of bytes) && nat_le (size_of bytes) len) (rest_within n (drop (size_of bytes) t)) t)) in
    subst (λ bytes. P bytes (length t)) e (subst (λ len. P (plain s) len) (same_length s t e) (suc_case (begins_frame s) n s t (size_of (plain s)) h e))

-- no beginning of r is a frame, so the first frame ends behind it
ends_behind : (r t : List TimedByte) → ((n : ℕ) → n ≤ length r → IsFrame (plain (take n r)) → ⊥) → begins_frame (r ++ t) ≡ true → length r < size_of (plain (r ++ t))
ends_behind r t p h =
    let f = begins_one (r ++ t) h in
    let z = size_of (plain (r ++ t)) in
    elim (cases_lt (length r) z) [
      | inl lt ↦ lt
      | inr le ↦ absurd (p z le (subst (λ l. IsFrame (plain l)) (take-append-le z r t le) f.0))
    ]

bytes_alike : (r : List TimedByte) (m : ℕ) (b : List ℕ) → plain (r ++ map (at m) b) ≡ plain (map (at m) (plain r ++ b))
bytes_alike r m b = plain_append r (map (at m) b) ∙ ap (λ l. plain r ++ l) (plain_at m b) ∙ sym (plain_at m (plain r ++ b))

frame_alike : (r : List TimedByte) (m : ℕ) (b : List ℕ) → 0 < length b → frame_by (r ++ map (at m) b) ≡ frame_by (map (at m) (plain r ++ b))
frame_alike r m b h = same_frame _ _ (bytes_alike r m b) (last_at r m b h ∙ sym (last_at [] m (plain r ++ b) (omega (arith, h, length-append (plain r) b))))

first_alike : (r : List TimedByte) (m : ℕ) (b : List ℕ) (z k : ℕ) → z ≡ length r + k → 0 < k → k ≤ length b →
    (frame_by (take z (r ++ map (at m) b)) ≡ frame_by (take z (map (at m) (plain r ++ b)))) × (drop z (r ++ map (at m) b) ≡ drop z (map (at m) (plain r ++ b)))
first_alike r m b z k e pos le =
    let e' : z ≡ length (plain r) + k = omega (arith, e, length_plain r) in (
      ap frame_by (take_past r (map (at m) b) z k e ∙ ap (λ l. r ++ l) (take-map (at m) k b))
          ∙ frame_alike r m (take k b) (omega (arith, pos, length-take-le k b le))
          ∙ ap frame_by (sym (take-map (at m) z (plain r ++ b) ∙ ap (map (at m)) (take_past (plain r) b z k e'))),
      drop_past r (map (at m) b) z k e ∙ drop-map (at m) k b
          ∙ sym (drop-map (at m) z (plain r ++ b) ∙ ap (map (at m)) (drop_past (plain r) b z k e')),
    )

-- bytes behind a rest make the same frames as if the rest had come with them
pub rest_retimed : (r : List TimedByte) (m : ℕ) (b : List ℕ) → ((n : ℕ) → n ≤ length r → IsFrame (plain (take n r)) → ⊥) →
    (frames_of (r ++ map (at m) b) ≡ frames_of (map (at m) (plain r ++ b))) × (plain (rest_of (r ++ map (at m) b)) ≡ plain (rest_of (map (at m) (plain r ++ b))))
rest_retimed r m b p =
    let s = r ++ map (at m) b in
    let t = map (at m) (plain r ++ b) in
    let heads : begins_frame s ≡ true → (frame_by (take (size_of (plain s)) s) ≡ frame_by (take (size_of (plain s)) t)) × (drop (size_of (plain s)) s ≡ drop (size_of (plain s)) t) =
    λ h. (let lt = ends_behind r (map (at m) b) p h in let f = begins_one s h in
    first_alike r m b (size_of (plain s)) (size_of (plain s) - length r) (omega (arith, lt)) (omega (arith, lt))
    (omega (arith, lt, f.2, length-append r (map (at m) b), length-map b (at m)))) in
    let P : ℕ → Type 0 = λ n. (map frame_by (cuts_within (length s) s) ≡ map frame_by (cuts_within n t)) × (plain (rest_within (length s) s) ≡ plain (rest_within n t)) in
    subst P (same_length s t (bytes_alike r m b)) (retimed (length s) s t (bytes_alike r m b) heads)

-- One piece more: the frames that it completes are those of its bytes behind the bytes that were left, at its moment.
pub one_piece_more : (ps : List Piece) (x : Piece) →
    (let left = plain (rest_of (timed ps)) ++ x.bytes in let now = max (latest ps) x.moment in
    (frames_of (timed (ps ++ x ∷ [])) ≡ frames_of (timed ps) ++ frames_of (map (at now) left))
    × (plain (rest_of (timed (ps ++ x ∷ []))) ≡ plain (rest_of (map (at now) left))))
one_piece_more ps x =
    let now = max (latest ps) x.moment in
    let more = timed_more 0 ps x in
    let h = frames_more (timed ps) (map (at now) x.bytes) in
    let k = rest_retimed (rest_of (timed ps)) now x.bytes (framed (timed ps)).partial in (
      ap frames_of more ∙ h.0 ∙ ap (λ fs. frames_of (timed ps) ++ fs) k.0,
      ap (λ s. plain (rest_of s)) more ∙ ap plain h.1 ∙ k.1,
    )
