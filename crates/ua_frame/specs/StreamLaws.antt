-- A stream is one list of frames and one rest.
use Rattle.std.proofs.Common.{◌≡◌, ℕ, zero, suc, ◌<◌, ◌≤◌, max, Bool, true, false, cond, ◌&&◌, List, [], ◌∷◌, ◌++◌, map, take, drop, length, refl, sym, ap, subst, ◌∙◌, append_assoc, nat_le, arith}
use Rattle.std.proofs.lemmas.List.{append-nil, take_at, drop_at, take-append-le, take-append-drop, take-take, drop-take, length-take, length-take-le, length-drop, length-append, length-map, map-append, take-map, drop-map}
use Rattle.std.proofs.lemmas.List.Concat.{flat_map-append}
use Rattle.std.proofs.lemmas.Bool.{leb-true, le-leb}
use Rattle.std.specs.Int.{w32, from_le_bytes}
use Rattle.std.specs.List.{flat_map, AllByRecursion}
use Rattle.ua_frame.specs.Streams.{Piece, TimedByte, at, timed_since, latest_since, plain, size_of, IsFrame, Framed, begins_frame, cuts_within, rest_within, cuts_of, rest_of}

abbrev pub Cuts : Type 0
Cuts = List (List TimedByte)

abbrev pub all_of : Cuts → List TimedByte
all_of fs = flat_map (λ f. f) fs

-- ---- one piece more

pub timed_more : (since : ℕ) (ps : List Piece) (x : Piece) → timed_since since (ps ++ x ∷ []) ≡ timed_since since ps ++ map (at (max (latest_since since ps) x.moment)) x.bytes
timed_more since [] x = append-nil _
timed_more since (p ∷ ps) x =
    ap (λ s. map (at (max since p.moment)) p.bytes ++ s) (timed_more (max since p.moment) ps x)
    ∙ sym (append_assoc (map (at (max since p.moment)) p.bytes) _ _)

pub timed_append : (since : ℕ) (ps qs : List Piece) → timed_since since (ps ++ qs) ≡ timed_since since ps ++ timed_since (latest_since since ps) qs
timed_append since [] qs = refl
timed_append since (p ∷ ps) qs =
    ap (λ s. map (at (max since p.moment)) p.bytes ++ s) (timed_append (max since p.moment) ps qs)
    ∙ sym (append_assoc (map (at (max since p.moment)) p.bytes) _ _)

pub latest_more : (since : ℕ) (ps : List Piece) (x : Piece) → latest_since since (ps ++ x ∷ []) ≡ max (latest_since since ps) x.moment
latest_more since [] x = refl
latest_more since (p ∷ ps) x = latest_more (max since p.moment) ps x

-- ---- the bytes alone

pub length_plain : (s : List TimedByte) → length (plain s) ≡ length s
length_plain s = length-map s _

pub plain_append : (a b : List TimedByte) → plain (a ++ b) ≡ plain a ++ plain b
plain_append a b = map-append _ a b

pub plain_take : (n : ℕ) (s : List TimedByte) → plain (take n s) ≡ take n (plain s)
plain_take n s = sym (take-map _ n s)

pub plain_drop : (n : ℕ) (s : List TimedByte) → plain (drop n s) ≡ drop n (plain s)
plain_drop n s = sym (drop-map _ n s)

pub plain_at : (moment : ℕ) (bytes : List ℕ) → plain (map (at moment) bytes) ≡ bytes
plain_at moment [] = refl
plain_at moment (b ∷ bytes) = ap (λ l. b ∷ l) (plain_at moment bytes)

-- ---- the header is the first 8 bytes

pub size_by_header : (a b : List ℕ) → take 8 a ≡ take 8 b → size_of a ≡ size_of b
unfolding size_of
size_by_header a b e = ap (from_le_bytes w32) (sym (drop-take 4 4 a) ∙ ap (drop 4) e ∙ drop-take 4 4 b)

pub size_take : (n : ℕ) (bytes : List ℕ) → 8 ≤ n → size_of (take n bytes) ≡ size_of bytes
size_take n bytes le = size_by_header (take n bytes) bytes (take-take 8 n bytes le)

pub size_append : (bytes more : List ℕ) → 8 ≤ length bytes → size_of (bytes ++ more) ≡ size_of bytes
size_append bytes more le = size_by_header (bytes ++ more) bytes (take-append-le 8 bytes more le)

size_plain : (a b : List TimedByte) → 8 ≤ length a → size_of (plain (a ++ b)) ≡ size_of (plain a)
size_plain a b h = ap size_of (plain_append a b) ∙ size_append (plain a) (plain b) (omega (arith, length_plain a))

size_of_frame : (f t : List TimedByte) → IsFrame (plain f) → size_of (plain (f ++ t)) ≡ length f
size_of_frame f t h = size_plain f t (omega (arith, h.header, length_plain f)) ∙ h.whole ∙ length_plain f

-- ---- what stands at the front of some bytes

pub front_is_frame : (bytes : List ℕ) → 8 ≤ size_of bytes → size_of bytes ≤ length bytes → IsFrame (take (size_of bytes) bytes)
front_is_frame bytes lo hi = record {
  header = omega (arith, length-take (size_of bytes) bytes);
  whole = size_take (size_of bytes) bytes lo ∙ omega (arith, length-take (size_of bytes) bytes);
}

-- a frame at the front is as long as the size field there
pub frame_size : (n : ℕ) (bytes : List ℕ) → n ≤ length bytes → IsFrame (take n bytes) → (8 ≤ n) × (size_of bytes ≡ n)
frame_size n bytes le f =
    let lo : 8 ≤ n = omega (arith, f.header, length-take n bytes) in
    (lo, sym (size_take n bytes lo) ∙ f.whole ∙ length-take-le n bytes le)

pub short_has_none : (n : ℕ) (bytes : List ℕ) → length bytes < 8 → n ≤ length bytes → IsFrame (take n bytes) → ⊥
short_has_none n bytes lt le f = let s = frame_size n bytes le f in omega (arith, s.0)

pub cut_has_none : (n : ℕ) (bytes : List ℕ) → length bytes < size_of bytes → n ≤ length bytes → IsFrame (take n bytes) → ⊥
cut_has_none n bytes lt le f = let s = frame_size n bytes le f in omega (arith, s.1)

-- ---- two readings of one stream are one

pub one_reading : (fs gs : Cuts) (r q : List TimedByte) → AllByRecursion (λ f. IsFrame (plain f)) fs → AllByRecursion (λ f. IsFrame (plain f)) gs →
    ((n : ℕ) → n ≤ length r → IsFrame (plain (take n r)) → ⊥) → ((n : ℕ) → n ≤ length q → IsFrame (plain (take n q)) → ⊥) →
    all_of fs ++ r ≡ all_of gs ++ q → (fs ≡ gs) × (r ≡ q)
one_reading [] [] r q hf hg pr pq e = (refl, e)
one_reading [] (g ∷ gs) r q hf hg pr pq e =
    let e' : r ≡ g ++ (all_of gs ++ q) = e ∙ append_assoc g (all_of gs) q in
    absurd (pr (length g) (omega (arith, ap length e', length-append g (all_of gs ++ q)))
    (subst (λ (s : List TimedByte). IsFrame (plain s)) (sym (ap (take (length g)) e' ∙ take_at g (all_of gs ++ q) (length g) refl)) hg.0))
one_reading (f ∷ fs) [] r q hf hg pr pq e =
    let e' : q ≡ f ++ (all_of fs ++ r) = sym e ∙ append_assoc f (all_of fs) r in
    absurd (pq (length f) (omega (arith, ap length e', length-append f (all_of fs ++ r)))
    (subst (λ (s : List TimedByte). IsFrame (plain s)) (sym (ap (take (length f)) e' ∙ take_at f (all_of fs ++ r) (length f) refl)) hf.0))
one_reading (f ∷ fs) (g ∷ gs) r q hf hg pr pq e =
    let e' : f ++ (all_of fs ++ r) ≡ g ++ (all_of gs ++ q) = sym (append_assoc f (all_of fs) r) ∙ e ∙ append_assoc g (all_of gs) q in
    let same : length f ≡ length g = sym (size_of_frame f _ hf.0) ∙ ap (λ s. size_of (plain s)) e' ∙ size_of_frame g _ hg.0 in
    let heads : f ≡ g = sym (take_at f (all_of fs ++ r) (length f) refl) ∙ ap (take (length f)) e' ∙ take_at g (all_of gs ++ q) (length f) (sym same) in
    let tails : all_of fs ++ r ≡ all_of gs ++ q = sym (drop_at f (all_of fs ++ r) (length f) refl) ∙ ap (drop (length f)) e' ∙ drop_at g (all_of gs ++ q) (length f) (sym same) in
    let rec : (fs ≡ gs) × (r ≡ q) = one_reading fs gs r q hf.1 hg.1 pr pq tails in
    ((λ i. heads i ∷ rec.0 i), rec.1)

pub framed_once : (s : List TimedByte) (fs gs : Cuts) (r q : List TimedByte) → Framed s fs r → Framed s gs q → (fs ≡ gs) × (r ≡ q)
framed_once s fs gs r q h k = one_reading fs gs r q h.each k.each h.partial k.partial (sym h.whole ∙ k.whole)

-- ---- the functions find it

and_true : (a b : Bool) → (a && b) ≡ true → (a ≡ true) × (b ≡ true)
and_true true b h = (refl, h)
and_true false b h = absurd (cc)

pub begins_none : (s : List TimedByte) → begins_frame s ≡ false → (n : ℕ) → n ≤ length s → IsFrame (plain (take n s)) → ⊥
begins_none s h n l k =
    let size = frame_size n (plain s) (omega (arith, l, length_plain s)) (subst IsFrame (plain_take n s) k) in
    let yes : begins_frame s ≡ true = ap (λ m. nat_le 8 m && nat_le m (length s)) size.1 ∙ (λ i. le-leb 8 n size.0 i && le-leb n (length s) l i) in
    absurd (let e : true ≡ false = sym yes ∙ h in cc)

pub begins_one : (s : List TimedByte) → begins_frame s ≡ true → IsFrame (plain (take (size_of (plain s)) s)) × (8 ≤ size_of (plain s)) × (size_of (plain s) ≤ length s)
begins_one s h =
    let b = and_true _ _ h in
    let low : 8 ≤ size_of (plain s) = leb-true 8 _ b.0 in
    let high : size_of (plain s) ≤ length s = leb-true _ _ b.1 in
    (subst IsFrame (sym (plain_take (size_of (plain s)) s)) (front_is_frame (plain s) low (omega (arith, high, length_plain s))), low, high)

framed_cases : (b : Bool) (s : List TimedByte) → begins_frame s ≡ b → (fs : Cuts) (r : List TimedByte) → (begins_frame s ≡ true → Framed (drop (size_of (plain s)) s) fs r) →
    Framed s (cond b (take (size_of (plain s)) s ∷ fs) []) (cond b r s)
framed_cases true s h fs r k =
    let d = k h in
    record {
      whole = sym (take-append-drop (size_of (plain s)) s) ∙ ap (λ t. take (size_of (plain s)) s ++ t) d.whole ∙ sym (append_assoc (take (size_of (plain s)) s) (all_of fs) r);
      each = ((begins_one s h).0, d.each);
      partial = d.partial;
    }
framed_cases false s h fs r k = record { whole = refl; each = tt; partial = begins_none s h }

framed_within : (n : ℕ) (s : List TimedByte) → length s ≤ n → Framed s (cuts_within n s) (rest_within n s)
unfolding cuts_within rest_within
framed_within zero [] l = record { whole = refl; each = tt; partial = λ n k f. short_has_none n [] (omega arith) k (subst IsFrame (plain_take n []) f) }
framed_within zero (b ∷ s) l = absurd (omega (arith, l))
framed_within (suc n) s l = framed_cases (begins_frame s) s refl (cuts_within n (drop (size_of (plain s)) s)) (rest_within n (drop (size_of (plain s)) s))
    (λ h. framed_within n (drop (size_of (plain s)) s) (let d = begins_one s h in omega (arith, l, d.1, d.2, length-drop (size_of (plain s)) s)))

pub framed : (s : List TimedByte) → Framed s (cuts_of s) (rest_of s)
framed s = framed_within (length s) s (omega arith)

-- ---- a frame at the front, no frame, and bytes that come later

-- a frame, and then the frames and the rest of what follows it
pub framed_step : (s : List TimedByte) (n : ℕ) → IsFrame (plain (take n s)) → (cuts_of s ≡ take n s ∷ cuts_of (drop n s)) × (rest_of s ≡ rest_of (drop n s))
framed_step s n is =
    let k = framed (drop n s) in
    framed_once s _ _ _ _ (framed s) (record {
      whole = sym (take-append-drop n s) ∙ ap (λ t. take n s ++ t) k.whole ∙ sym (append_assoc (take n s) (all_of (cuts_of (drop n s))) (rest_of (drop n s)));
      each = (is, k.each);
      partial = k.partial;
    })

-- where no beginning is a frame, all is rest
pub framed_stop : (s : List TimedByte) → ((n : ℕ) → n ≤ length s → IsFrame (plain (take n s)) → ⊥) → (cuts_of s ≡ []) × (rest_of s ≡ s)
framed_stop s h = framed_once s _ _ _ _ (framed s) (record { whole = refl; each = tt; partial = h })

each_append : (fs gs : Cuts) → AllByRecursion (λ f. IsFrame (plain f)) fs → AllByRecursion (λ f. IsFrame (plain f)) gs → AllByRecursion (λ f. IsFrame (plain f)) (fs ++ gs)
each_append [] gs h k = k
each_append (f ∷ fs) gs h k = (h.0, each_append fs gs h.1 k)

-- what comes after s is read behind what s left
pub framed_more : (s t : List TimedByte) → (cuts_of (s ++ t) ≡ cuts_of s ++ cuts_of (rest_of s ++ t)) × (rest_of (s ++ t) ≡ rest_of (rest_of s ++ t))
framed_more s t =
    let a = framed s in
    let b = framed (rest_of s ++ t) in
    framed_once (s ++ t) _ _ _ _ (framed (s ++ t)) (record {
      whole = ap (λ u. u ++ t) a.whole ∙ append_assoc (all_of (cuts_of s)) (rest_of s) t ∙ ap (λ u. all_of (cuts_of s) ++ u) b.whole
          ∙ sym (append_assoc (all_of (cuts_of s)) (all_of (cuts_of (rest_of s ++ t))) (rest_of (rest_of s ++ t)))
          ∙ ap (λ u. u ++ rest_of (rest_of s ++ t)) (sym (flat_map-append (λ f. f) (cuts_of s) (cuts_of (rest_of s ++ t))));
      each = each_append _ _ a.each b.each;
      partial = b.partial;
    })

-- what is left has no frame to give
pub framed_rest : (s : List TimedByte) → (cuts_of (rest_of s) ≡ []) × (rest_of (rest_of s) ≡ rest_of s)
framed_rest s = let h = framed s in framed_stop (rest_of s) h.partial
