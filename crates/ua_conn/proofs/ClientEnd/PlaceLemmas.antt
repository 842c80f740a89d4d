-- Places of frames in a stream: those of what came, and those of what comes later.
use Rattle.std.proofs.Common.{◌≡◌, ℕ, ◌+◌, ◌<◌, ◌≤◌, Bool, true, false, cond, List, [], ◌∷◌, ◌++◌, map, take, length, refl, sym, ap, subst, ◌∙◌, arith, append_assoc, nat_le, ◌⊎◌, inl, inr}
use Rattle.std.specs.List.{flat_map, AllByRecursion}
use Rattle.std.proofs.lemmas.List.{take_at, take-append-le, length-append}
use Rattle.std.proofs.lemmas.Bool.{leb-true, cases_lt}
use Rattle.ua_frame.specs.Streams.{TimedByte, plain, IsFrame, cuts_of, rest_of}
use Rattle.ua_frame.specs.StreamLaws.{framed, length_plain}
use Rattle.ua_frame.specs.Layout.{Frame, frame_by, frames_of}
use Rattle.ua_conn.specs.Past.{Past}
use Rattle.ua_conn.specs.server.Held.{newest_first}
use Rattle.ua_conn.specs.client.Pending.{bytes_in, come_by}
use Rattle.ua_conn.specs.BothEnds.{AllAfter}

-- each frame ends behind the place n, or not behind it
abbrev pub AllBehind : ℕ → Past → List Frame → Type 0
AllBehind n = AllAfter (λ past f. n < bytes_in (f ∷ past))

abbrev pub AllWithin : ℕ → Past → List Frame → Type 0
AllWithin n = AllAfter (λ past f. bytes_in (f ∷ past) ≤ n)

later_behind : (n : ℕ) (past : Past) (fs : List Frame) → n < bytes_in past → AllBehind n past fs
later_behind n past [] h = tt
later_behind n past (f ∷ fs) h = (omega (arith, h), later_behind n (f ∷ past) fs (omega (arith, h)))

-- where the first does, all do
pub all_behind : (n : ℕ) (past : Past) (f : Frame) (fs : List Frame) → n < bytes_in (f ∷ past) → AllBehind n past (f ∷ fs)
all_behind n past f fs h = (h, later_behind n (f ∷ past) fs h)

-- ---- the frames of a stream

pub bytes_of_cuts : (cuts : List (List TimedByte)) (past : Past) → bytes_in (newest_first (map frame_by cuts) past) ≡ bytes_in past + length (flat_map (λ f. f) cuts)
bytes_of_cuts [] past = omega arith
bytes_of_cuts (c ∷ cuts) past = omega (arith, bytes_of_cuts cuts (frame_by c ∷ past), length_plain c, length-append c (flat_map (λ f. f) cuts))

-- they and the rest are all of it
pub bytes_of_frames : (s : List TimedByte) → bytes_in (newest_first (frames_of s) []) + length (rest_of s) ≡ length s
bytes_of_frames s =
    let h = framed s in
    omega (arith, bytes_of_cuts (cuts_of s) [], ap length h.whole, length-append (flat_map (λ f. f) (cuts_of s)) (rest_of s))

pub grows : (fs : List Frame) (past : Past) → bytes_in past ≤ bytes_in (newest_first fs past)
grows [] past = omega arith
grows (f ∷ fs) past = omega (arith, grows fs (f ∷ past))

within : (n : ℕ) (past : Past) (fs : List Frame) → bytes_in (newest_first fs past) ≤ n → AllWithin n past fs
within n past [] h = tt
within n past (f ∷ fs) h = (omega (arith, h, grows fs (f ∷ past)), within n (f ∷ past) fs h)

pub frames_within : (s : List TimedByte) → AllWithin (length s) [] (frames_of s)
frames_within s = within (length s) [] (frames_of s) (omega (arith, bytes_of_frames s))

-- The first frame that bytes behind a rest make whole is longer than the rest, in which no frame begins.
first_longer : (s t : List TimedByte) (cuts : List (List TimedByte)) (c : List TimedByte) → cuts_of (rest_of s ++ t) ≡ c ∷ cuts → length (rest_of s) < length c
first_longer s t cuts c e = by (cases_lt (length (rest_of s)) (length c))
  where
    h : (u : List TimedByte) × (rest_of s ++ t ≡ c ++ u) × IsFrame (plain c)
    h = let f = framed (rest_of s ++ t) in
        let each : AllByRecursion (λ f. IsFrame (plain f)) (c ∷ cuts) = subst (λ fs. AllByRecursion (λ f. IsFrame (plain f)) fs) e f.each in (
          flat_map (λ f. f) cuts ++ rest_of (rest_of s ++ t),
          f.whole ∙ ap (λ fs. flat_map (λ f. f) fs ++ rest_of (rest_of s ++ t)) e ∙ append_assoc c (flat_map (λ f. f) cuts) (rest_of (rest_of s ++ t)),
          each.0,
        )

    by : (length (rest_of s) < length c) ⊎ (length c ≤ length (rest_of s)) → length (rest_of s) < length c
    by (inl lt) = lt
    by (inr le) =
        let front : take (length c) (rest_of s) ≡ c = sym (take-append-le (length c) (rest_of s) t le) ∙ ap (take (length c)) h.1 ∙ take_at c h.0 (length c) refl in
        absurd ((framed s).partial (length c) le (subst (λ b. IsFrame (plain b)) (sym front) h.2))

-- what comes whole later ends behind all that came
pub later_frames : (s t : List TimedByte) → AllBehind (length s) (newest_first (frames_of s) []) (frames_of (rest_of s ++ t))
later_frames s t = by (cuts_of (rest_of s ++ t)) refl
  where
    by : (cuts : List (List TimedByte)) → cuts_of (rest_of s ++ t) ≡ cuts → AllBehind (length s) (newest_first (frames_of s) []) (map frame_by cuts)
    by [] e = tt
    by (c ∷ cuts) e = all_behind (length s) (newest_first (frames_of s) []) (frame_by c) (map frame_by cuts)
        (omega (arith, first_longer s t cuts c e, bytes_of_frames s, length_plain c))

-- ---- what had come by a place

not_yet : (n : ℕ) (f : Frame) (past : Past) → n < bytes_in (f ∷ past) → come_by n (f ∷ past) ≡ come_by n past
not_yet n f past h = by (nat_le (bytes_in (f ∷ past)) n) refl
  where
    by : (b : Bool) → nat_le (bytes_in (f ∷ past)) n ≡ b → cond b (f ∷ past) (come_by n past) ≡ come_by n past
    by false e = refl
    by true e = absurd (omega (arith, h, leb-true _ _ e))

pub come_by_same : (n : ℕ) (fs : List Frame) (past : Past) → AllBehind n past fs → come_by n (newest_first fs past) ≡ come_by n past
come_by_same n [] past h = refl
come_by_same n (f ∷ fs) past h = come_by_same n fs (f ∷ past) h.1 ∙ not_yet n f past h.0

-- a shorter list of them
pub behind_less : (n : ℕ) (past : Past) (fs gs : List Frame) → AllBehind n past (fs ++ gs) → AllBehind n past fs
behind_less n past [] gs h = tt
behind_less n past (f ∷ fs) gs h = (h.0, behind_less n (f ∷ past) fs gs h.1)

pub behind_weaker : (n m : ℕ) (past : Past) (fs : List Frame) → m ≤ n → AllBehind n past fs → AllBehind m past fs
behind_weaker n m past [] le h = tt
behind_weaker n m past (f ∷ fs) le h = (omega (arith, le, h.0), behind_weaker n m (f ∷ past) fs le h.1)
