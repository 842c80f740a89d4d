-- A stream by its front, for either end: a whole frame and what follows, or no whole frame.
use Rattle.std.proofs.Common.{◌≡◌, ℕ, ◌<◌, ◌≤◌, List, [], ◌∷◌, take, drop, length, sym, subst, ◌∙◌, arith, ◌⊎◌, inl, inr}
use Rattle.std.proofs.lemmas.Bool.{cases_lt}
use Rattle.ua_frame.specs.Streams.{TimedByte, plain, size_of, IsFrame, rest_of}
use Rattle.ua_frame.specs.StreamLaws.{frame_size, front_is_frame, plain_take}
use Rattle.ua_frame.specs.Layout.{Frame, last_moment, frames_of}
use Rattle.ua_frame.specs.LayoutLaws.{frames_step, frames_stop}

-- the frame at the front, if the bytes of its size are there
abbrev pub front_of : List TimedByte → Frame
front_of s = record { bytes = take (size_of (plain s)) (plain s); moment = last_moment (take (size_of (plain s)) s) }

pub by_front : (P : List Frame → List ℕ → Type 0) (s : List TimedByte) → (8 ≤ size_of (plain s) → (fs : List Frame) (rest : List ℕ) → P (front_of s ∷ fs) rest) → P [] (plain s) → P (frames_of s) (plain (rest_of s))
by_front P s whole part = by_sizes (cases_lt (size_of (plain s)) 8) (cases_lt (length (plain s)) (size_of (plain s)))
  where
    z : ℕ
    z = size_of (plain s)

    one : 8 ≤ z → z ≤ length (plain s) → P (frames_of s) (plain (rest_of s))
    one low high =
        let c = frames_step s z (front_is_frame (plain s) low high) in
        let front : frames_of s ≡ front_of s ∷ frames_of (drop z s) =
        c.0 ∙ (λ i. record { bytes = plain_take z s i; moment = last_moment (take z s) } ∷ frames_of (drop z s)) in
        subst (λ fs. P fs (plain (rest_of s))) (sym front) (whole low (frames_of (drop z s)) (plain (rest_of s)))

    none : ((n : ℕ) → n ≤ length (plain s) → IsFrame (take n (plain s)) → ⊥) → P (frames_of s) (plain (rest_of s))
    none lacks =
        let n = frames_stop s lacks in
        subst (λ fs. P fs (plain (rest_of s))) (sym n.0) (subst (λ (rest : List TimedByte). P [] (plain rest)) (sym n.1) part)

    by_sizes : (z < 8) ⊎ (8 ≤ z) → (length (plain s) < z) ⊎ (z ≤ length (plain s)) → P (frames_of s) (plain (rest_of s))
    by_sizes (inr low) (inr high) = one low high
    by_sizes (inl small) b = none (λ n le is. (let f = frame_size n (plain s) le is in omega (arith, small, f.0, f.1)))
    by_sizes (inr low) (inl long) = none (λ n le is. (let f = frame_size n (plain s) le is in omega (arith, long, le, f.1)))
