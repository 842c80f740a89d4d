-- What is left of some bytes behind their whole frames: nothing, all of them, or what a later byte may complete.
use Rattle.std.proofs.Common.{◌≡◌, ℕ, zero, suc, ◌+◌, ◌-◌, ◌<◌, ◌≤◌, Bool, true, false, cond, ◌&&◌, nat_le, List, [], ◌++◌, map, take, drop, length, sym, ap, subst, ◌∙◌, append_assoc, arith, ◌⊎◌, inl, inr}
use Rattle.std.proofs.lemmas.List.{length-append, length-take-le, take-append-le, take-append-drop, take_all, drop_all}
use Rattle.std.proofs.lemmas.Bool.{cases_lt}
use Rattle.ua_frame.specs.Streams.{TimedByte, IsFrame, at, plain, size_of, begins_frame, rest_within, rest_of}
use Rattle.ua_frame.specs.StreamLaws.{length_plain, plain_take, plain_drop, plain_at, front_is_frame, frame_size, short_has_none, cut_has_none, framed}
use Rattle.ua_frame.specs.MomentLaws.{at_once_step, at_once_stop}
use Rattle.ua_conn.specs.server.Feeding.{BeginsNoFrame, left_of}

-- ---- moments do not matter

either_rest : (b : Bool) (n z : ℕ) (s t : List TimedByte) → plain s ≡ plain t → plain (rest_within n (drop z s)) ≡ plain (rest_within n (drop z t)) →
    plain (cond b (rest_within n (drop z s)) s) ≡ plain (cond b (rest_within n (drop z t)) t)
either_rest true n z s t e more = more
either_rest false n z s t e more = e

rest_alike : (n : ℕ) (s t : List TimedByte) → plain s ≡ plain t → plain (rest_within n s) ≡ plain (rest_within n t)
unfolding rest_within
rest_alike zero s t e = e
rest_alike (suc n) s t e =
    let z = size_of (plain s) in
    let same : length s ≡ length t = sym (length_plain s) ∙ ap length e ∙ length_plain t in
    let more = rest_alike n (drop z s) (drop z t) (plain_drop z s ∙ ap (drop z) e ∙ sym (plain_drop z t)) in
    let P : List ℕ → ℕ → Type 0 = λ bytes len.
    plain (cond (begins_frame s) (rest_within n (drop z s)) s) ≡ plain (cond (nat_le 8 (size_of bytes) && nat_le (size_of bytes) len) (rest_within n (drop (size_of bytes) t)) t) in
    subst (λ bytes. P bytes (length t)) e (subst (λ len. P (plain s) len) same (either_rest (begins_frame s) n z s t e more))

-- of bytes that came at one moment
pub left_at : (now : ℕ) (bytes : List ℕ) → plain (rest_of (map (at now) bytes)) ≡ left_of bytes
left_at now bytes =
    let s = map (at now) bytes in
    let t = map (at 0) bytes in
    let alike : plain s ≡ plain t = plain_at now bytes ∙ sym (plain_at 0 bytes) in
    let same : length s ≡ length t = sym (length_plain s) ∙ ap length alike ∙ length_plain t in
    rest_alike (length s) s t alike ∙ ap (λ n. plain (rest_within n t)) same

-- ---- which bytes they are

-- no frame is at their front
pub left_all : (bytes : List ℕ) → BeginsNoFrame bytes → left_of bytes ≡ bytes
left_all bytes none = (at_once_stop 0 bytes none).1

-- they are one frame
pub left_nothing : (bytes : List ℕ) → IsFrame bytes → left_of bytes ≡ []
left_nothing bytes is =
    let n = length bytes in
    let whole : take n bytes ≡ bytes = take_all n bytes (omega arith) in
    let behind : drop n bytes ≡ [] = drop_all n bytes (omega arith) in
    ap plain (at_once_step 0 bytes n (omega arith) (subst IsFrame (sym whole) is)).1
    ∙ ap left_of behind ∙ left_all [] (λ m le f. short_has_none m [] (omega arith) le f)

-- and no frame is left there
pub left_begins_none : (bytes : List ℕ) → BeginsNoFrame (left_of bytes)
left_begins_none bytes n le is =
    let rest = rest_of (map (at 0) bytes) in
    (framed (map (at 0) bytes)).partial n (omega (arith, le, length_plain rest)) (subst IsFrame (sym (plain_take n rest)) is)

-- ---- at most one frame

-- A piece behind what was left, of which no byte before the last made a frame whole: all is one frame, or no frame is there yet.
pub one_frame_at_most : (rest piece : List ℕ) → BeginsNoFrame rest → ((m : ℕ) → m < length piece → BeginsNoFrame (rest ++ take m piece)) →
    (IsFrame (rest ++ piece) × (left_of (rest ++ piece) ≡ [])) ⊎ (BeginsNoFrame (rest ++ piece) × (left_of (rest ++ piece) ≡ rest ++ piece))
one_frame_at_most rest piece before none = by_size (cases_lt z 8) (cases_lt (length s) z) (cases_lt z (length s)) (cases_lt (length rest) z)
  where
    s : List ℕ
    s = rest ++ piece

    z : ℕ
    z = size_of s

    Case : Type 0
    Case = (IsFrame s × (left_of s ≡ [])) ⊎ (BeginsNoFrame s × (left_of s ≡ s))

    waits : BeginsNoFrame s → Case
    waits lacks = inr (lacks, left_all s lacks)

    one : 8 ≤ z → z ≤ length s → length s ≤ z → Case
    one low high all =
        let is : IsFrame s = subst IsFrame (take_all z s all) (front_is_frame s low high) in
        inl (is, left_nothing s is)

    -- a frame that ends before the last byte of the piece would be there already
    within : 8 ≤ z → z < length s → z ≤ length rest → ⊥
    within low less le =
        before z le (subst IsFrame (take-append-le z rest piece le) (front_is_frame s low (omega (arith, less))))

    further : 8 ≤ z → z < length s → length rest < z → ⊥
    further low less more =
        let m = z - length rest in
        let long : length s ≡ length rest + length piece = length-append rest piece in
        let short : m < length piece = omega (arith, less, more, long) in
        let front = rest ++ take m piece in
        let there : z ≤ length front = omega (arith, more, length-append rest (take m piece), length-take-le m piece (omega (arith, short))) in
        let cut : s ≡ front ++ drop m piece = ap (λ l. rest ++ l) (sym (take-append-drop m piece)) ∙ sym (append_assoc rest (take m piece) (drop m piece)) in
        none m short z there
        (subst IsFrame (ap (take z) cut ∙ take-append-le z front (drop m piece) there) (front_is_frame s low (omega (arith, less))))

    by_size : (z < 8) ⊎ (8 ≤ z) → (length s < z) ⊎ (z ≤ length s) → (z < length s) ⊎ (length s ≤ z) → (length rest < z) ⊎ (z ≤ length rest) → Case
    by_size (inl small) b c d = waits (λ n le is. (let f = frame_size n s le is in omega (arith, small, f.0, f.1)))
    by_size (inr low) (inl long) c d = waits (λ n le is. cut_has_none n s long le is)
    by_size (inr low) (inr high) (inr all) d = one low high all
    by_size (inr low) (inr high) (inl less) (inl more) = absurd (further low less more)
    by_size (inr low) (inr high) (inl less) (inr le) = absurd (within low less le)
