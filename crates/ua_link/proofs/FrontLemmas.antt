-- The front of a frame that is not whole.
use Rattle.std.proofs.Common.{arith, ◌≡◌, ℕ, zero, suc, ◌+◌, ◌-◌, ◌<◌, ◌≤◌, max, List, [], ◌++◌, take, length, refl, sym, ap, subst, ◌∙◌, ◌⊎◌, inl, inr, length-append, length-take-le, append-nil, take_all}
use Rattle.std.proofs.lemmas.Bool.{cases_lt}
use Rattle.std.proofs.lemmas.Bool.Decides.{nat_tests}
use Rattle.std.proofs.lemmas.List.{take-append-le}
use Rattle.ua_frame.specs.Streams.{IsFrame, size_of}
use Rattle.ua_frame.specs.StreamLaws.{size_append, size_take, short_has_none, cut_has_none}
use Rattle.ua_conn.specs.server.Feeding.{BeginsNoFrame, left_of}
use Rattle.ua_conn.specs.server.FeedingLaws.{one_frame_at_most}
use Rattle.ua_link.specs.Fronts.{IsFront, OneAtMost, wanted}

pub nothing_partial : BeginsNoFrame []
nothing_partial n le is = short_has_none n [] (omega arith) le is

pub nothing_begun : (header : List ℕ) (got missing : ℕ) → got ≡ 0 → IsFront header got missing []
nothing_begun header got missing none = record { there = none; start = ap (λ (k : ℕ). take k header) none; size = λ le. absurd (omega (arith, le)); partial = nothing_partial }

-- what is wanted within a header, and behind it
pub wanted_short : (got missing : ℕ) → got < 8 → wanted got missing ≡ 8 - got
wanted_short got missing lt = grind (arith, nat_tests, lt)

pub wanted_long : (got missing : ℕ) → 8 ≤ got → wanted got missing ≡ max missing 1
wanted_long got missing le = grind (arith, nat_tests, le)

-- Less than that makes no frame whole.
less_has_none : (header : List ℕ) (got missing : ℕ) (rest piece : List ℕ) (m : ℕ) → IsFront header got missing rest → length piece ≤ wanted got missing → m < length piece →
    (length rest < 8) ⊎ (8 ≤ length rest) → (m ≡ 0) ⊎ (0 < m) → BeginsNoFrame (rest ++ take m piece)
less_has_none header got missing rest piece m f most less size (inl none) =
    subst BeginsNoFrame (sym (ap (λ (k : ℕ). rest ++ take k piece) none ∙ append-nil rest)) f.partial
less_has_none header got missing rest piece m f most less (inl short) (inr some) = λ n le is.
    short_has_none n (rest ++ take m piece)
    (omega (arith, length-append rest (take m piece), length-take-le m piece (omega (arith, less)), most, less, short, f.there, wanted_short got missing (omega (arith, short, f.there)))) le is
less_has_none header got missing rest piece m f most less (inr long) (inr some) = λ n le is.
    cut_has_none n (rest ++ take m piece)
    (omega (
      arith,
      length-append rest (take m piece),
      length-take-le m piece (omega (arith, less)),
      most,
      less,
      some,
      f.size long,
      f.there,
      wanted_long got missing (omega (arith, long, f.there)),
      size_append rest (take m piece) long,
    )) le is

none_or_some : (m : ℕ) → (m ≡ 0) ⊎ (0 < m)
none_or_some zero = inl refl
none_or_some (suc m) = inr (omega arith)

pub one_at_most : (header : List ℕ) (got missing : ℕ) (rest piece : List ℕ) → IsFront header got missing rest → length piece ≤ wanted got missing → OneAtMost rest piece
one_at_most header got missing rest piece f most = λ m less.
    less_has_none header got missing rest piece m f most less (cases_lt (length rest) 8) (none_or_some m)

-- more of its header came
pub header_more : (header header' : List ℕ) (got got' missing missing' : ℕ) (rest piece : List ℕ) → IsFront header got missing rest → BeginsNoFrame (rest ++ piece) → got < 8 → got + length piece ≤ 8 →
    got' ≡ got + length piece → take got' header' ≡ take got header ++ piece → missing' ≡ size_of header' - got' → IsFront header' got' missing' (rest ++ piece)
header_more header header' got got' missing missing' rest piece f lacks less within is came gone =
    let short : length rest < 8 = omega (arith, less, f.there) in
    let there : got ≡ length rest = omega (arith, f.there, short) in
    let len : length (rest ++ piece) ≡ got' = omega (arith, length-append rest piece, there, is) in
    let all : take 8 (rest ++ piece) ≡ rest ++ piece = take_all 8 (rest ++ piece) (omega (arith, len, is, within)) in
    let start : take got' header' ≡ take 8 (rest ++ piece) = came ∙ ap (λ (s : List ℕ). s ++ piece) (f.start ∙ take_all 8 rest (omega (arith, short))) ∙ sym all in
    record {
      there = omega (arith, len, is, within);
      start = start;
      size = λ le.
          (let all_of_it : 8 ≤ got' = omega (arith, len, le) in
          let same : size_of header' ≡ size_of (rest ++ piece) =
          sym (size_take got' header' all_of_it) ∙ ap size_of start ∙ size_take 8 (rest ++ piece) (omega arith) in
          gone ∙ ap (λ (k : ℕ). k - got') same ∙ ap (λ (k : ℕ). size_of (rest ++ piece) - k) (sym len));
      partial = lacks;
    }

-- more behind its header came
pub rest_more : (header : List ℕ) (got missing missing' : ℕ) (rest piece : List ℕ) → IsFront header got missing rest → BeginsNoFrame (rest ++ piece) → 8 ≤ got → missing' ≡ missing - length piece →
    IsFront header got missing' (rest ++ piece)
rest_more header got missing missing' rest piece f lacks whole is =
    let long : 8 ≤ length rest = omega (arith, f.there, whole) in
    let len = length-append rest piece in
    record {
      there = omega (arith, f.there, whole, len);
      start = f.start ∙ sym (take-append-le 8 rest piece long);
      size = λ le. omega (arith, is, f.size long, size_append rest piece long, len);
      partial = lacks;
    }

-- ---- what is left behind a piece

-- nothing, or all
pub left_or_all : (header : List ℕ) (got missing : ℕ) (rest piece : List ℕ) → IsFront header got missing rest → length piece ≤ wanted got missing →
    (left_of (rest ++ piece) ≡ []) ⊎ (BeginsNoFrame (rest ++ piece) × (left_of (rest ++ piece) ≡ rest ++ piece))
left_or_all header got missing rest piece f most = by (one_frame_at_most rest piece f.partial (one_at_most header got missing rest piece f most))
  where
    by : (IsFrame (rest ++ piece) × (left_of (rest ++ piece) ≡ [])) ⊎ (BeginsNoFrame (rest ++ piece) × (left_of (rest ++ piece) ≡ rest ++ piece)) →
        (left_of (rest ++ piece) ≡ []) ⊎ (BeginsNoFrame (rest ++ piece) × (left_of (rest ++ piece) ≡ rest ++ piece))
    by (inl one) = inl one.1
    by (inr none) = inr none
