-- Eight hex digits.
use Rattle.std.proofs.Common.{◌≡◌, ℕ, ◌-◌, ◌^◌, false, List, [], ◌++◌, length, replicate, ap, ◌∙◌, append-nil, arith}
use Rattle.std.specs.Fmt.{char_count, format_spec, padded_integral}

-- zeros fill a number up to eight digits
pub eight_digits : (ds : List ℕ) → padded_integral (format_spec 32 0 4 8 (2 ^ 64 - 1)) false [] ds ≡ replicate (8 - length ds) 48 ++ ds
unfolding padded_integral char_count
eight_digits ds =
    let width : 8 - length ds - 0 - 0 ≡ 8 - length ds = omega arith in
    ap (λ n. replicate n 48 ++ (ds ++ [])) width ∙ ap (λ l. replicate (8 - length ds) 48 ++ l) (append-nil ds)
