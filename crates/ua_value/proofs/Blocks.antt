-- The comparison of several bytes at once.
use Rattle.std.proofs.Common.{◌≡◌, ◌≤◌, ℕ, zero, suc, ◌+◌, ◌-◌, ◌^◌, ◌%◌, ◌<◌, Bool, true, false, cond, eqb, leb, List, [], ◌∷◌, map, length, take, drop, get_or, replicate, refl, sym, ap, subst, ◌∙◌, arith, leb-false, eqb-true}
use Rattle.std.proofs.lemmas.List.{get_or-drop, get_or-take, length-drop, length-map, length-replicate, length-take-le}
use Rattle.std.proofs.lemmas.Simd.{length-zip2, mask_l-mod}
use lib.Lanes.{zip2, mask_l, top, chunk}
use Rattle.ua_value.specs.Ascii.{AreAscii}

-- a lane is all ones where the first number is at most the second
abbrev pub ones_at_most : ℕ → ℕ → ℕ
ones_at_most a b = cond (leb a b) 255 0

-- the mask of the bytes that are 128 or more
abbrev high_mask : List ℕ → ℕ
high_mask block = mask_l (map (top 7) (zip2 ones_at_most (replicate (length block) 128) block))

low_byte : (b : ℕ) (t : Bool) → leb 128 b ≡ t → ◌≡◌ {A = ℕ} (cond (top 7 (cond t 255 0)) 1 0) 0 → b < 128
low_byte b false is none = leb-false 128 b is
low_byte b true is none = absurd (omega arith)

low_bytes : (block : List ℕ) → high_mask block ≡ 0 → (i : ℕ) → get_or block i 0 < 128
low_bytes [] none i = omega arith
low_bytes (b ∷ block) none zero = low_byte b (leb 128 b) refl (omega arith)
low_bytes (b ∷ block) none (suc i) = low_bytes block (omega arith) i

-- a mask of at most 64 bits is not cut
uncut : (block : List ℕ) → length block ≤ 64 → high_mask block % 2 ^ 64 ≡ high_mask block
uncut block short =
    let ones : List ℕ = replicate (length block) 128 in
    let as_long : length ones ≡ length block = length-replicate (length block) 128 in
    mask_l-mod _ 64 (omega (arith, short, length-map (zip2 ones_at_most ones block) (top 7), as_long, length-zip2 ones_at_most ones block as_long))

-- so many bytes from a place on, as they are read
abbrev pub block_at : ℕ → List ℕ → ℕ → List ℕ
block_at n bytes at = chunk 0 n (take (at + n - at) (drop at bytes))

length_block : (n : ℕ) (bytes : List ℕ) (at : ℕ) → at + n ≤ length bytes → length (block_at n bytes at) ≡ n
length_block n bytes at le =
    let behind : length (drop at bytes) ≡ length bytes - at = length-drop at bytes in
    let first : length (take (at + n - at) (drop at bytes)) ≡ at + n - at = length-take-le (at + n - at) (drop at bytes) (omega (arith, behind, le)) in
    length-take-le n (take (at + n - at) (drop at bytes)) (omega (arith, first))

byte_of_block : (n : ℕ) (bytes : List ℕ) (at i : ℕ) → at ≤ i → i < at + n → get_or (block_at n bytes at) (i - at) 0 ≡ get_or bytes i 0
byte_of_block n bytes at i from to =
    let place : at + (i - at) ≡ i = omega arith in
    get_or-take n (take (at + n - at) (drop at bytes)) (i - at) 0 (omega arith)
    ∙ get_or-take (at + n - at) (drop at bytes) (i - at) 0 (omega arith)
    ∙ get_or-drop at bytes (i - at) 0
    ∙ ap (λ k. get_or bytes k 0) place

-- where no byte of the block is 128 or more, all are ASCII
pub block_ascii : (n : ℕ) (bytes : List ℕ) (at : ℕ) → n ≤ 64 → at + n ≤ length bytes
    → eqb (mask_l (map (top 7) (zip2 ones_at_most (replicate n 128) (block_at n bytes at))) % 2 ^ 64) 0 ≡ true
    → AreAscii bytes at (at + n)
block_ascii n bytes at short le e i from to =
    let block = block_at n bytes at in
    let long = length_block n bytes at le in
    let same = ap (λ k. mask_l (map (top 7) (zip2 ones_at_most (replicate k 128) block))) long in
    let none : high_mask block ≡ 0 = sym (uncut block (omega (arith, long, short))) ∙ ap (λ m. m % 2 ^ 64) same ∙ eqb-true _ _ e in
    subst (λ b. b < 128) (byte_of_block n bytes at i from to) (low_bytes block none (i - at))
