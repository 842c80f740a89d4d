-- The comparison of 32 bytes at once.
use Rattle.std.proofs.Common.{◌≡◌, ◌≤◌, ℕ, ◌+◌, ◌^◌, ◌%◌, ◌<◌, Bool, true, false, not, cond, eqb, leb, List, map, length, get_or, replicate, refl, sym, ap, ◌∙◌, arith, eqb-true, w8}
use Rattle.std.specs.List.{prefix_len}
use Rattle.std.proofs.lemmas.Simd.{length-chunk, bitmask_splat, none_from_empty_mask, first_set_mask_l, run_in_chunk_le, run_in_chunk_fails, run_in_chunk_stops}
use lib.Lanes.{zip2, mask_l, top, chunk}
use lib.Count.{count_trailing_zeros}
use Rattle.ua_command.specs.Script.{is_kept}
use Rattle.ua_command.specs.Search.{AreKept}

-- a lane is all ones where the byte passes
abbrev pub ones_where : (ℕ → ℕ → Bool) → ℕ → ℕ → ℕ
ones_where t a b = cond (t a b) 255 0

-- the mask of the bytes of a block that pass beside one
abbrev pub mask_of : (ℕ → ℕ → Bool) → ℕ → List ℕ → ℕ
mask_of t y block = mask_l (map (top 7) (zip2 (ones_where t) block (replicate 32 y))) % 2 ^ 64

mask_is : (t : ℕ → ℕ → Bool) (y : ℕ) (bytes : List ℕ) (at : ℕ) → at + 32 ≤ length bytes
    → mask_of t y (chunk at 32 bytes) ≡ mask_l (map (λ x. t x y) (chunk at 32 bytes))
mask_is t y bytes at le = bitmask_splat w8 t (chunk at 32 bytes) 32 y (length-chunk at 32 bytes le) (omega arith)

above_blank : (b : ℕ) → leb b 32 ≡ false → is_kept b ≡ true
above_blank b h = grind arith

-- a block of which no byte is 32 or less is kept
pub block_kept : (line : List ℕ) (at : ℕ) → at + 32 ≤ length line → eqb (mask_of leb 32 (chunk at 32 line)) 0 ≡ true → AreKept line at (at + 32)
block_kept line at le e k ge lt =
    above_blank (get_or line k 0) (none_from_empty_mask (λ b. leb b 32) line at 32 0 le (sym (mask_is leb 32 line at le) ∙ eqb-true _ _ e) k ge lt)

-- ---- the first line end of a block

-- a block whose mask is empty has none
pub run_clear : (text : List ℕ) (at : ℕ) → at + 32 ≤ length text → mask_of eqb 10 (chunk at 32 text) ≡ 0
    → (k : ℕ) → at ≤ k → k < at + 32 → eqb (get_or text k 0) 10 ≡ false
run_clear text at le e k ge lt = none_from_empty_mask (λ b. eqb b 10) text at 32 0 le (sym (mask_is eqb 10 text at le) ∙ e) k ge lt

false_of : (b : Bool) → (b ≡ true → ⊥) → b ≡ false
false_of true h = absurd (h refl)
false_of false h = refl

-- and else the lowest bit is that of the first
run_len : (text : List ℕ) (at : ℕ) → at + 32 ≤ length text → (mask_of eqb 10 (chunk at 32 text) ≡ 0 → ⊥)
    → count_trailing_zeros 64 (mask_of eqb 10 (chunk at 32 text)) ≡ prefix_len (λ b. not (eqb b 10)) (chunk at 32 text)
run_len text at le e =
    let m = mask_is eqb 10 text at le in
    let some : eqb (mask_l (map (λ b. eqb b 10) (chunk at 32 text))) 0 ≡ false = false_of _ (λ t. e (m ∙ eqb-true _ _ t)) in
    let first = first_set_mask_l (λ b. eqb b 10) (chunk at 32 text) 32 (length-chunk at 32 text le) (omega arith) in
    ap (count_trailing_zeros 64) m ∙ (rw some at first)

pub run_within : (text : List ℕ) (at : ℕ) → at + 32 ≤ length text → (mask_of eqb 10 (chunk at 32 text) ≡ 0 → ⊥)
    → count_trailing_zeros 64 (mask_of eqb 10 (chunk at 32 text)) ≤ 32
run_within text at le e = run_in_chunk_le (λ b. eqb b 10) text at 32 _ 0 le (run_len text at le e)

pub run_none : (text : List ℕ) (at : ℕ) → at + 32 ≤ length text → (mask_of eqb 10 (chunk at 32 text) ≡ 0 → ⊥)
    → (k : ℕ) → at ≤ k → k < at + count_trailing_zeros 64 (mask_of eqb 10 (chunk at 32 text)) → eqb (get_or text k 0) 10 ≡ false
run_none text at le e = run_in_chunk_fails (λ b. eqb b 10) text at 32 _ 0 le (run_len text at le e)

pub run_found : (text : List ℕ) (at : ℕ) → at + 32 ≤ length text → (mask_of eqb 10 (chunk at 32 text) ≡ 0 → ⊥)
    → count_trailing_zeros 64 (mask_of eqb 10 (chunk at 32 text)) < 32
    → eqb (get_or text (at + count_trailing_zeros 64 (mask_of eqb 10 (chunk at 32 text))) 0) 10 ≡ true
run_found text at le e lt = run_in_chunk_stops (λ b. eqb b 10) text at 32 _ 0 le (run_len text at le e) lt
