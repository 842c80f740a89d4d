-- The canonical first bytes of variants.
use Rattle.std.proofs.Common.{◌≡◌, ◌<◌, ◌+◌, ℕ, zero, suc, Bool, true, ltb, eqb, refl, ap, ◌∙◌, arith, ltb-true, inl, inr}
use Rattle.std.specs.Prelude.{◌&&◌}
use Rattle.std.proofs.lemmas.Bool.{and_parts, eqb-true, cases_lt}
use Rattle.ua_value.specs.Localized.{has, flag}
use Rattle.ua_variant.specs.Kinds.{Kind, kind_number, kind_named, numbered}
use Rattle.ua_variant.specs.Spelling.{low_bits, IsHead, head_of}
use Rattle.ua_variant.specs.StampsLaws.{at_both, at_each, agree, same}

-- what holds of each number below
abbrev all_below : ℕ → (ℕ → Bool) → Bool
all_below zero test = true
all_below (suc n) test = test n && all_below n test

at_number : (test : ℕ → Bool) (n k : ℕ) → all_below n test ≡ true → k < n → test k ≡ true
at_number test zero k h lt = absurd (omega arith)
at_number test (suc n) k h lt =
    let b = and_parts (test n) (all_below n test) h in
    elim (cases_lt k n) [
      | inl less ↦ at_number test n k b.1 less
      | inr le ↦ let e : k ≡ n = omega arith in ap test e ∙ b.0
    ]

-- a first byte with just this number and these bits
abbrev is_head : ℕ → Bool → Bool → Bool
is_head n d a =
    let m = n + (flag d 0x40 + flag a 0x80) in
    ltb m 256 && (eqb (low_bits m) n && (agree (has m 0x40) d && agree (has m 0x80) a))

all_heads : all_below 64 (λ n. at_both (λ d. at_both (λ a. is_head n d a))) ≡ true
all_heads = refl

head_is : (n : ℕ) (d a : Bool) → n < 64 → is_head n d a ≡ true
head_is n d a low = at_each (λ a. is_head n d a) (at_each (λ d. at_both (λ a. is_head n d a)) (at_number (λ n. at_both (λ d. at_both (λ a. is_head n d a))) 64 n all_heads low) d) a

pub heads : (k : Kind) (d a : Bool) → IsHead (head_of k d a) k d a
heads k d a =
    let n = kind_number k in
    let m = n + (flag d 0x40 + flag a 0x80) in
    let all = and_parts (ltb m 256) _ (head_is n d a (numbered k).low) in
    let b = and_parts (eqb (low_bits m) n) _ all.1 in
    let c = and_parts _ _ b.1 in
    record {
      byte = ltb-true _ _ all.0;
      kind = ap kind_named (eqb-true _ _ b.0) ∙ (numbered k).named;
      has_dimensions = same _ _ c.0;
      is_array = same _ _ c.1;
    }
