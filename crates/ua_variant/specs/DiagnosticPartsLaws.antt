-- The laws of the parts of a DiagnosticInfo.
use Rattle.std.proofs.Common.{◌≡◌, ◌<◌, ◌+◌, ℕ, Bool, true, false, None, refl, ltb, ltb-true}
use Rattle.std.proofs.lemmas.Bool.{and_parts}
use Rattle.std.specs.Prelude.{◌&&◌, is_some}
use Rattle.std.specs.Int.{w32}
use Rattle.ua_value.specs.Status.{lawful_status_code}
use Rattle.ua_value.specs.NumberLaws.{lawful_signed, wide_32}
use Rattle.ua_value.specs.Text.{string, bytes_of}
use Rattle.ua_value.specs.TextLaws.{lawful_string}
use Rattle.ua_value.specs.Localized.{has, flag}
use Rattle.ua_variant.specs.declared.diagnostic_parts.DiagnosticParts.{DiagnosticParts}
use Rattle.ua_variant.specs.FlaggedLaws.{AreLawful, lawful_kept, lawful_unless_null, lawful_then, lawful_shown}
use Rattle.ua_variant.specs.DiagnosticParts.{diagnostic_parts, row}

null_is_value : string.IsValue None
unfolding bytes_of
null_is_value = tt

pub lawful_parts : AreLawful diagnostic_parts
unfolding diagnostic_parts
lawful_parts = lawful_shown _ _ row (λ p. refl) (λ r. refl)
    (lawful_then _ _ (lawful_kept 0x01 _ (lawful_signed w32 wide_32)) (lawful_then _ _ (lawful_kept 0x02 _ (lawful_signed w32 wide_32)) (lawful_then _ _ (lawful_kept 0x08 _ (lawful_signed w32 wide_32)) (lawful_then _ _ (lawful_kept 0x04 _ (lawful_signed w32 wide_32))
    (lawful_then _ _ (lawful_unless_null 0x10 _ lawful_string null_is_value) (lawful_kept 0x20 _ lawful_status_code))))))

-- ---- the mask of the parts that are there

-- what holds of both truth values
abbrev at_both : (Bool → Bool) → Bool
at_both test = test false && test true

at_each : (test : Bool → Bool) → at_both test ≡ true → (b : Bool) → test b ≡ true
at_each test h false = (and_parts (test false) (test true) h).0
at_each test h true = (and_parts (test false) (test true) h).1

abbrev agree : Bool → Bool → Bool
agree true b = b
agree false true = false
agree false false = true

same : (a b : Bool) → agree a b ≡ true → a ≡ b
same true true e = refl
same true false e = absurd cc
same false true e = absurd cc
same false false e = refl

abbrev pub mask_of : Bool → Bool → Bool → Bool → Bool → Bool → Bool → ℕ
mask_of a b c d e f i = flag a 0x01 + (flag b 0x02 + (flag c 0x08 + (flag d 0x04 + (flag e 0x10 + flag f 0x20)))) + flag i 0x40

-- a mask below 128 with just these bits
abbrev is_mask_of : Bool → Bool → Bool → Bool → Bool → Bool → Bool → ℕ → Bool
is_mask_of a b c d e f i m = ltb m 128 && (agree (has m 0x01) a && (agree (has m 0x02) b && (agree (has m 0x08) c && (agree (has m 0x04) d && (agree (has m 0x10) e && (agree (has m 0x20) f && agree (has m 0x40) i))))))

masks : at_both (λ a. at_both (λ b. at_both (λ c. at_both (λ d. at_both (λ e. at_both (λ f. at_both (λ i. is_mask_of a b c d e f i (mask_of a b c d e f i)))))))) ≡ true
masks = refl

mask_is : (a b c d e f i : Bool) → is_mask_of a b c d e f i (mask_of a b c d e f i) ≡ true
mask_is a b c d e f i =
    at_each (λ i. is_mask_of a b c d e f i (mask_of a b c d e f i)) (at_each (λ f. at_both (λ i. is_mask_of a b c d e f i (mask_of a b c d e f i)))
    (at_each (λ e. at_both (λ f. at_both (λ i. is_mask_of a b c d e f i (mask_of a b c d e f i))))
    (at_each (λ d. at_both (λ e. at_both (λ f. at_both (λ i. is_mask_of a b c d e f i (mask_of a b c d e f i)))))
    (at_each (λ c. at_both (λ d. at_both (λ e. at_both (λ f. at_both (λ i. is_mask_of a b c d e f i (mask_of a b c d e f i))))))
    (at_each (λ b. at_both (λ c. at_both (λ d. at_both (λ e. at_both (λ f. at_both (λ i. is_mask_of a b c d e f i (mask_of a b c d e f i)))))))
    (at_each (λ a. at_both (λ b. at_both (λ c. at_both (λ d. at_both (λ e. at_both (λ f. at_both (λ i. is_mask_of a b c d e f i (mask_of a b c d e f i))))))))
    masks a) b) c) d) e) f) i

-- the canonical mask says which parts are there, and whether there is an inner one
pub record Flags (p : DiagnosticParts) (inner : Bool) (mask : ℕ) : Type 0 where
  pub below : mask < 128
  pub shows : diagnostic_parts.Shows mask p
  pub inside : has mask 0x40 ≡ inner

pub flags : (p : DiagnosticParts) (inner : Bool) → Flags p inner (diagnostic_parts.mask p + flag inner 0x40)
unfolding diagnostic_parts
flags p i =
    let m = diagnostic_parts.mask p + flag i 0x40 in
    let all = and_parts (ltb m 128) _ (mask_is (is_some p.symbolic_id) (is_some p.namespace_uri) (is_some p.locale) (is_some p.localized_text) (is_some p.additional_info) (is_some p.inner_status) i) in
    let a = and_parts _ _ all.1 in
    let b = and_parts _ _ a.1 in
    let c = and_parts _ _ b.1 in
    let d = and_parts _ _ c.1 in
    let e = and_parts _ _ d.1 in
    let f = and_parts _ _ e.1 in
    record {
      below = ltb-true _ _ all.0;
      shows = (same _ _ a.0, (same _ _ b.0, (same _ _ c.0, (same _ _ d.0, (same _ _ e.0, same _ _ f.0)))));
      inside = same _ _ f.1;
    }
