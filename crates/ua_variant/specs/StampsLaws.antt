-- The laws of what a DataValue says beside its value.
use Rattle.std.proofs.Common.{◌≡◌, ◌<◌, ◌+◌, ℕ, Bool, true, false, refl, ltb, ltb-true}
use Rattle.std.proofs.lemmas.Bool.{and_parts}
use Rattle.std.specs.Prelude.{◌&&◌, is_some}
use Rattle.ua_value.specs.Date.{lawful_date_time}
use Rattle.ua_value.specs.Status.{lawful_status_code}
use Rattle.ua_value.specs.Localized.{has, flag}
use Rattle.ua_variant.specs.declared.stamps.Stamps.{Stamps}
use Rattle.ua_variant.specs.FlaggedLaws.{AreLawful, lawful_kept, lawful_then, lawful_shown}
use Rattle.ua_variant.specs.Picoseconds.{lawful_picoseconds}
use Rattle.ua_variant.specs.Stamps.{row, stamps}

pub lawful_stamps : AreLawful stamps
unfolding stamps
lawful_stamps = lawful_shown _ _ row (λ s. refl) (λ r. refl)
    (lawful_then _ _ (lawful_kept 0x02 _ lawful_status_code) (lawful_then _ _ (lawful_kept 0x04 _ lawful_date_time) (lawful_then _ _ (lawful_kept 0x10 _ lawful_picoseconds)
    (lawful_then _ _ (lawful_kept 0x08 _ lawful_date_time) (lawful_kept 0x20 _ lawful_picoseconds)))))

-- ---- the mask of the parts that are there

-- what holds of both truth values
abbrev pub at_both : (Bool → Bool) → Bool
at_both test = test false && test true

pub at_each : (test : Bool → Bool) → at_both test ≡ true → (b : Bool) → test b ≡ true
at_each test h false = (and_parts (test false) (test true) h).0
at_each test h true = (and_parts (test false) (test true) h).1

abbrev pub agree : Bool → Bool → Bool
agree true b = b
agree false true = false
agree false false = true

pub same : (a b : Bool) → agree a b ≡ true → a ≡ b
same true true e = refl
same true false e = absurd cc
same false true e = absurd cc
same false false e = refl

-- a mask below 64 with just these bits
abbrev is_mask_of : Bool → Bool → Bool → Bool → Bool → Bool → Bool
is_mask_of v a b c d e =
    let m = flag v 0x01 + (flag a 0x02 + (flag b 0x04 + (flag c 0x10 + (flag d 0x08 + flag e 0x20)))) in
    ltb m 64 && (agree (has m 0xc0) false && (agree (has m 0x01) v && (agree (has m 0x02) a && (agree (has m 0x04) b && (agree (has m 0x10) c && (agree (has m 0x08) d && agree (has m 0x20) e))))))

masks : at_both (λ v. at_both (λ a. at_both (λ b. at_both (λ c. at_both (λ d. at_both (λ e. is_mask_of v a b c d e)))))) ≡ true
masks = refl

mask_is : (v a b c d e : Bool) → is_mask_of v a b c d e ≡ true
mask_is v a b c d e =
    at_each (λ e. is_mask_of v a b c d e) (at_each (λ d. at_both (λ e. is_mask_of v a b c d e))
    (at_each (λ c. at_both (λ d. at_both (λ e. is_mask_of v a b c d e)))
    (at_each (λ b. at_both (λ c. at_both (λ d. at_both (λ e. is_mask_of v a b c d e))))
    (at_each (λ a. at_both (λ b. at_both (λ c. at_both (λ d. at_both (λ e. is_mask_of v a b c d e)))))
    (at_each (λ v. at_both (λ a. at_both (λ b. at_both (λ c. at_both (λ d. at_both (λ e. is_mask_of v a b c d e)))))) masks v) a) b) c) d) e

-- the canonical mask says which parts are there, and whether there is a value
pub record Flags (s : Stamps) (valued : Bool) (mask : ℕ) : Type 0 where
  pub low : mask < 64
  pub known : has mask 0xc0 ≡ false
  pub has_value : has mask 0x01 ≡ valued
  pub shows : stamps.Shows mask s

pub flags : (s : Stamps) (valued : Bool) → Flags s valued (flag valued 0x01 + stamps.mask s)
unfolding stamps
flags s v =
    let m = flag v 0x01 + stamps.mask s in
    let all = and_parts (ltb m 64) _ (mask_is v (is_some s.status) (is_some s.source_timestamp) (is_some s.source_picoseconds) (is_some s.server_timestamp) (is_some s.server_picoseconds)) in
    let a = and_parts _ _ all.1 in
    let b = and_parts _ _ a.1 in
    let c = and_parts _ _ b.1 in
    let d = and_parts _ _ c.1 in
    let e = and_parts _ _ d.1 in
    let f = and_parts _ _ e.1 in
    record {
      low = ltb-true _ _ all.0;
      known = same _ _ a.0;
      has_value = same _ _ b.0;
      shows = (same _ _ c.0, (same _ _ d.0, (same _ _ e.0, (same _ _ f.0, same _ _ f.1))));
    }
