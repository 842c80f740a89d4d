use Rattle.std.proofs.Common.{◌≡◌, ◌≤◌, ℕ, ltb, false, List, ◌++◌, length, take, drop, Option, Some, refl, sym, ap, ◌∙◌, arith}
use Rattle.std.specs.Int.{w16, w32}
use Rattle.std.proofs.lemmas.Bool.{ltb-false, le-ltb}
use Rattle.std.proofs.lemmas.List.{take_at, drop_at, take-append-drop, length-append, length-take}
use Rattle.ua_value.specs.Format.{IsGrammar, IsLawful}
use Rattle.ua_value.specs.Lists.{IsBytes-take, passed}
use Rattle.ua_value.specs.NumberLaws.{lawful_unsigned, wide_16, wide_32}
use Rattle.ua_value.specs.SequenceLaws.{takes_as, lawful_by, lawful_pair}
use Rattle.ua_value.specs.Guid.{raw, guid}

raw_reads : (n : ℕ) → IsGrammar (raw n).grammar
unfolding raw
raw_reads n = record {
  takes = λ bytes v rest fits e.
      let p = passed (ltb (length bytes) n) (Some (take n bytes, drop n bytes)) (v, rest) e in
      takes_as (raw n).grammar bytes (take n bytes) (take n bytes) v (drop n bytes) rest p.1 (sym (take-append-drop n bytes)) (omega (arith, length-take n bytes, ltb-false _ _ p.0), IsBytes-take n bytes fits, refl);
  again = λ v a rest s.
      let len : length a ≡ n = ap length s.2 ∙ s.0 in
      let long : ltb (length (a ++ rest)) n ≡ false = le-ltb _ _ (omega (arith, length-append a rest)) in
      rw (long, take_at a rest n len, drop_at a rest n len) (ap (λ (l : List ℕ). let r : Option (List ℕ × List ℕ) = Some (l, rest) in r) s.2);
}

pub lawful_raw : (n : ℕ) → 1 ≤ n → IsLawful (raw n)
unfolding raw
lawful_raw n some = record {
  reads = raw_reads n;
  nonempty = λ v a s. omega (arith, ap length s.2, s.0, some);
  canonical = λ v h. (h.0, h.1, refl);
  shortest = λ v a s. omega (arith, ap length s.2);
  a_value = λ v a s h. (s.0, s.1);
}

pub lawful_eight_bytes : IsLawful (raw 8)
lawful_eight_bytes = lawful_raw 8 (omega arith)

pub lawful_guid : IsLawful guid
unfolding guid
lawful_guid = lawful_by _ _ _ (λ g. refl) (λ p. refl) (lawful_pair _ _ (lawful_unsigned w32 wide_32) (lawful_pair _ _ (lawful_unsigned w16 wide_16) (lawful_pair _ _ (lawful_unsigned w16 wide_16) lawful_eight_bytes)))
