use Rattle.std.proofs.Common.{◌≡◌, ◌≤◌, ◌<◌, ◌^◌, ℕ, Bool, true, false, ltb, eqb, List, ◌++◌, length, take, drop, Option, Some, None, refl, sym, ap, ◌∙◌, arith, append_assoc, inl, inr, lit<}
use Rattle.std.specs.Prelude.{IsUtf8}
use Rattle.std.specs.Str.{is_utf8}
use Rattle.std.specs.Int.{w32, to_le_bytes}
use Rattle.std.proofs.lemmas.Bool.{ltb-false, le-ltb, eqb-true, ne_eqb}
use Rattle.std.proofs.lemmas.Str.{IsUtf8-from_is_utf8, is_utf8-from_IsUtf8}
use Rattle.std.proofs.lemmas.List.{take_at, drop_at, take-append-drop, length-append, length-take}
use Rattle.ua_value.specs.Format.{IsBytes, Takes, IsLawful}
use Rattle.ua_value.specs.Lists.{IsBytes-rest, IsBytes-take, bind_some, chosen, passed, guarded}
use Rattle.ua_value.specs.Number.{unsigned}
use Rattle.ua_value.specs.NumberLaws.{lawful_unsigned, wide_32}
use Rattle.ua_value.specs.SequenceLaws.{takes_as}
use Rattle.ua_value.specs.Text.{null, longest, canon_bytes, AreBytesOf, counted_at, bytes_at, bytes_of, any_bytes}

-- a count at the front, and what follows it
pub count_takes : (bytes : List ℕ) (n : ℕ) (rest : List ℕ) → IsBytes bytes → (unsigned w32).grammar.front bytes ≡ Some (n, rest) → (n < 2 ^ 32) × (bytes ≡ to_le_bytes w32 n ++ rest)
unfolding unsigned
count_takes bytes n rest fits e =
    let t = (lawful_unsigned w32 wide_32).reads.takes bytes n rest fits e in (t.spelled.0, t.parts ∙ ap (λ (l : List ℕ). l ++ rest) t.spelled.1)

pub count_again : (n : ℕ) (rest : List ℕ) → n < 2 ^ 32 → (unsigned w32).grammar.front (to_le_bytes w32 n ++ rest) ≡ Some (n, rest)
unfolding unsigned
count_again n rest lt = (lawful_unsigned w32 wide_32).reads.again n (to_le_bytes w32 n) rest (lt, refl)

-- what shows that a test finds P
pub record Finds (P : List ℕ → Type 0) (test : List ℕ → Bool) : Type 0 where
  pub sound : (text : List ℕ) → IsBytes text → test text ≡ true → P text
  pub complete : (text : List ℕ) → P text → test text ≡ true

bytes_takes : (P : List ℕ → Type 0) (test : List ℕ → Bool) → Finds P test → (bytes : List ℕ) (v : Option (List ℕ)) (rest : List ℕ) → IsBytes bytes → bytes_at test bytes ≡ Some (v, rest) → Takes (bytes_of P test).grammar bytes v rest
unfolding bytes_of
bytes_takes P test finds bytes v rest fits e =
    let one = bind_some ((unsigned w32).grammar.front bytes) (λ n. counted_at test n.0 n.1) (v, rest) e in
    let n = one.0.0 in
    let after = one.0.1 in
    let c = count_takes bytes n after fits one.1 in
    elim (chosen (eqb n 0xffff_ffff) _ _ (Some (v, rest)) one.2) [
      | inl h ↦ takes_as (bytes_of P test).grammar bytes null None v after rest h.1 (c.1 ∙ ap (λ (k : ℕ). to_le_bytes w32 k ++ after) (eqb-true _ _ h.0)) (tt, refl)
      | inr h ↦
          let g = passed (ltb longest n) _ (v, rest) h.1 in
          let k = passed (ltb (length after) n) _ (v, rest) g.1 in
          let t = guarded (test (take n after)) _ (v, rest) k.1 in
          let long : n ≤ length after = ltb-false _ _ k.0 in
          let len : length (take n after) ≡ n = omega (arith, length-take n after) in
          let holds = finds.sound (take n after) (IsBytes-take n after (IsBytes-rest bytes (to_le_bytes w32 n) after fits c.1)) t.0 in
          takes_as (bytes_of P test).grammar bytes (to_le_bytes w32 n ++ take n after) (Some (take n after)) v (drop n after) rest t.1
          (c.1 ∙ ap (λ (l : List ℕ). to_le_bytes w32 n ++ l) (sym (take-append-drop n after)) ∙ sym (append_assoc (to_le_bytes w32 n) (take n after) (drop n after)))
          ((omega (arith, ltb-false _ _ g.0), holds), ap (λ (k : ℕ). to_le_bytes w32 k ++ take n after) (sym len))
    ]

bytes_again : (P : List ℕ → Type 0) (test : List ℕ → Bool) → Finds P test → (v : Option (List ℕ)) (rest : List ℕ) → AreBytesOf P v → bytes_at test (canon_bytes v ++ rest) ≡ Some (v, rest)
bytes_again P test finds None rest h = rw (count_again 4294967295 rest (lit< tt)) refl
bytes_again P test finds (Some text) rest h =
    let other : eqb (length text) 0xffff_ffff ≡ false = ne_eqb _ _ (λ e. omega (arith, e, h.0)) in
    let short : ltb longest (length text) ≡ false = le-ltb _ _ h.0 in
    let long : ltb (length (text ++ rest)) (length text) ≡ false = le-ltb _ _ (omega (arith, length-append text rest)) in
    ap (bytes_at test) (append_assoc (to_le_bytes w32 (length text)) text rest) ∙ rw (count_again (length text) (text ++ rest) (omega (arith, h.0)), other, short, long, take_at text rest (length text) refl, drop_at text rest (length text) refl, finds.complete text h.1) refl

some_bytes : (v : Option (List ℕ)) → 1 ≤ length (canon_bytes v)
some_bytes None = omega arith
some_bytes (Some q) = omega arith

pub lawful_bytes : (P : List ℕ → Type 0) (test : List ℕ → Bool) → Finds P test → IsLawful (bytes_of P test)
unfolding bytes_of
lawful_bytes P test finds = record {
  reads = record { takes = bytes_takes P test finds; again = λ v a rest s. ap (λ (l : List ℕ). bytes_at test (l ++ rest)) s.1 ∙ bytes_again P test finds v rest s.0 };
  nonempty = λ v a s. omega (arith, ap length s.1, some_bytes v);
  canonical = λ v h. (h, refl);
  shortest = λ v a s. omega (arith, ap length s.1);
  a_value = λ v a s h. s.0;
}

pub lawful_string : IsLawful (bytes_of IsUtf8 is_utf8)
lawful_string = lawful_bytes IsUtf8 is_utf8 (record { sound = λ text fits e. IsUtf8-from_is_utf8 text e; complete = λ text h. is_utf8-from_IsUtf8 text h })

pub lawful_xml_element : IsLawful (bytes_of IsUtf8 is_utf8)
lawful_xml_element = lawful_string

pub lawful_byte_string : IsLawful (bytes_of IsBytes any_bytes)
lawful_byte_string = lawful_bytes IsBytes any_bytes (record { sound = λ text fits e. fits; complete = λ text h. refl })
