use Rattle.std.proofs.Common.{◌≡◌, ◌≤◌, ◌<◌, ◌^◌, ◌==◌, ℕ, zero, suc, Bool, true, false, ltb, List, ◌∷◌, [], ◌++◌, length, take, drop, Option, Some, refl, sym, ap, subst, ◌∙◌, arith, lit≤}
use Rattle.std.specs.Prelude.{ℤ, not}
use Rattle.std.specs.Int.{Width, byte_len, to_le_bytes, from_le_bytes, cast_signed, cast_unsigned, w8, w16, w32, w64}
use Rattle.std.specs.Int.RustNames.{FitsSigned}
use Rattle.std.proofs.lemmas.Bool.{ltb-false, le-ltb, eqb-true, ne_eqb}
use Rattle.std.proofs.lemmas.Int.{to_z-of_z, of_z-to_z, ints}
use Rattle.std.proofs.lemmas.List.{take_at, drop_at, take-append-drop, length-append, length-take}
use Rattle.std.proofs.lemmas.Nat.{from_le_bytes-to_le_bytes_2, from_le_bytes-to_le_bytes_4, from_le_bytes-to_le_bytes_8, le_bytes_2, le_bytes_4, le_bytes_8}
use Rattle.ua_value.specs.Format.{IsBytes, Takes, IsGrammar, IsLawful}
use Rattle.ua_value.specs.Lists.{IsBytes-take, passed, same_pair}
use Rattle.ua_value.specs.Number.{unsigned, signed, boolean, SpellsBool, canon_bool, bool_at}

-- what each width has
pub record IsWide (w : Width) : Type 0 where
  pub some : 1 ≤ byte_len w
  pub len : (n : ℕ) → length (to_le_bytes w n) ≡ byte_len w
  pub again : (n : ℕ) → n < 256 ^ byte_len w → from_le_bytes w (to_le_bytes w n) ≡ n
  pub back : (bs : List ℕ) → length bs ≡ byte_len w → IsBytes bs → to_le_bytes w (from_le_bytes w bs) ≡ bs
  pub below : (bs : List ℕ) → length bs ≡ byte_len w → IsBytes bs → from_le_bytes w bs < 256 ^ byte_len w
  pub narrow : (z : ℤ) → FitsSigned w z → cast_unsigned w z < 256 ^ byte_len w
  pub fits : (n : ℕ) → n < 256 ^ byte_len w → FitsSigned w (cast_signed w n)
  pub round : (n : ℕ) → n < 256 ^ byte_len w → cast_unsigned w (cast_signed w n) ≡ n

-- the bytes of a number, at the front
pub record IsFront (w : Width) (bytes rest : List ℕ) : Type 0 where
  pub text : List ℕ
  pub parts : bytes ≡ text ++ rest
  pub len : length text ≡ byte_len w
  pub fits : IsBytes text

front_of : (w : Width) (bytes rest : List ℕ) → IsBytes bytes → ltb (length bytes) (byte_len w) ≡ false → drop (byte_len w) bytes ≡ rest → IsFront w bytes rest
front_of w bytes rest fits long is = record {
  text = take (byte_len w) bytes;
  parts = sym (take-append-drop (byte_len w) bytes) ∙ ap (λ (l : List ℕ). take (byte_len w) bytes ++ l) is;
  len = omega (arith, length-take (byte_len w) bytes, ltb-false _ _ long);
  fits = IsBytes-take (byte_len w) bytes fits;
}

pub unsigned_reads : (w : Width) → IsWide w → IsGrammar (unsigned w).grammar
unfolding unsigned front_of
unsigned_reads w wide = record {
  takes = λ bytes v rest fits e.
      let p = passed (ltb (length bytes) (byte_len w)) (Some (from_le_bytes w (take (byte_len w) bytes), drop (byte_len w) bytes)) (v, rest) e in
      let s = same_pair (from_le_bytes w (take (byte_len w) bytes)) v (drop (byte_len w) bytes) rest p.1 in
      let f = front_of w bytes rest fits p.0 s.1 in
      record { text = f.text; parts = f.parts; spelled = (subst (λ (n : ℕ). n < 256 ^ byte_len w) s.0 (wide.below f.text f.len f.fits), sym (wide.back f.text f.len f.fits) ∙ ap (to_le_bytes w) s.0) };
  again = λ v a rest s.
      let len : length a ≡ byte_len w = ap length s.1 ∙ wide.len v in
      let long : ltb (length (a ++ rest)) (byte_len w) ≡ false = le-ltb _ _ (omega (arith, length-append a rest)) in
      rw (long, take_at a rest (byte_len w) len, drop_at a rest (byte_len w) len) (ap (λ (n : ℕ). let r : Option (ℕ × List ℕ) = Some (n, rest) in r) (ap (from_le_bytes w) s.1 ∙ wide.again v s.0));
}

pub lawful_unsigned : (w : Width) → IsWide w → IsLawful (unsigned w)
unfolding unsigned
lawful_unsigned w wide = record {
  reads = unsigned_reads w wide;
  nonempty = λ v a s. omega (arith, ap length s.1, wide.len v, wide.some);
  canonical = λ v h. (h, refl);
  shortest = λ v a s. omega (arith, ap length s.1);
  a_value = λ v a s h. s.0;
}

pub signed_reads : (w : Width) → IsWide w → IsGrammar (signed w).grammar
unfolding signed front_of
signed_reads w wide = record {
  takes = λ bytes v rest fits e.
      let p = passed (ltb (length bytes) (byte_len w)) (Some (cast_signed w (from_le_bytes w (take (byte_len w) bytes)), drop (byte_len w) bytes)) (v, rest) e in
      let s = same_pair (cast_signed w (from_le_bytes w (take (byte_len w) bytes))) v (drop (byte_len w) bytes) rest p.1 in
      let f = front_of w bytes rest fits p.0 s.1 in
      let below = wide.below f.text f.len f.fits in
      record { text = f.text; parts = f.parts; spelled = (subst (λ (z : ℤ). FitsSigned w z) s.0 (wide.fits (from_le_bytes w f.text) below), sym (wide.back f.text f.len f.fits) ∙ ap (to_le_bytes w) (sym (wide.round (from_le_bytes w f.text) below) ∙ ap (cast_unsigned w) s.0)) };
  again = λ v a rest s.
      let len : length a ≡ byte_len w = ap length s.1 ∙ wide.len (cast_unsigned w v) in
      let long : ltb (length (a ++ rest)) (byte_len w) ≡ false = le-ltb _ _ (omega (arith, length-append a rest)) in
      let is : cast_signed w (from_le_bytes w a) ≡ v = ap (λ (l : List ℕ). cast_signed w (from_le_bytes w l)) s.1 ∙ ap (cast_signed w) (wide.again (cast_unsigned w v) (wide.narrow v s.0)) ∙ to_z-of_z w v s.0 in
      rw (long, take_at a rest (byte_len w) len, drop_at a rest (byte_len w) len) (ap (λ (z : ℤ). let r : Option (ℤ × List ℕ) = Some (z, rest) in r) is);
}

pub lawful_signed : (w : Width) → IsWide w → IsLawful (signed w)
unfolding signed
lawful_signed w wide = record {
  reads = signed_reads w wide;
  nonempty = λ v a s. omega (arith, ap length s.1, wide.len (cast_unsigned w v), wide.some);
  canonical = λ v h. (h, refl);
  shortest = λ v a s. omega (arith, ap length s.1);
  a_value = λ v a s h. s.0;
}

len_bool : (v : Bool) (a : List ℕ) → SpellsBool v a → length a ≡ 1
len_bool false a s = ap length s
len_bool true a s = ap length s.3

canonical_bool : (v : Bool) → SpellsBool v (canon_bool v)
canonical_bool false = refl
canonical_bool true = (1, lit≤ tt, lit≤ tt, refl)

canon_len_bool : (v : Bool) → length (canon_bool v) ≡ 1
canon_len_bool false = refl
canon_len_bool true = refl

bool_spelled : (b : Bool) (n : ℕ) → n < 256 → (n == 0) ≡ b → SpellsBool (not b) (n ∷ [])
bool_spelled true n lt e = ap (λ (k : ℕ). k ∷ []) (eqb-true _ _ e)
bool_spelled false zero lt e = absurd cc
bool_spelled false (suc n) lt e = (suc n, omega arith, lt, refl)

bool_takes : (bytes : List ℕ) (v : Bool) (rest : List ℕ) → IsBytes bytes → bool_at bytes ≡ Some (v, rest) → Takes boolean.grammar bytes v rest
unfolding boolean
bool_takes [] v rest fits e = absurd cc
bool_takes (n ∷ l) v rest fits e =
    let s = same_pair (not (n == 0)) v l rest e in
    record { text = n ∷ []; parts = ap (λ (k : List ℕ). n ∷ k) s.1; spelled = subst (λ (b : Bool). SpellsBool b (n ∷ [])) s.0 (bool_spelled (n == 0) n (fits 0) refl) }

bool_again : (v : Bool) (a rest : List ℕ) → SpellsBool v a → bool_at (a ++ rest) ≡ Some (v, rest)
bool_again false a rest s = ap (λ (l : List ℕ). bool_at (l ++ rest)) s
bool_again true a rest s = ap (λ (l : List ℕ). bool_at (l ++ rest)) s.3 ∙ rw (ne_eqb s.0 0 (λ e. omega (arith, s.1, e))) refl

pub lawful_bool : IsLawful boolean
unfolding boolean
lawful_bool = record {
  reads = record { takes = bool_takes; again = bool_again };
  nonempty = λ v a s. omega (arith, len_bool v a s);
  canonical = λ v h. canonical_bool v;
  shortest = λ v a s. omega (arith, len_bool v a s, canon_len_bool v);
  a_value = λ v a s h. tt;
}

back_1 : (bs : List ℕ) → length bs ≡ 1 → IsBytes bs → to_le_bytes w8 (from_le_bytes w8 bs) ≡ bs
back_1 [] l fits = absurd (omega arith)
back_1 (x ∷ []) l fits = let e : from_le_bytes w8 (x ∷ []) ≡ x = omega (arith, fits 0) in ap (to_le_bytes w8) e ∙ ap (λ (k : ℕ). k ∷ []) (omega (arith, fits 0))
back_1 (x ∷ y ∷ bs) l fits = absurd (omega arith)

below_1 : (bs : List ℕ) → length bs ≡ 1 → IsBytes bs → from_le_bytes w8 bs < 256
below_1 bs l fits = omega (arith, fits 0)

pub wide_8 : IsWide w8
wide_8 = record { some = lit≤ tt; len = λ n. refl; again = λ n h. omega arith; back = back_1; below = below_1; narrow = λ z h. omega (arith, ints); fits = λ n h. omega (arith, ints); round = of_z-to_z w8 }

pub wide_16 : IsWide w16
wide_16 = record { some = lit≤ tt; len = λ n. refl; again = from_le_bytes-to_le_bytes_2; back = λ bs l fits. le_bytes_2 bs _ l fits refl; below = λ bs l fits. omega (arith, fits 0, fits 1); narrow = λ z h. omega (arith, ints); fits = λ n h. omega (arith, ints); round = of_z-to_z w16 }

pub wide_32 : IsWide w32
wide_32 = record { some = lit≤ tt; len = λ n. refl; again = from_le_bytes-to_le_bytes_4; back = λ bs l fits. le_bytes_4 bs _ l fits refl; below = λ bs l fits. omega (arith, fits 0, fits 1, fits 2, fits 3); narrow = λ z h. omega (arith, ints); fits = λ n h. omega (arith, ints); round = of_z-to_z w32 }

pub wide_64 : IsWide w64
wide_64 = record { some = lit≤ tt; len = λ n. refl; again = from_le_bytes-to_le_bytes_8; back = λ bs l fits. le_bytes_8 bs _ l fits refl; below = λ bs l fits. omega (arith, fits 0, fits 1, fits 2, fits 3, fits 4, fits 5, fits 6, fits 7); narrow = λ z h. omega (arith, ints); fits = λ n h. omega (arith, ints); round = of_z-to_z w64 }
