-- The laws of parts behind a mask.
use Rattle.std.proofs.Common.{◌≡◌, ◌≤◌, ℕ, List, length, Bool, true, false, Option, Some, None, refl, sym, ap, subst, arith, length-append}
use Rattle.std.specs.Prelude.{IfSome, is_some}
use Rattle.ua_value.specs.Format.{Format, IsGrammar, IsLawful, input_limit}
use Rattle.ua_value.specs.Sequence.{made, part}
use Rattle.ua_value.specs.SequenceLaws.{both_reads, made_reads, part_reads, takes_as}
use Rattle.ua_value.specs.Lists.{bind_some}
use Rattle.ua_value.specs.Localized.{has}
use Rattle.ua_variant.specs.Flagged.{Flagged, some_of, kept_at, canon_kept, kept, canon_unless_null, unless_null, then, shown}

pub record AreLawful {V : Type 0} (f : Flagged V) : Type 0 where
  pub reads : (mask : ℕ) → IsGrammar (f.behind mask)
  -- the canonical bytes stand behind each mask that says which parts are there
  pub canonical : (mask : ℕ) (v : V) → f.Shows mask v → f.IsValue v → (f.behind mask).spells v (f.canon v)
  pub shortest : (mask : ℕ) (v : V) (a : List ℕ) → (f.behind mask).spells v a → length (f.canon v) ≤ length a
  pub a_value : (mask : ℕ) (v : V) (a : List ℕ) → (f.behind mask).spells v a → length a ≤ input_limit → f.IsValue v

-- ---- a part that is kept

kept_canonical : {V : Type 0} (f : Format V) → IsLawful f → (b : Bool) (v : Option V) → b ≡ is_some v → IfSome v f.IsValue → (kept_at b f.grammar).spells v (canon_kept f v)
kept_canonical f law true None e h = absurd cc
kept_canonical f law false None e h = (refl, refl)
kept_canonical f law true (Some v) e h = (v, law.canonical v h, refl)
kept_canonical f law false (Some v) e h = absurd cc

kept_shortest : {V : Type 0} (f : Format V) → IsLawful f → (b : Bool) (v : Option V) (a : List ℕ) → (kept_at b f.grammar).spells v a → length (canon_kept f v) ≤ length a
kept_shortest f law true v a s = subst (λ w. length (canon_kept f w) ≤ length a) (sym s.2) (law.shortest s.0 a s.1)
kept_shortest f law false v a s = subst (λ w. length (canon_kept f w) ≤ length a) (sym s.0) (omega arith)

kept_value : {V : Type 0} (f : Format V) → IsLawful f → (b : Bool) (v : Option V) (a : List ℕ) → (kept_at b f.grammar).spells v a → length a ≤ input_limit → IfSome v f.IsValue
kept_value f law true v a s h = subst (λ w. IfSome w f.IsValue) (sym s.2) (law.a_value s.0 a s.1 h)
kept_value f law false v a s h = subst (λ w. IfSome w f.IsValue) (sym s.0) tt

pub lawful_kept : {V : Type 0} (bit : ℕ) (f : Format V) → IsLawful f → AreLawful (kept bit f)
lawful_kept bit f law = record {
  reads = λ mask. part_reads (has mask bit) None (made some_of f.grammar) (made_reads some_of f.grammar law.reads);
  canonical = λ mask. kept_canonical f law (has mask bit);
  shortest = λ mask. kept_shortest f law (has mask bit);
  a_value = λ mask. kept_value f law (has mask bit);
}

-- ---- a part of which null is the absent one

null_canonical : {V : Type 0} (f : Format (Option V)) → IsLawful f → (b : Bool) (v : Option V) → b ≡ is_some v → f.IsValue v → (part b None f.grammar).spells v (canon_unless_null f v)
null_canonical f law true None e h = absurd cc
null_canonical f law false None e h = (refl, refl)
null_canonical f law true (Some v) e h = law.canonical (Some v) h
null_canonical f law false (Some v) e h = absurd cc

null_shortest : {V : Type 0} (f : Format (Option V)) → IsLawful f → (b : Bool) (v : Option V) (a : List ℕ) → (part b None f.grammar).spells v a → length (canon_unless_null f v) ≤ length a
null_shortest f law b None a s = omega arith
null_shortest f law true (Some v) a s = law.shortest (Some v) a s
null_shortest f law false (Some v) a s = absurd cc

null_value : {V : Type 0} (f : Format (Option V)) → IsLawful f → f.IsValue None → (b : Bool) (v : Option V) (a : List ℕ) → (part b None f.grammar).spells v a → length a ≤ input_limit → f.IsValue v
null_value f law none true v a s h = law.a_value v a s h
null_value f law none false v a s h = subst f.IsValue (sym s.0) none

pub lawful_unless_null : {V : Type 0} (bit : ℕ) (f : Format (Option V)) → IsLawful f → f.IsValue None → AreLawful (unless_null bit f)
lawful_unless_null bit f law none = record {
  reads = λ mask. part_reads (has mask bit) None f.grammar law.reads;
  canonical = λ mask. null_canonical f law (has mask bit);
  shortest = λ mask. null_shortest f law (has mask bit);
  a_value = λ mask. null_value f law none (has mask bit);
}

-- ---- several parts

pub lawful_then : {V W : Type 0} (f : Flagged V) (g : Flagged W) → AreLawful f → AreLawful g → AreLawful (then f g)
lawful_then f g law also = record {
  reads = λ mask. both_reads (f.behind mask) (g.behind mask) (law.reads mask) (also.reads mask);
  canonical = λ mask v s h. (f.canon v.0, g.canon v.1, law.canonical mask v.0 s.0 h.0, also.canonical mask v.1 s.1 h.1, refl);
  shortest = λ mask v a s. omega (arith, law.shortest mask v.0 s.0 s.2, also.shortest mask v.1 s.1 s.3, ap length s.4, length-append s.0 s.1, length-append (f.canon v.0) (g.canon v.1));
  a_value = λ mask v a s h. (law.a_value mask v.0 s.0 s.2 (omega (arith, ap length s.4, length-append s.0 s.1)), also.a_value mask v.1 s.1 s.3 (omega (arith, ap length s.4, length-append s.0 s.1)));
}

shown_reads : {V W : Type 0} (show : V → W) (back : W → V) (f : Flagged W) → ((v : V) → back (show v) ≡ v) → ((w : W) → show (back w) ≡ w) → AreLawful f → (mask : ℕ) → IsGrammar ((shown show back f).behind mask)
shown_reads {V} {W} show back f shows made law mask = record {
  takes = λ bytes v rest fits e.
      let one = bind_some ((f.behind mask).front bytes) (λ x. Some (back x.0, x.1)) (v, rest) e in
      let s = (law.reads mask).takes bytes one.0.0 one.0.1 fits one.1 in
      takes_as ((shown show back f).behind mask) bytes s.text (back one.0.0) v one.0.1 rest one.2 s.parts (subst (λ w. (f.behind mask).spells w s.text) (sym (made one.0.0)) s.spelled);
  again = λ v a rest s. rw ((law.reads mask).again (show v) a rest s) (ap (λ (w : V). let r : Option (V × List ℕ) = Some (w, rest) in r) (shows v));
}

pub lawful_shown : {V W : Type 0} (show : V → W) (back : W → V) (f : Flagged W) → ((v : V) → back (show v) ≡ v) → ((w : W) → show (back w) ≡ w) → AreLawful f → AreLawful (shown show back f)
lawful_shown show back f shows made law = record {
  reads = shown_reads show back f shows made law;
  canonical = λ mask v. law.canonical mask (show v);
  shortest = λ mask v. law.shortest mask (show v);
  a_value = λ mask v. law.a_value mask (show v);
}
