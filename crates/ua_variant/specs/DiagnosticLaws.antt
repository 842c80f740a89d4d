-- The laws of a DiagnosticInfo.
use Rattle.std.proofs.Common.{◌≡◌, ◌≤◌, ℕ, zero, suc, List, ◌∷◌, ◌++◌, length, Bool, true, false, Some, refl, sym, ap, subst, arith, ltb, ltb-true, length-append}
use Rattle.std.proofs.lemmas.Bool.{lt-ltb}
use Rattle.ua_value.specs.Format.{Takes, IsGrammar, IsLawful, IsBytes, input_limit}
use Rattle.ua_value.specs.Sequence.{both, made, never, either}
use Rattle.ua_value.specs.SequenceLaws.{both_reads, made_reads, never_reads, either_reads, headed_reads}
use Rattle.ua_value.specs.Localized.{has}
use Rattle.ua_variant.specs.DiagnosticParts.{diagnostic_parts}
use Rattle.ua_variant.specs.DiagnosticPartsLaws.{lawful_parts, flags}
use Rattle.ua_variant.specs.Diagnostic.{Diagnostic, plain, around, depth, deepest, AreParts, Spells, IsWithin, canon, around_of, behind_mask, within, diagnostic}

-- ---- reading to a depth

pub within_reads : (d : ℕ) → IsGrammar (within d)
unfolding within
within_reads zero = never_reads
within_reads (suc d) = headed_reads (behind_mask (within d)) (λ mask. either_reads (ltb mask 128) _ _ (either_reads (has mask 0x40) _ _ (made_reads around_of _ (both_reads _ _ (lawful_parts.reads mask) (within_reads d))) (made_reads plain _ (lawful_parts.reads mask))) never_reads)

-- ---- it reads the spellings that are no deeper

behind_spells : (d mask : ℕ) (low inner : Bool) (v : Diagnostic) (x : List ℕ) → ltb mask 128 ≡ low → has mask 0x40 ≡ inner
    → ((w : Diagnostic) (y : List ℕ) → (within d).spells w y → IsWithin d w y)
    → (either low (either inner (made around_of (both (diagnostic_parts.behind mask) (within d))) (made plain (diagnostic_parts.behind mask))) never).spells v x
    → IsWithin (suc d) v (mask ∷ x)
behind_spells d mask false inner v x e i next s = absurd s
behind_spells d mask true true v x e i next s =
    let w = next s.0.1 s.1.1 s.1.3 in
    subst (λ (u : Diagnostic). IsWithin (suc d) u (mask ∷ x)) (sym s.2)
    (record { spells = (mask, s.1.0, s.1.1, ltb-true _ _ e, i, s.1.2, w.spells, ap (λ (l : List ℕ). mask ∷ l) s.1.4); depth = omega (arith, w.depth) })
behind_spells d mask true false v x e i next s =
    subst (λ (u : Diagnostic). IsWithin (suc d) u (mask ∷ x)) (sym s.2)
    (record { spells = (mask, x, ltb-true _ _ e, i, s.1, refl); depth = omega arith })

pub within_spells : (d : ℕ) (v : Diagnostic) (b : List ℕ) → (within d).spells v b → IsWithin d v b
unfolding within
within_spells zero v b s = absurd s
within_spells (suc d) v b s =
    subst (λ (l : List ℕ). IsWithin (suc d) v l) (sym s.4) (behind_spells d s.0 (ltb s.0 128) (has s.0 0x40) v s.1 refl refl (within_spells d) s.3)

pub spells_within : (v : Diagnostic) (d : ℕ) (b : List ℕ) → depth v ≤ d → Spells v b → (within d).spells v b
unfolding within
spells_within (plain p) zero b deep s = absurd (omega arith)
spells_within (around p inner) zero b deep s = absurd (omega arith)
spells_within (plain p) (suc d) b deep s = (s.0, s.1, omega (arith, s.2), rw (lt-ltb _ _ s.2, s.3) (p, s.4, refl), s.5)
spells_within (around p inner) (suc d) b deep s =
    (s.0, s.1 ++ s.2, omega (arith, s.3), rw (lt-ltb _ _ s.3, s.4) ((p, inner), (s.1, s.2, s.5, spells_within inner d s.2 (omega arith) s.6, refl), refl), s.7)

diagnostic_takes : (bytes : List ℕ) (v : Diagnostic) (rest : List ℕ) → IsBytes bytes → (within deepest).front bytes ≡ Some (v, rest) → Takes diagnostic.grammar bytes v rest
unfolding diagnostic
diagnostic_takes bytes v rest fits e =
    let t = (within_reads deepest).takes bytes v rest fits e in
    record { text = t.text; parts = t.parts; spelled = within_spells deepest v t.text t.spelled }

-- ---- the canonical spelling

pub canonical : (v : Diagnostic) → AreParts v → Spells v (canon v)
canonical (plain p) h =
    let f = flags p false in
    (_, diagnostic_parts.canon p, f.below, f.inside, lawful_parts.canonical _ p f.shows h, refl)
canonical (around p inner) h =
    let f = flags p true in
    (_, diagnostic_parts.canon p, canon inner, f.below, f.inside, lawful_parts.canonical _ p f.shows h.0, canonical inner h.1, refl)

pub shortest : (v : Diagnostic) (a : List ℕ) → Spells v a → length (canon v) ≤ length a
shortest (plain p) a s = omega (arith, ap length s.5, lawful_parts.shortest s.0 p s.1 s.4)
shortest (around p inner) a s = omega (arith, ap length s.7, lawful_parts.shortest s.0 p s.1 s.5, shortest inner s.2 s.6, length-append s.1 s.2, length-append (diagnostic_parts.canon p) (canon inner))

pub parts_are : (v : Diagnostic) (a : List ℕ) → Spells v a → length a ≤ input_limit → AreParts v
parts_are (plain p) a s h = lawful_parts.a_value s.0 p s.1 s.4 (omega (arith, ap length s.5))
parts_are (around p inner) a s h =
    (lawful_parts.a_value s.0 p s.1 s.5 (omega (arith, ap length s.7, length-append s.1 s.2)), parts_are inner s.2 s.6 (omega (arith, ap length s.7, length-append s.1 s.2)))

nonempty : (v : Diagnostic) (a : List ℕ) → Spells v a → 1 ≤ length a
nonempty (plain p) a s = omega (arith, ap length s.5)
nonempty (around p inner) a s = omega (arith, ap length s.7)

pub lawful_diagnostic : IsLawful diagnostic
unfolding diagnostic
lawful_diagnostic = record {
  reads = record { takes = diagnostic_takes; again = λ v a rest s. (within_reads deepest).again v a rest (spells_within v deepest a s.depth s.spells) };
  nonempty = λ v a s. nonempty v a s.spells;
  canonical = λ v h. record { spells = canonical v h.parts; depth = h.depth };
  shortest = λ v a s. shortest v a s.spells;
  a_value = λ v a s h. record { parts = parts_are v a s.spells h; depth = s.depth };
}
