-- What is pending, as a map from ids and as a list in the order of asking.
use Rattle.std.proofs.Common.{◌≡◌, ℕ, Bool, true, false, cond, nat_eq, ◌==◌, List, [], ◌∷◌, Some, None, refl, sym, ap, ◌∙◌, true≢false}
use Rattle.std.specs.Prelude.{not, option_map}
use Rattle.std.specs.List.{filter, find}
use Rattle.std.specs.Map.{lookup, remove_entry}
use Rattle.std.proofs.lemmas.Bool.{eq-eqb, eqb-true}
use Rattle.ua_service.specs.declared.request.Request.{Request}
use Rattle.ua_conn.specs.client.Machine.{waiting_under, without}

-- ---- one number is another

same_by : (a b : ℕ) (p q : Bool) → (a == b) ≡ p → (b == a) ≡ q → p ≡ q
same_by a b true true h k = refl
same_by a b false false h k = refl
same_by a b true false h k = absurd (true≢false (sym (eq-eqb b a (sym (eqb-true a b h))) ∙ k))
same_by a b false true h k = absurd (true≢false (sym (eq-eqb a b (sym (eqb-true b a k))) ∙ h))

pub either_way : (a b : ℕ) → (a == b) ≡ (b == a)
either_way a b = same_by a b (a == b) (b == a) refl refl

-- ---- by any test

module _ {X : Type 0} (test : ℕ → Bool) where
  of_first : (b : Bool) (e : ℕ × X) (es : List (ℕ × X)) → option_map (λ p. p.1) (find (λ p. test p.0) es) ≡ lookup test es →
      option_map (λ p. p.1) (cond b (Some e) (find (λ p. test p.0) es)) ≡ cond b (Some e.1) (lookup test es)
  of_first true e es h = refl
  of_first false e es h = h

  found : (es : List (ℕ × X)) → option_map (λ p. p.1) (find (λ p. test p.0) es) ≡ lookup test es
  found [] = refl
  found (e ∷ es) = of_first (test e.0) e es (found es)

  kept_first : (b : Bool) (e : ℕ × X) (es : List (ℕ × X)) → (lookup test es ≡ None → es ≡ filter (λ p. not (test p.0)) es) →
      cond b (Some e.1) (lookup test es) ≡ None → e ∷ es ≡ cond (not b) (e ∷ filter (λ p. not (test p.0)) es) (filter (λ p. not (test p.0)) es)
  kept_first true e es h k = absurd (cc k)
  kept_first false e es h k = ap (λ l. e ∷ l) (h k)

  -- where nothing is found, nothing is left out
  kept : (es : List (ℕ × X)) → lookup test es ≡ None → es ≡ filter (λ p. not (test p.0)) es
  kept [] h = refl
  kept (e ∷ es) h = kept_first (test e.0) e es (kept es) h

  removed_first : (b : Bool) (e : ℕ × X) (es : List (ℕ × X)) → test e.0 ≡ b → (lookup test (remove_entry test es) ≡ None → remove_entry test es ≡ filter (λ p. not (test p.0)) es) →
      lookup test (cond b es (e ∷ remove_entry test es)) ≡ None →
      cond b es (e ∷ remove_entry test es) ≡ cond (not b) (e ∷ filter (λ p. not (test p.0)) es) (filter (λ p. not (test p.0)) es)
  removed_first true e es p h k = kept es k
  removed_first false e es p h k = ap (λ l. e ∷ l) (h (ap (λ b. cond b (Some e.1) (lookup test (remove_entry test es))) (sym p) ∙ k))

  -- where nothing is found any more, all were left out
  removed : (es : List (ℕ × X)) → lookup test (remove_entry test es) ≡ None → remove_entry test es ≡ filter (λ p. not (test p.0)) es
  removed [] h = refl
  removed (e ∷ es) h = removed_first (test e.0) e es refl (removed es) h

-- ---- by an id

pub waiting_is_found : (id : ℕ) (ps : List (ℕ × Request)) → lookup (nat_eq id) ps ≡ waiting_under id ps
waiting_is_found id ps = sym (found (nat_eq id) ps) ∙ (λ i. option_map (λ p. p.1) (find (λ p. either_way id p.0 i) ps))

pub without_is_removed : (id : ℕ) (ps : List (ℕ × Request)) → lookup (nat_eq id) (remove_entry (nat_eq id) ps) ≡ None → remove_entry (nat_eq id) ps ≡ without id ps
without_is_removed id ps h = removed (nat_eq id) ps h
