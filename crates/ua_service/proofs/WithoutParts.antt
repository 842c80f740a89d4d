-- Diagnostics without a part.
use Rattle.std.proofs.Common.{◌≡◌, ◌≤◌, ◌<◌, ◌-◌, ◌∙◌, ℕ, zero, suc, List, [], ◌∷◌, length, get_or, take, drop, Option, Some, refl, ap, sym, arith}
use Rattle.std.proofs.lemmas.List.{take_all}
use Rattle.ua_variant.specs.Diagnostic.{Diagnostic, within, diagnostic}
use Rattle.ua_variant.specs.DiagnosticParts.{diagnostic_parts}
use Rattle.ua_service.specs.Headers.{no_diagnostics}

-- the mask without a bit, and what follows
without_part : (d : ℕ) (rest : List ℕ) → 0 < d → (within d).front (0 ∷ rest) ≡ Some (no_diagnostics, rest)
unfolding within diagnostic_parts
without_part zero rest h = absurd (omega arith)
without_part (suc d) rest h = refl

within_at : (d : ℕ) (input : List ℕ) → 0 < d → 1 ≤ length input → get_or input 0 0 ≡ 0 → (within d).front input ≡ Some (no_diagnostics, take (length input - 1) (drop 1 input))
within_at d [] h some e = absurd (omega arith)
within_at d (m ∷ rest) h some e =
    let s : List ℕ → Option (Diagnostic × List ℕ) = λ l. Some (no_diagnostics, l) in
    ap (λ (k : ℕ). (within d).front (k ∷ rest)) e ∙ without_part d rest h ∙ ap s (sym (take_all (length (m ∷ rest) - 1) rest (omega arith)))

pub no_part : (input : List ℕ) → 1 ≤ length input → get_or input 0 0 ≡ 0 → diagnostic.grammar.front input ≡ Some (no_diagnostics, take (length input - 1) (drop 1 input))
unfolding diagnostic
no_part input some e = within_at 100 input (omega arith) some e
