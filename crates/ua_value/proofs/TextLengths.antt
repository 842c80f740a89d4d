-- How many bytes an array of texts takes.
use Rattle.std.proofs.Common.{◌≤◌, ◌*◌, ℕ, List, ◌∷◌, [], length, map, Option, Some, arith, ap, length-append}
use Rattle.std.specs.List.{All, flat_map}
use Rattle.std.specs.Int.{w32, to_le_bytes}
use Rattle.std.proofs.lemmas.List.Concat.{flat_map-cons}
use Rattle.std.proofs.lemmas.List.Elements.{All-head, All-tail}
use Rattle.ua_value.specs.Text.{canon_bytes, longest}

pub within : {T : Type 0} (f : T → List ℕ) (ts : List T) → All (λ t. length (f t) ≤ longest) ts
    → length (flat_map canon_bytes (map (λ t. let o : Option (List ℕ) = Some (f t) in o) ts)) ≤ 2147483651 * length ts
within f [] h = omega arith
within f (t ∷ ts) h =
    let some : Option (List ℕ) = Some (f t) in
    let rest : List (Option (List ℕ)) = map (λ t. let o : Option (List ℕ) = Some (f t) in o) ts in
    let here = All-head (λ t. length (f t) ≤ longest) t ts h in
    let there = within f ts (All-tail (λ t. length (f t) ≤ longest) t ts h) in
    omega (arith, here, there, ap length (flat_map-cons canon_bytes some rest), length-append (canon_bytes some) (flat_map canon_bytes rest), length-append (to_le_bytes w32 (length (f t))) (f t))
