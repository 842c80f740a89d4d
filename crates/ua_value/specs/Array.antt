-- Arrays (OPC 10000-6, 5.2.5): a count in four bytes and the items, or -1 where there is none.
use Rattle.std.specs.Prelude.{◌≡◌, ℕ, zero, suc, ◌≤◌, ◌<◌, ◌==◌, List, [], ◌∷◌, ◌++◌, length, Option, Some, None, if◌then◌else◌, nat_lt}
use Rattle.std.specs.List.{flat_map, AllByRecursion}
use Rattle.std.specs.Int.{w32, to_le_bytes}
use Rattle.ua_value.specs.Format.{◌>>=◌, Grammar, Format, input_limit}
use Rattle.ua_value.specs.Number.{unsigned}
use Rattle.ua_value.specs.Text.{null, longest}

-- the items are spelled one after another
abbrev pub SpellsItems : {V : Type 0} → Grammar V → List V → List ℕ → Type 0
SpellsItems g [] bytes = bytes ≡ []
SpellsItems g (v ∷ vs) bytes = (first : List ℕ) × (others : List ℕ) × g.spells v first × SpellsItems g vs others × (bytes ≡ first ++ others)

-- as many items as the count says
unfoldable pub items_at : {V : Type 0} → Grammar V → ℕ → List ℕ → Option (List V × List ℕ)
items_at g zero bytes = Some ([], bytes)
items_at g (suc n) bytes = g.front bytes >>= λ v. (items_at g n v.1 >>= λ vs. Some (v.0 ∷ vs.0, vs.1))

abbrev pub SpellsArray : {V : Type 0} → Grammar V → Option (List V) → List ℕ → Type 0
SpellsArray g None bytes = bytes ≡ null
SpellsArray g (Some vs) bytes = (length vs ≤ longest) × (items : List ℕ) × SpellsItems g vs items × (bytes ≡ to_le_bytes w32 (length vs) ++ items)

-- no count is greater than the number of bytes behind it
abbrev pub counted_items_at : {V : Type 0} → Grammar V → ℕ → List ℕ → Option (Option (List V) × List ℕ)
counted_items_at g n bytes =
    if n == 0xffff_ffff then Some (None, bytes)
    else (if nat_lt longest n then None
    else (if nat_lt (length bytes) n then None
    else (items_at g n bytes >>= λ vs. Some (Some vs.0, vs.1))))

-- the count says more items than there are bytes behind it
abbrev pub CountsMore : Option (ℕ × List ℕ) → Type 0
CountsMore None = ⊥
CountsMore (Some n) = (n.0 < 0xffff_ffff) × (length n.1 < n.0)

abbrev pub array_at : {V : Type 0} → Grammar V → List ℕ → Option (Option (List V) × List ℕ)
array_at g bytes = (unsigned w32).grammar.front bytes >>= λ n. counted_items_at g n.0 n.1

abbrev pub canon_array : {V : Type 0} → Format V → Option (List V) → List ℕ
canon_array f None = null
canon_array f (Some vs) = to_le_bytes w32 (length vs) ++ flat_map f.canon vs

abbrev pub IsArray : {V : Type 0} → Format V → Option (List V) → Type 0
IsArray f None = Unit {0}
IsArray f (Some vs) = (length vs ≤ longest) × (length (flat_map f.canon vs) ≤ input_limit) × AllByRecursion f.IsValue vs

unfoldable pub array : {V : Type 0} → Format V → Format (Option (List V))
array f = record { grammar = record { spells = SpellsArray f.grammar; front = array_at f.grammar }; canon = canon_array f; IsValue = IsArray f }
