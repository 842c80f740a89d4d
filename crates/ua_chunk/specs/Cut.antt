-- A message cut into parts. OPC 10000-6, 6.7.2.2 (IsFinal: C, F).
use Rattle.std.specs.Prelude.{◌≡◌, ℕ, ◌+◌, ◌-◌, ◌*◌, ◌/◌, ◌≤◌, ◌==◌, max, List, [], ◌∷◌, map, length, take, drop, flat_map, if◌then◌else◌, ◌⊎◌}
use Rattle.std.specs.List.{range_with_len, AllByRecursion}

-- one part of a message
pub record Part : Type 0 where
  pub id : ℕ
  pub flag : ℕ
  pub bytes : List ℕ

-- the parts joined
abbrev pub joined : List Part → List ℕ
joined parts = flat_map (λ p. p.bytes) parts

-- each part is flagged C but the last, which is F
abbrev pub AreFlagged : List Part → Type 0
AreFlagged [] = ⊥
AreFlagged (p ∷ []) = p.flag ≡ 70
AreFlagged (p ∷ q ∷ parts) = (p.flag ≡ 67) × AreFlagged (q ∷ parts)

-- The parts joined are the body, all carry the request id, and each is flagged C but the last, which is F.
pub record CutOf (id : ℕ) (body : List ℕ) (parts : List Part) : Type 0 where
  pub whole : joined parts ≡ body
  pub same : AllByRecursion (λ (p : Part). p.id ≡ id) parts
  pub flagged : AreFlagged parts

-- k bytes in each part, in the last 1 to k
abbrev pub HaveSize : ℕ → List Part → Type 0
HaveSize k [] = Unit {0}
HaveSize k (p ∷ []) = (1 ≤ length p.bytes) × (length p.bytes ≤ k)
HaveSize k (p ∷ q ∷ parts) = (length p.bytes ≡ k) × HaveSize k (q ∷ parts)

-- parts of that size, or the one empty part of an empty body
abbrev pub AreFilled : ℕ → List Part → Type 0
AreFilled k parts = HaveSize k parts ⊎ (map (λ p. length p.bytes) parts ≡ 0 ∷ [])

-- how many parts of at most k bytes hold that many bytes; none need one
abbrev pub part_count : ℕ → ℕ → ℕ
part_count len k = max 1 ((len + k - 1) / k)

abbrev pub part_flag : ℕ → ℕ → ℕ
part_flag count i = if i + 1 == count then 70 else 67

-- the i-th part: k bytes, and at the end what is left
abbrev pub part_at : ℕ → List ℕ → ℕ → ℕ → Part
part_at id body k i = record { id = id; flag = part_flag (part_count (length body) k) i; bytes = take k (drop (i * k) body) }

-- the one cut of a body whose parts have k bytes, the last 1 to k
unfoldable pub fill : ℕ → List ℕ → ℕ → List Part
fill id body k = map (part_at id body k) (range_with_len 0 (part_count (length body) k))
