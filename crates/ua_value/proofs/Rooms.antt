-- The room of a list that grows.
use Rattle.std.proofs.Common.{◌≡◌, ◌≤◌, ◌<◌, ◌+◌, ◌-◌, ◌*◌, ℕ, arith}
use Rattle.std.specs.Prelude.{max}

-- what was made for one more follows how many were read
pub by_read : (first before made after n m : ℕ) → after ≡ made → m ≡ n + 1 → made ≤ max before (64 + 2 * n) → before ≤ max first (64 + 2 * n)
    → after ≤ max first (64 + 2 * m)
by_read first before made after n m kept next grew so_far = omega arith

-- the same under a limit
pub by_limit : (first before made after n m limit : ℕ) → after ≡ made → m ≡ n + 1 → made ≤ max before (max limit (4 + 2 * n)) → before ≤ max first (max limit (4 + 2 * n))
    → after ≤ max first (max limit (4 + 2 * m))
by_limit first before made after n m limit kept next grew so_far = omega arith

-- and under a count
pub by_count : (before made after count n i : ℕ) → after ≡ made → n ≡ i → i < count → made ≤ max before (n + (count - i)) → before ≤ count → after ≤ count
by_count before made after count n i kept as_many below grew so_far = omega arith
