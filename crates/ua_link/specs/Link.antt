-- What a call of a link does to its count of faults.
use Rattle.std.specs.Prelude.{◌≡◌, ℕ, ◌+◌, Result, Ok, Err, MatchResult}

-- one more at an `Err`, and none else
abbrev pub Counts : {A E : Type 0} → Result A E → ℕ → ℕ → Type 0
Counts r old new = MatchResult r (λ _. new ≡ old) (λ _. new ≡ old + 1)

-- how many of `all` bytes went out
abbrev pub sent_of : {A : Type 0} → Result A ℕ → ℕ → ℕ
sent_of (Ok a) all = all
sent_of (Err n) all = n
