use Rattle.std.proofs.Common.{◌≡◌, ◌+◌, ◌≤◌, length}
use Rattle.std.specs.Prelude.{All, string_bytes}
use Rattle.ua_compare.specs.Offer.{times_lent}
use Rattle.ua_compare.proofs.differing.add_missing.Given as goal

-- a byte at least was appended for each, and one at most was taken away
abbrev pub invariant-loop-one : goal.invariant-loop-one
invariant-loop-one g l = record {
  apart : All (λ m. times_lent g.D.PartialEq.eq m.now l.extra.items ≡ 0) l.missing;
  grown : length (string_bytes l.initial.text) + l.one-index ≤ length (string_bytes l.text);
  taken : length l.initial.extra.items ≤ length l.extra.items + l.one-index;
}
