use Rattle.std.proofs.Common.{◌≡◌, map, drop}
use Rattle.ua_disco.specs.Reading.{is_known}
use Rattle.ua_disco.proofs.reading.is_one_of.Given as goal

abbrev pub invariant-loop-word : goal.invariant-loop-word
invariant-loop-word l = is_known (map (λ k. k.now) l.known) l.key ≡ is_known (map (λ k. k.now) (drop l.word-index l.known)) l.key
