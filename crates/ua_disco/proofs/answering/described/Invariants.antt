use Rattle.std.proofs.Common.{◌≡◌, take}
use Rattle.ua_disco.specs.Answers.{servers_among}
use Rattle.ua_disco.proofs.answering.described.Given as goal

abbrev pub invariant-loop-spelled : goal.invariant-loop-spelled
invariant-loop-spelled l = l.found.items ≡ servers_among l.locales l.filter (take l.spelled-index l.listed)
