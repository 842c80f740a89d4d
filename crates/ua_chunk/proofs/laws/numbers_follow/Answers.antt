use Rattle.ua_chunk.specs.NumberLaws.{numbers_follow}
use Rattle.ua_chunk.proofs.laws.numbers_follow.Goals as goal

pub returns : goal.returns
returns c = numbers_follow
