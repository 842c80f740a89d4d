-- What an assembly and a sequence hold: their parts, and nothing beside them.
use Rattle.std.specs.Prelude.{◌≡◌}
use Rattle.ua_chunk.specs.NumberLaws.{IsNumber}
use Rattle.ua_chunk.specs.declared.assembly.Assembly.TheInside.{Inside}
use Rattle.ua_chunk.specs.declared.sequence.Sequence.TheInside as sequence

-- These are all its parts: one that has the same is the same assembly.
abbrev pub IsAll : Inside → Type 0
IsAll s = (t : Inside) → t.max_message ≡ s.max_message → t.max_chunks ≡ s.max_chunks → t.id ≡ s.id → t.parts ≡ s.parts → t.whole ≡ s.whole → t.body ≡ s.body → t ≡ s

-- the same of a sequence: its next number is all that it keeps
abbrev pub IsAllOfSequence : sequence.Inside → Type 0
IsAllOfSequence s = (t : sequence.Inside) → t.next ≡ s.next → t ≡ s

-- a sender may give the next number, and there is no other part
pub record IsSequence (s : sequence.Inside) : Type 0 where
  pub number : IsNumber s.next
  pub all : IsAllOfSequence s
