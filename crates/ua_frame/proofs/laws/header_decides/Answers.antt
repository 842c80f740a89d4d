use Rattle.ua_frame.specs.HeaderLaws.{header_fault_take}
use Rattle.ua_frame.proofs.laws.header_decides.Goals as goal

pub returns : goal.returns
returns c = header_fault_take
