use Rattle.std.proofs.Common.{arith}
use Rattle.ua_frame.specs.Hello.{error_layout}
use Rattle.ua_frame.specs.HelloLaws.{error_length}
use Rattle.ua_frame.proofs.error_frame.ErrorFrame.write.Goals as goal

pub write_frame-requires-clause-len : goal.write_frame-requires-clause-len
unfolding error_layout
write_frame-requires-clause-len c = omega (arith, error_length c.args.self.now, c.len.ensures.length)

pub returns : goal.returns
unfolding error_layout
returns c = c.write_frame.ensures
