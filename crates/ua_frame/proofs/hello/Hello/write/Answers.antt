use Rattle.std.proofs.Common.{arith}
use Rattle.ua_frame.specs.Hello.{hello_layout}
use Rattle.ua_frame.specs.HelloLaws.{hello_length}
use Rattle.ua_frame.proofs.hello.Hello.write.Goals as goal

pub write_frame-requires-clause-len : goal.write_frame-requires-clause-len
unfolding hello_layout
write_frame-requires-clause-len c = omega (arith, hello_length c.args.self.now, c.len.ensures.length)

pub returns : goal.returns
unfolding hello_layout
returns c = c.write_frame.ensures
