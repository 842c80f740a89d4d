use Rattle.ua_frame.specs.Hello.{acknowledge_layout}
use Rattle.ua_frame.specs.HelloLaws.{acknowledge_length}
use Rattle.ua_frame.proofs.acknowledge.Ack.write.Goals as goal

pub write_frame-requires-clause-len : goal.write_frame-requires-clause-len
unfolding acknowledge_layout
write_frame-requires-clause-len c = acknowledge_length c.args.self.now

pub returns : goal.returns
unfolding acknowledge_layout
returns c = c.write_frame.ensures
