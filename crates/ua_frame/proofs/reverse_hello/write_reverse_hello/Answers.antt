use Rattle.std.proofs.Common.{arith, length-append}
use Rattle.ua_value.specs.Text.{string}
use Rattle.ua_frame.specs.Hello.{reverse_hello_layout}
use Rattle.ua_frame.specs.HelloLaws.{text_length}
use Rattle.ua_frame.proofs.reverse_hello.write_reverse_hello.Goals as goal

pub overflow_cast-len : goal.overflow_cast-len
overflow_cast-len c = omega (arith, text_length c.args.server_uri.now, text_length c.args.endpoint_url.now, c.len.ensures.length, c.len-2.ensures.length, c.requires)

pub write_frame-requires-clause-room : goal.write_frame-requires-clause-room
write_frame-requires-clause-room c = omega (arith, text_length c.args.server_uri.now, text_length c.args.endpoint_url.now, c.len.ensures.length, c.len-2.ensures.length, c.requires)

pub write_frame-requires-clause-len : goal.write_frame-requires-clause-len
write_frame-requires-clause-len c =
    omega (arith, length-append (string.canon c.args.server_uri.now) (string.canon c.args.endpoint_url.now), c.len.ensures.length, c.len-2.ensures.length)

pub returns : goal.returns
unfolding reverse_hello_layout
returns c = c.write_frame.ensures
