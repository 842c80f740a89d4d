use Rattle.ua_frame.specs.LayoutLaws.{frame_bytes_is}
use Rattle.ua_frame.specs.HelloLaws.{hello_back, acknowledge_back, error_back, reverse_hello_back}
use Rattle.ua_frame.proofs.laws.written_is_read.Goals as goal

pub returns-clause-frame : goal.returns-clause-frame
returns-clause-frame c = frame_bytes_is

pub returns-clause-hello : goal.returns-clause-hello
returns-clause-hello c = hello_back

pub returns-clause-acknowledge : goal.returns-clause-acknowledge
returns-clause-acknowledge c = acknowledge_back

pub returns-clause-error : goal.returns-clause-error
returns-clause-error c = error_back

pub returns-clause-reverse_hello : goal.returns-clause-reverse_hello
returns-clause-reverse_hello c = reverse_hello_back
