use Rattle.std.proofs.Common.{string_bytes}
use Rattle.ua_walk.specs.Parts.{joined}
use Rattle.ua_trace.proofs.Weave.{message_told_put}
use Rattle.ua_trace.proofs.whole.WholeLinesTeller.tell_message.Goals as goal

pub returns : goal.returns
returns c = message_told_put c.add_under.result (string_bytes c.args.self.now.text) (string_bytes c.add_parts.new.text) (string_bytes c.add_under.new.text) c.args.request_id (joined c.args.parts.now) c.in_ok-add_parts.ensures c.add_under.ensures
