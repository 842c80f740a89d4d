use Rattle.ua_print.proofs.FrameLines.{message_said}
use Rattle.ua_print.proofs.frame_line.add_message_text.Goals as goal

pub returns : goal.returns
returns c = message_said c.add_number-2.result _ c.args.request_id c.args.size _ _ _ _ _ (cc) c.in_ok-add_number.ensures c.in_ok-add_type.ensures c.add_number-2.ensures
