use Rattle.std.proofs.Common.{◌∙◌, ap, refl, Some, None, Ok, false}
use Rattle.ua_serve.proofs.LingerLemmas.{drains}
use Rattle.ua_serve.proofs.lingering.LingeringLink.drain.Goals as goal

pub returns-in-Ok-None : goal.returns-in-Ok-None
returns-in-Ok-None g c = drains _ _ c.args.self.now _ c.recv_now.result (Ok None) c.recv_now.new.buf (Some false) c.recv_now.ensures.bytes c.recv_now.ensures.tried c.recv_now.ensures.kept c.recv_now.ensures.counted refl
    (c.in-Ok-None.is ∙ ap Ok c.in-Ok-None.field-0-is) refl refl
