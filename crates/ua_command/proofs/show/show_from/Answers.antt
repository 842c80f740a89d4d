use Rattle.std.proofs.Common.{refl}
use Rattle.ua_command.proofs.Showing.{packets_shown, raw_shown}
use Rattle.ua_command.proofs.show.show_from.Goals as goal

pub returns-in-Raw-clause-ok : goal.returns-in-Raw-clause-ok
returns-in-Raw-clause-ok g c =
    let begun = rw c.in-Raw.is at c.in_ok-bytes.ensures in
    raw_shown c.args.form _ c.in-Raw.bytes.items _ _ _ _ c.show_in.result begun.0 begun.1 refl (rw c.as_slice.ensures.value at c.show_in.ensures.ok)

pub returns-in-Packets-clause-ok : goal.returns-in-Packets-clause-ok
returns-in-Packets-clause-ok g c =
    let begun = rw c.in-Packets.is at c.in_ok-bytes.ensures in
    packets_shown c.args.form _ _ c.in-Packets.front.items _ _ _ _ c.trace_or_tell.result begun.0 begun.1 c.trace_or_tell.ensures.status c.trace_or_tell.ensures.untold
