use Rattle.std.proofs.Common.{◌++◌, List, ℕ, ap, ◌∙◌}
use Rattle.ua_chunk.proofs.CutLemmas.{header_of_whole, cut_begins}
use Rattle.ua_chunk.proofs.message.put_frames.Goals as goal

pub returns-then-plan-clause-frames : goal.returns-then-plan-clause-frames
returns-then-plan-clause-frames g c =
    let p = c.args.plan.now in
    header_of_whole p.head.channel p.head.token p.head.request_id p.part_limit p.total p.first c.args.out.now.items c.next_header-header.result (g.M.Emit.spelling c.args.message.now) c.emit.new.sink.items
    c.requires.some c.requires.number c.requires.total c.if-plan.true c.next_header-header.ensures.header
    (c.in_ok-emit.ensures.ok ∙ ap (λ (l : List ℕ). l ++ g.M.Emit.spelling c.args.message.now) (c.in_ok-extend_from_slice.ensures.items ∙ ap (λ (l : List ℕ). l ++ c.next_header-header.result) c.in_ok-reserve.ensures.items))

pub put_cut-requires-clause-cut : goal.put_cut-requires-clause-cut
put_cut-requires-clause-cut g c =
    let p = c.args.plan.now in
    let h = c.next_header-header in
    cut_begins p.head.channel p.head.token p.head.request_id p.part_limit p.total p.first p.start c.args.out.now.items h.result c.extend_from_slice.new.self.items h.new.at.number h.new.at.left h.new.at.room h.new.at.full
    c.requires.some c.requires.number c.requires.start h.ensures.header h.ensures.number h.ensures.left h.ensures.room h.ensures.full
    (c.in_ok-extend_from_slice.ensures.items ∙ ap (λ (l : List ℕ). l ++ h.result) c.in_ok-reserve.ensures.items)
