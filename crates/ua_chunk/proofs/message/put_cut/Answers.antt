use Rattle.std.proofs.Common.{◌++◌, ap, ◌∙◌, arith}
use Rattle.std.proofs.lemmas.List.{length-drop}
use Rattle.ua_chunk.specs.Cutting.{shown}
use Rattle.ua_chunk.proofs.CutLemmas.{GoesOn, same_cut, all_put}
use Rattle.ua_chunk.proofs.message.put_cut.Goals as goal

goes_on : (g : _) (c : goal.In-Ok g) → GoesOn c.args.plan.now.head.channel c.args.plan.now.head.token c.args.plan.now.head.request_id c.args.plan.now.part_limit c.args.plan.now.total c.args.plan.now.first c.args.plan.now.start
    c.cutting.inside.at.number c.cutting.inside.at.left c.cutting.inside.at.room c.cutting.inside.at.full c.args.at.full c.cutting.inside.out.items c.args.out.now.items (g.M.Emit.spelling c.args.message.now)
goes_on g c =
    let p = c.args.plan.now in
    let s = c.cutting.inside in
    let o = c.args.out.now.items in
    same_cut p.head.channel p.head.token p.head.request_id p.part_limit p.total p.first p.start
    s.plan.head.channel s.plan.head.token s.plan.head.request_id s.plan.part_limit s.plan.total s.plan.first s.plan.start
    s.at.number s.at.left s.at.room s.at.full c.args.at.full s.out.items o (g.M.Emit.spelling c.args.message.now)
    c.cutting.invariant.1 (omega (arith, c.requires.cut.least, length-drop p.start o))
    (c.cutting.view_is ∙ c.in-Ok.ensures.ok ∙ ap (λ v. shown p.head.channel p.head.token p.head.request_id p.part_limit p.total p.first p.start c.args.at.full v.items ++ g.M.Emit.spelling c.args.message.now) c.replace.ensures.value)

pub returns-in-Ok-clause-frames : goal.returns-in-Ok-clause-frames
returns-in-Ok-clause-frames g c =
    (all_put _ _ _ _ _ _ _ _ _ _ _ _ _ _ _ (goes_on g c) c.requires.none c.requires.total).0

pub returns-in-Ok-clause-number : goal.returns-in-Ok-clause-number
returns-in-Ok-clause-number g c =
    (all_put _ _ _ _ _ _ _ _ _ _ _ _ _ _ _ (goes_on g c) c.requires.none c.requires.total).1

pub returns-in-Err-clause-begins : goal.returns-in-Err-clause-begins
returns-in-Err-clause-begins g c =
    let p = c.args.plan.now in
    let s = c.cutting.inside in
    let o = c.args.out.now.items in
    let part = c.in-Err.ensures.err.part in
    (same_cut p.head.channel p.head.token p.head.request_id p.part_limit p.total p.first p.start
    s.plan.head.channel s.plan.head.token s.plan.head.request_id s.plan.part_limit s.plan.total s.plan.first s.plan.start
    s.at.number s.at.left s.at.room s.at.full c.args.at.full s.out.items o part
    c.cutting.invariant.1 (omega (arith, c.requires.cut.least, length-drop p.start o))
    (c.cutting.view_is ∙ c.in-Err.ensures.err.appended ∙ ap (λ v. shown p.head.channel p.head.token p.head.request_id p.part_limit p.total p.first p.start c.args.at.full v.items ++ part) c.replace.ensures.value)).base
