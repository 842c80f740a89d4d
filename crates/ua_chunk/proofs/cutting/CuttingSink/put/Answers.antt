use Rattle.std.proofs.Common.{◌++◌, List, ℕ, ap, ◌∙◌, arith, inl, refl}
use Rattle.ua_chunk.proofs.CutLemmas.{cut_by_end, shown_by_end}
use Rattle.ua_chunk.proofs.cutting.CuttingSink.put.Goals as goal

pub invariant_of-self-2 : goal.invariant_of-self-2
invariant_of-self-2 c =
    let s = c.self.inside in
    let p = s.plan in (
      c.self.invariant.0,
      cut_by_end p.head.channel p.head.token p.head.request_id p.part_limit p.total p.first p.start s.at.number s.at.left s.at.room s.at.full s.out.items c.args.bytes.now c.extend_from_slice.new.self.items
          _ _ c.self.invariant.1 (inl (omega (arith, c.if-len-self.false))) refl refl c.in_ok-extend_from_slice.ensures.items,
    )

pub returns : goal.returns
returns c =
    let s = c.self.inside in
    let p = s.plan in
    shown_by_end p.head.channel p.head.token p.head.request_id p.part_limit p.total p.first p.start s.at.number s.at.left s.at.room s.at.full s.out.items c.args.bytes.now c.extend_from_slice.new.self.items
    c.self.invariant.1 c.in_ok-extend_from_slice.ensures.items
    ∙ ap (λ (l : List ℕ). l ++ c.args.bytes.now) c.self.view_is
