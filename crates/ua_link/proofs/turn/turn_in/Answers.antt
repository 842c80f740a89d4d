use Rattle.std.proofs.Common.{rules, w64, ◌≡◌, ◌∙◌, arith, length, take, refl, sym, subst, inl, inr}
use Rattle.std.proofs.lemmas.Int.{to_z-of_z}
use mir.Val.{SFits}
use Rattle.std.specs.Io.KnownBytes.{Consumes, IsAtEnd}
use Rattle.ua_link.specs.Clock.{Answered}
use Rattle.ua_link.specs.Reads.{moment_of_read}
use Rattle.ua_link.specs.Turns.{Seen}
use Rattle.ua_link.proofs.ClockLemmas.{not_asked}
use Rattle.ua_link.proofs.TurnLemmas.{heard_since, none_read}
use Rattle.ua_link.proofs.turn.turn_in.Goals as goal

pub returns-in_default-clause-turns : goal.returns-in_default-clause-turns
returns-in_default-clause-turns g c = inl (record {
  cut = c.ended.ensures.cut;
  ending = c.ended.ensures.ending;
  written = c.ended.ensures.written;
  hands = c.ended.ensures.requests;
  server = refl;
  input = c.in_default.ensures.bytes;
  output = c.recv.ensures.kept;
  counted = c.in_default.ensures.counted;
})

pub returns-in_default-clause-asked : goal.returns-in_default-clause-asked
returns-in_default-clause-asked g c = subst (λ cut. Answered (g.C.Clock.answered c.args.clock.now) (g.C.Clock.answered c.args.clock.now) (moment_of_read cut)) (sym c.ended.ensures.cut)
    (not_asked (g.C.Clock.answered c.args.clock.now))

pub returns-clause-asked : goal.returns-clause-asked
returns-clause-asked g c =
    let fits : SFits w64 c.now-now.result = search rules in
    let cut = simp to_z-of_z at c.answer_read.ensures.cut in
    subst (λ cut. Answered (g.C.Clock.answered c.args.clock.now) (g.C.Clock.answered c.now-now.new.self) (moment_of_read cut)) (sym cut) c.now-now.ensures

pub returns-clause-turns : goal.returns-clause-turns
returns-clause-turns g c =
    let n = c.in-Ok.n in
    let buf = c.recv.new.buf in
    let input = g.L.Link.input in
    let bound = c.in-Ok.ensures.bound in
    let kept = sym c.answer_read.ensures.kept in
    let fits : SFits w64 c.now-now.result = search rules in
    let room : length buf ≡ 4096 = c.recv.auto.buf ∙ c.told-room in
    let old : Seen = record { input = input c.args.link.now; output = g.L.Link.output c.args.link.now; faults = g.L.Link.fault_count c.args.link.now } in
    let before : Seen = record { input = input c.recv.new.self; output = g.L.Link.output c.recv.new.self; faults = g.L.Link.fault_count c.recv.new.self } in
    let after : Seen = record { input = input c.answer_read.new.link; output = g.L.Link.output c.answer_read.new.link; faults = g.L.Link.fault_count c.answer_read.new.link } in
    inr (record {
      now = c.now-now.result;
      bytes = take n buf;
      cut = simp to_z-of_z at c.answer_read.ensures.cut;
      input = subst (λ i. Consumes (input c.args.link.now) i (take n buf)) kept c.in-Ok.ensures.bytes.0;
      within = omega arith;
      at_end = λ none. subst IsAtEnd kept (c.in-Ok.ensures.bytes.1 (none_read n buf bound.0 none) (omega arith));
      heard = heard_since c.args.server.now c.answer_read.new.server c.now-now.result (take n buf) old before after c.answer_read.result c.recv.ensures.kept c.in-Ok.ensures.counted (simp to_z-of_z at c.answer_read.ensures.heard);
    })
