use Rattle.std.proofs.Common.{arith, rules, ◌+◌, sym, ap, subst, ◌∙◌, length, take, take_all}
use Rattle.std.specs.Io.KnownBytes.{Appends}
use Rattle.ua_conn.specs.declared.outcome.End.TheVariants.{LinkFailed, NoMemory}
use Rattle.ua_link.specs.Clock.{Answered}
use Rattle.ua_link.specs.Reads.{moments}
use Rattle.ua_link.specs.Turns.{Seen}
use Rattle.ua_link.specs.Reports.{Serving, Served, cuts_with}
use Rattle.ua_link.proofs.ClockLemmas.{not_asked, asked_with}
use Rattle.ua_link.proofs.ReportLemmas.{start, ungreeted, starved, spent, turn_goes_on, turn_ends, cut_counted}
use Rattle.ua_link.proofs.serving.serve_from.Goals as goal

pub turns-preserved : goal.turns-preserved
turns-preserved g c =
    let site = c.args.server.site in
    let before : Seen = record { input = g.L.Link.input c.args.link.now; output = g.L.Link.output c.args.link.now; faults = g.L.Link.fault_count c.args.link.now } in
    let mid : Seen = record { input = g.L.Link.input c.turns.link; output = g.L.Link.output c.turns.link; faults = g.L.Link.fault_count c.turns.link } in
    let after : Seen = record { input = g.L.Link.input c.turn_in-turn.new.link; output = g.L.Link.output c.turn_in-turn.new.link; faults = g.L.Link.fault_count c.turn_in-turn.new.link } in
    let turn = c.turn_in-turn.result in
    let old = c.turns.cuts.items in
    let cuts = c.add.ensures ∙ ap (cuts_with turn.cut) c.reserve.ensures.items in
    let n = c.turns.written in
    record {
      entries = ap length cuts ∙ cut_counted c.turns.server c.turn_in-turn.new.server old mid after turn c.turn_in-turn.ensures.turns c.in_default-end.is ∙ ap (λ k. k + 1) c.turns.invariant.entries;
      bound = omega (arith, c.turns.invariant.bound);
      serving = λ reverse first. subst (λ cs. Serving reverse site c.turn_in-turn.new.server cs (n + turn.written) before after) (sym cuts)
          (turn_goes_on reverse site c.turns.server c.turn_in-turn.new.server old n before mid after turn (c.turns.invariant.serving reverse first) c.turn_in-turn.ensures.turns c.in_default-end.is);
      asked = subst (λ cs. Answered (g.C.Clock.answered c.args.clock.now) (g.C.Clock.answered c.turn_in-turn.new.clock) (moments cs)) (sym cuts)
          (asked_with (g.C.Clock.answered c.args.clock.now) (g.C.Clock.answered c.turns.clock) (g.C.Clock.answered c.turn_in-turn.new.clock) old turn.cut c.turns.invariant.asked c.turn_in-turn.ensures.asked);
    }

pub returns-in-Err-clause-served : goal.returns-in-Err-clause-served
returns-in-Err-clause-served g c = λ reverse first.
    let site = c.args.server.site in
    let before : Seen = record { input = g.L.Link.input c.args.link.now; output = g.L.Link.output c.args.link.now; faults = g.L.Link.fault_count c.args.link.now } in
    let after : Seen = record { input = g.L.Link.input c.send_all.new.link; output = g.L.Link.output c.send_all.new.link; faults = g.L.Link.fault_count c.send_all.new.link } in
    subst (λ cs. Served reverse site c.args.turns before after LinkFailed cs c.in-Err.sent) (sym c.new-cuts.ensures.items)
    (ungreeted reverse site c.in-Err.sent c.args.turns before after (omega (arith, c.in-Err.ensures.within, ap length first)) c.in-Err.ensures.kept
    (subst (λ b. Appends before.output after.output (take c.in-Err.sent b)) first c.in-Err.ensures.sent) c.in-Err.ensures.counted)

pub turns-init : goal.turns-init
turns-init g c =
    let site = c.args.server.site in
    let before : Seen = record { input = g.L.Link.input c.args.link.now; output = g.L.Link.output c.args.link.now; faults = g.L.Link.fault_count c.args.link.now } in
    let after : Seen = record { input = g.L.Link.input c.send_all.new.link; output = g.L.Link.output c.send_all.new.link; faults = g.L.Link.fault_count c.send_all.new.link } in
    record {
      entries = ap length c.new-cuts.ensures.items;
      bound = search rules;
      serving = λ reverse first. subst (λ cs. Serving reverse site c.args.server cs (length c.args.said.now) before after) (sym c.new-cuts.ensures.items)
          (start reverse site c.args.server (length c.args.said.now) before after c.requires.fresh (ap length first) c.in_default.ensures.kept
          (subst (Appends before.output after.output) (take_all (length c.args.said.now) c.args.said.now (omega arith) ∙ first) c.in_default.ensures.sent) c.in_default.ensures.counted);
      asked = subst (λ cs. Answered (g.C.Clock.answered c.args.clock.now) (g.C.Clock.answered c.args.clock.now) (moments cs)) (sym c.new-cuts.ensures.items)
          (not_asked (g.C.Clock.answered c.args.clock.now));
    }

pub returns-then-is_err-clause-served : goal.returns-then-is_err-clause-served
returns-then-is_err-clause-served g c = λ reverse first.
    let site = c.args.server.site in
    let before : Seen = record { input = g.L.Link.input c.args.link.now; output = g.L.Link.output c.args.link.now; faults = g.L.Link.fault_count c.args.link.now } in
    let now : Seen = record { input = g.L.Link.input c.turns.link; output = g.L.Link.output c.turns.link; faults = g.L.Link.fault_count c.turns.link } in
    subst (λ cs. Served reverse site c.args.turns before now NoMemory cs c.turns.written) (sym c.reserve.ensures.items)
    (starved reverse site c.turns.server c.turns.cuts.items c.turns.written c.args.turns before now (c.turns.invariant.serving reverse first))

pub returns-in-Some-clause-asked : goal.returns-in-Some-clause-asked
returns-in-Some-clause-asked g c =
    let turn = c.turn_in-turn.result in
    let cuts = c.add.ensures ∙ ap (cuts_with turn.cut) c.reserve.ensures.items in
    subst (λ cs. Answered (g.C.Clock.answered c.args.clock.now) (g.C.Clock.answered c.turn_in-turn.new.clock) (moments cs)) (sym cuts)
    (asked_with (g.C.Clock.answered c.args.clock.now) (g.C.Clock.answered c.turns.clock) (g.C.Clock.answered c.turn_in-turn.new.clock) c.turns.cuts.items turn.cut c.turns.invariant.asked c.turn_in-turn.ensures.asked)

pub returns-in-Some-clause-served : goal.returns-in-Some-clause-served
returns-in-Some-clause-served g c = λ reverse first.
    let site = c.args.server.site in
    let before : Seen = record { input = g.L.Link.input c.args.link.now; output = g.L.Link.output c.args.link.now; faults = g.L.Link.fault_count c.args.link.now } in
    let mid : Seen = record { input = g.L.Link.input c.turns.link; output = g.L.Link.output c.turns.link; faults = g.L.Link.fault_count c.turns.link } in
    let after : Seen = record { input = g.L.Link.input c.turn_in-turn.new.link; output = g.L.Link.output c.turn_in-turn.new.link; faults = g.L.Link.fault_count c.turn_in-turn.new.link } in
    let turn = c.turn_in-turn.result in
    let old = c.turns.cuts.items in
    let cuts = c.add.ensures ∙ ap (cuts_with turn.cut) c.reserve.ensures.items in
    let n = c.turns.written in
    subst (λ cs. Served reverse site c.args.turns before after c.in-Some.end cs (n + turn.written)) (sym cuts)
    (turn_ends reverse site c.turns.server c.turn_in-turn.new.server old n c.args.turns before mid after turn c.in-Some.end (c.turns.invariant.serving reverse first) c.turn_in-turn.ensures.turns c.in-Some.is)

pub returns-clause-served : goal.returns-clause-served
returns-clause-served g c = λ reverse first.
    let site = c.args.server.site in
    let before : Seen = record { input = g.L.Link.input c.args.link.now; output = g.L.Link.output c.args.link.now; faults = g.L.Link.fault_count c.args.link.now } in
    let now : Seen = record { input = g.L.Link.input c.turns.link; output = g.L.Link.output c.turns.link; faults = g.L.Link.fault_count c.turns.link } in
    spent reverse site c.turns.server c.turns.cuts.items c.turns.written c.args.turns before now (omega (arith, c.turns.invariant.entries, c.turns-test.false, c.turns.auto.counter-end)) (c.turns.invariant.serving reverse first)
