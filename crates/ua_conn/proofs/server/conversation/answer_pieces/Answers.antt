use Rattle.std.proofs.Common.{rules, ◌∙◌, ◌++◌, [], pos, get_or, refl, subst, w64}
use mir.Val.{SFits}
use Rattle.std.proofs.lemmas.Int.{to_z-of_z}
use Rattle.ua_conn.proofs.ServerEnd.WholeInputLemmas.{Entry, goes_on, ended_at, ends}
use Rattle.ua_conn.proofs.server.conversation.answer_pieces.Goals as goal

pub pieces-init : goal.pieces-init
pieces-init g c = λ reverse site before k a. (before, k, a)

pub pieces-preserved : goal.pieces-preserved
pieces-preserved g c = λ reverse site before k a.
    let none : Entry = (pos 0, record { ref_ptr = (0, 0); now = [] }) in
    let fits : SFits w64 (get_or c.args.pieces.now c.pieces.now-index none).0 = search rules in
    let so = c.pieces.invariant reverse site before k a in
    let more = rw c.in_default.is at c.in_ok-end.ensures in
    let fed = simp to_z-of_z at more.2 in (
      so.0 ++ more.0,
      more.1 so.0 so.1,
      goes_on reverse site c.args.pieces.now c.pieces.now-index none c.pieces.reply.items c.answer_piece.new.reply.items so.0 (so.0 ++ more.0) more.0
          c.pieces.server c.answer_piece.new.server c.pieces-test.true so.2 fed refl,
    )

pub returns-in-Some-clause-reply : goal.returns-in-Some-clause-reply
returns-in-Some-clause-reply g c = λ reverse site before k a.
    let none : Entry = (pos 0, record { ref_ptr = (0, 0); now = [] }) in
    let fits : SFits w64 (get_or c.args.pieces.now c.pieces.now-index none).0 = search rules in
    let so = c.pieces.invariant reverse site before k a in
    let more = rw c.in-Some.is at c.in_ok-end.ensures in
    let fed = simp to_z-of_z at more.2 in
    (ended_at reverse site c.args.pieces.now c.pieces.now-index none c.pieces.reply.items c.answer_piece.new.reply.items so.0 (so.0 ++ more.0) more.0
    c.in-Some.end c.pieces.server c.answer_piece.new.server c.pieces-test.true so.2 fed refl).replied

pub returns-in-Some-clause-handed : goal.returns-in-Some-clause-handed
returns-in-Some-clause-handed g c = λ reverse site before k a.
    let none : Entry = (pos 0, record { ref_ptr = (0, 0); now = [] }) in
    let fits : SFits w64 (get_or c.args.pieces.now c.pieces.now-index none).0 = search rules in
    let so = c.pieces.invariant reverse site before k a in
    let more = rw c.in-Some.is at c.in_ok-end.ensures in
    let fed = simp to_z-of_z at more.2 in
    let all = ended_at reverse site c.args.pieces.now c.pieces.now-index none c.pieces.reply.items c.answer_piece.new.reply.items so.0 (so.0 ++ more.0) more.0
    c.in-Some.end c.pieces.server c.answer_piece.new.server c.pieces-test.true so.2 fed refl in
    subst (g.T.Requests.keeps c.answer_piece.new.handed) all.hands (more.1 so.0 so.1)

pub returns-in-Some-clause-end : goal.returns-in-Some-clause-end
returns-in-Some-clause-end g c = λ reverse site before k a.
    let none : Entry = (pos 0, record { ref_ptr = (0, 0); now = [] }) in
    let fits : SFits w64 (get_or c.args.pieces.now c.pieces.now-index none).0 = search rules in
    let so = c.pieces.invariant reverse site before k a in
    let more = rw c.in-Some.is at c.in_ok-end.ensures in
    let fed = simp to_z-of_z at more.2 in
    (ended_at reverse site c.args.pieces.now c.pieces.now-index none c.pieces.reply.items c.answer_piece.new.reply.items so.0 (so.0 ++ more.0) more.0
    c.in-Some.end c.pieces.server c.answer_piece.new.server c.pieces-test.true so.2 fed refl).ending

pub returns-clause-reply : goal.returns-clause-reply
returns-clause-reply g c = λ reverse site before k a.
    let so = c.pieces.invariant reverse site before k a in
    let all = ends reverse site c.args.pieces.now c.pieces.now-index c.pieces.reply.items so.0 c.pieces.server c.pieces-test.false so.2 in
    all.replied

pub returns-clause-handed : goal.returns-clause-handed
returns-clause-handed g c = λ reverse site before k a.
    let so = c.pieces.invariant reverse site before k a in
    let all = ends reverse site c.args.pieces.now c.pieces.now-index c.pieces.reply.items so.0 c.pieces.server c.pieces-test.false so.2 in
    subst (g.T.Requests.keeps c.pieces.handed) all.hands so.1

pub returns-clause-end : goal.returns-clause-end
returns-clause-end g c = λ reverse site before k a.
    let so = c.pieces.invariant reverse site before k a in
    let all = ends reverse site c.args.pieces.now c.pieces.now-index c.pieces.reply.items so.0 c.pieces.server c.pieces-test.false so.2 in
    c.end_of_input.ensures ∙ all.ending
