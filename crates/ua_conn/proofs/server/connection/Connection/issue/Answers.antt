use Rattle.std.proofs.Common.{◌≡◌, ◌++◌, ◌∷◌, [], None, is_some, cond, sym, ap, subst, ◌∙◌}
use Rattle.ua_frame.specs.Rows.{first_row}
use Rattle.ua_chunk.specs.Layout.{open_chunk_of}
use Rattle.ua_chunk.specs.Written.{open_frame}
use Rattle.ua_channel.specs.Admission.{admit_open_rows}
use Rattle.ua_service.specs.ChannelMessages.{open_of}
use Rattle.ua_conn.specs.server.Opening.{asked_rows, Grants}
use Rattle.ua_conn.proofs.ServerEnd.EffectLemmas.{open_acts}
use Rattle.ua_conn.proofs.ServerEnd.LengthLemmas.{opened_short}
use Rattle.ua_conn.proofs.server.connection.Connection.issue.Goals as goal

pub write_open-requires : goal.write_open-requires
write_open-requires c =
    let granted = c.in_ok-granted.granted in
    opened_short granted.handle c.args.now c.self.inside.id (record { id = granted.token; issued = c.args.now; lifetime = granted.lifetime }) c.opened_body-body.result c.opened_body-body.ensures

pub returns-clause-does : goal.returns-clause-does
returns-clause-does c = λ asked.
    let s = c.self.inside in
    let opening = c.in_ok-opening.opening in
    let granted = c.in_ok-granted.granted in
    let between : first_row (admit_open_rows s.channel.channel opening ++ (is_some s.half.half, 0x807E0000) ∷ []) ≡ None =
    ap (λ w. first_row (admit_open_rows s.channel.channel opening ++ (is_some (cond w None s.half.half), 0x807E0000) ∷ [])) (sym c.self.invariant.between.whole) ∙ c.in_ok-admit.ensures.judged.0 in
    let issued = ap (λ b. first_row (asked_rows c.admit.new.channel.channel (open_of b))) (sym c.body.ensures) ∙ c.in_ok-granted.ensures.judged.0 in
    let grants = subst (λ b. Grants c.admit.new.channel c.grant.new.channel c.args.now (open_of b) granted) c.body.ensures c.in_ok-granted.ensures.judged.1 in
    let said = c.in_ok-write_open.ensures.written
    ∙ (λ i. c.args.out.now.items ++ open_frame s.id s.next (c.request_id.ensures i) (c.opened_body-body.ensures i)) in
    rw (c.in_ok-write_open.ensures.numbered, ← c.self.view_is) (open_acts s.settings.now s.id s.agreed s.channel c.admit.new.channel c.grant.new.channel s.half.half s.next c.args.now (open_chunk_of c.args.frame.now.fields) opening granted
    c.args.out.now.items _ asked c.self.invariant.same c.in_ok-opening.ensures.found between c.in_ok-admit.ensures.judged.1 issued grants said)
