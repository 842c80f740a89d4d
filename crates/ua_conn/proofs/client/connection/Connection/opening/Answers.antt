use Rattle.std.proofs.Common.{◌≡◌, ◌++◌, ◌∷◌, [], None, cond, not, is_some, sym, ap, ◌∙◌, arith}
use Rattle.ua_frame.specs.Rows.{first_row}
use Rattle.ua_chunk.specs.Layout.{open_chunk_of}
use Rattle.ua_channel.specs.Channel.{Shown}
use Rattle.ua_channel.specs.ClientChannel.{admit_response_rows}
use Rattle.ua_conn.specs.client.Faults.{is_id}
use Rattle.ua_conn.proofs.ClientEnd.EffectLemmas.{opening_acts}
use Rattle.ua_conn.proofs.client.connection.Connection.opening.Goals as goal

pub returns-clause-does : goal.returns-clause-does
returns-clause-does c = λ bytes answers.
    let s = c.self.inside in
    let opening = c.in_ok-opening.opening in
    let admitted : first_row (admit_response_rows s.channel.channel opening ++ (is_some s.half.half, 0x807E0000) ∷ (not (is_id s.due opening.request_id), 0x80090000) ∷ []) ≡ None =
    ap (λ w. first_row (admit_response_rows s.channel.channel opening ++ (is_some (cond w None s.half.half), 0x807E0000) ∷ (not (is_id s.due opening.request_id), 0x80090000) ∷ [])) (sym c.self.invariant.between.whole) ∙ c.in_ok-admit.ensures.admitted in
    rw (← c.self.view_is) (opening_acts s.config s.reverse s.ack s.channel c.admit.new.channel c.keep.new.channel s.half.half s.pending.requests s.due s.next c.args.now (open_chunk_of c.args.frame.now.fields) opening c.in_ok-response.response bytes answers
    c.in_ok-opening.ensures.found admitted c.in_ok-admit.ensures.after c.in_ok-response.ensures.0 c.in_ok-response.ensures.1 c.keep.ensures)

pub returns-clause-moment : goal.returns-clause-moment
returns-clause-moment c = let e = ap (λ (x : Shown). x.moment) c.keep.ensures in omega (arith, e)
