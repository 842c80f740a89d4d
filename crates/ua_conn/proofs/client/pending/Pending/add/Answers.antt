use Rattle.std.proofs.Common.{◌≡◌, ◌<◌, nat_eq, None, Result, Ok, Err, sym, subst, ◌∙◌}
use Rattle.std.specs.Prelude.{IsOk, OnOk}
use Rattle.indexmap.proofs.CallerLemmas.{insert_entry-new}
use Rattle.ua_conn.specs.client.Machine.{waiting_under}
use Rattle.ua_conn.specs.client.Taking.{Waiting}
use Rattle.ua_conn.proofs.ClientEnd.WaitingLemmas.{waiting_is_found}
use Rattle.ua_conn.proofs.client.pending.Pending.add.Goals as goal

on_ok : {V E P : Type 0} (r : Result V E) → IsOk r → OnOk r P → P
on_ok (Ok v) ok h = h
on_ok (Err e) ok h = absurd (cc ok)

pub returns : goal.returns
returns c = λ none.
    (let map = c.self.inside.map in
    let r = c.insert.result in
    let ok = c.insert.ensures.succeeds (subst (λ (w : Waiting). 0 < w.room) (sym c.self.view_is) c.requires) in
    rw (← c.self.view_is) (on_ok r ok c.insert.ensures.entries ∙ insert_entry-new nat_eq map c.args.id c.args.request (waiting_is_found c.args.id map.entries ∙ subst (λ (w : Waiting). waiting_under c.args.id w.requests ≡ None) (sym c.self.view_is) none)))
