use Rattle.std.proofs.Common.{◌≡◌, ℕ, Bool, true, false, cond, List, [], ◌∷◌, length, Option, Some, None, refl, ap, ◌∙◌}
use Rattle.std.specs.Prelude.{not, ◌==◌, ◌&&◌, ◌||◌, is_some, is_none, option_map}
use Rattle.ua_frame.specs.Layout.{kind_of, flag_of}
use Rattle.ua_frame.specs.Rows.{first_row, or_else}
use Rattle.ua_frame.specs.declared.kind.Kind.{Kind}
use Rattle.ua_conn.specs.Past.{carried}
use Rattle.ua_conn.specs.server.Faults.{fault_at, frame_rows, is_unopened}
use Rattle.ua_conn.specs.client.Past.{client_known, awaits_reverse, reverse_in}
use Rattle.ua_conn.specs.client.Pending.{bytes_in, wanted_at, due_at}
use Rattle.ua_conn.specs.client.Faults.{FaultRow, broken, reverse_rows, client_fault_by, client_rows, token_usable}
use Rattle.ua_conn.specs.declared.client.fault.ClientFault.TheVariants.{Broken}
use Rattle.ua_conn.proofs.laws.reverse_hello_refused.Goals as goal

-- neither before the Hello, nor before the opening, nor behind it
never : (a b : Bool) → first_row {S = ℕ} ((not (cond a false (cond b false false)), 0x807E0000) ∷ []) ≡ Some 0x807E0000
never true b = refl
never false true = refl
never false false = refl

-- nor at a client, by the same steps; some renewal may be pending
never_awaited : (a b renews : Bool) (rows : List FaultRow) → first_row ((not (cond a false (cond b false (false || (false && renews)))), Broken 0x807E0000) ∷ rows) ≡ Some (Broken 0x807E0000)
never_awaited true b renews rows = refl
never_awaited false true renews rows = refl
never_awaited false false renews rows = refl

pub returns-clause-servers : goal.returns-clause-servers
unfolding fault_at
returns-clause-servers c = λ site k f kind fine.
    ap (λ o. or_else o (first_row (frame_rows site k f (kind_of f.bytes) (flag_of f.bytes)))) fine
    ∙ ap (λ κ. first_row (frame_rows site k f κ (flag_of f.bytes))) kind
    ∙ never (is_none k.limits) (is_unopened k)

pub returns-clause-clients : goal.returns-clause-clients
unfolding client_fault_by
returns-clause-clients c = λ a cmds past f none kind fine.
    (let k = client_known past in
    let end = bytes_in (f ∷ past) in
    let due = due_at cmds past end in
    let wanted = wanted_at cmds past end (carried f).request_id in
    let rows : Bool → Option Kind → List FaultRow = λ reverse κ. client_rows a reverse k due wanted (token_usable k f) f (flag_of f.bytes) κ in
    ap (λ o. or_else (option_map Broken o) (first_row (rows (awaits_reverse a.reverse past) (kind_of f.bytes)))) fine
    ∙ (λ i. first_row (rows (none i) (kind i)))
    ∙ never_awaited (is_none k.ack) (length k.tokens == 0) (is_some due) (broken (reverse_rows (reverse_in f))))
