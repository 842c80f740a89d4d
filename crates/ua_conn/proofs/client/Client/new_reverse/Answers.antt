use Rattle.std.proofs.Common.{◌≡◌, true, false, [], None, subst}
use Rattle.std.specs.Prelude.{IfOk}
use Rattle.ua_frame.specs.Streams.{cuts_within, rest_within}
use Rattle.ua_conn.specs.client.Asker.{Asker}
use Rattle.ua_conn.specs.client.Held.{client_held}
use Rattle.ua_conn.specs.client.Sending.{client_bytes}
use Rattle.ua_conn.specs.client.Feeding.{ClientShown}
use Rattle.ua_conn.proofs.client.Client.new_reverse.Goals as goal

pub returns : goal.returns
unfolding cuts_within rest_within
returns c =
    let a : Asker = record { config = c.args.config; url = None; first_sequence = c.args.first_sequence; reverse = true } in
    subst (λ (shown : ClientShown). IfOk c.saying.result (λ client. client ≡ shown))
    (λ i. record { config = a.config; held = client_held a []; output = c.new.ensures.items i; failed = false }) c.saying.ensures
