use Rattle.std.proofs.Common.{◌≡◌, false, [], subst, sym, ◌∙◌}
use Rattle.std.specs.Prelude.{IfOk}
use Rattle.std.proofs.lemmas.List.{append-nil}
use Rattle.ua_frame.specs.Hello.{hello_frame}
use Rattle.ua_frame.specs.Streams.{cuts_within, rest_within}
use Rattle.ua_conn.specs.client.Asker.{Asker, hello_by}
use Rattle.ua_conn.specs.client.Held.{client_held}
use Rattle.ua_conn.specs.client.Sending.{sent_bytes, client_bytes}
use Rattle.ua_conn.specs.client.Feeding.{ClientShown}
use Rattle.ua_conn.proofs.client.Client.new.Goals as goal

pub returns : goal.returns
unfolding client_held sent_bytes cuts_within rest_within
returns c =
    let a : Asker = record { config = c.args.config; url = c.args.url.now; first_sequence = c.args.first_sequence; reverse = false } in
    let said = c.in_ok-output.ensures ∙ sym (append-nil (hello_frame (hello_by a))) in
    subst (λ (shown : ClientShown). IfOk c.saying.result (λ client. client ≡ shown))
    (λ i. record { config = a.config; held = client_held a []; output = said i; failed = false }) c.saying.ensures
