use Rattle.std.proofs.Common.{◌≡◌, Bool, true, false, ℕ, List, [], Option, None, refl, sym, subst}
use Rattle.std.specs.Prelude.{IfOk}
use Rattle.ua_frame.specs.Streams.{cuts_within, rest_within}
use Rattle.ua_conn.specs.client.Asker.{Asker}
use Rattle.ua_conn.specs.client.Held.{client_held}
use Rattle.ua_conn.specs.client.Sending.{client_bytes}
use Rattle.ua_conn.specs.client.Feeding.{ClientShown}
use Rattle.ua_conn.specs.declared.client.config.ClientConfig.{ClientConfig}
use Rattle.ua_conn.proofs.conversation.ends.client_of.Goals as goal

abbrev begins : ClientConfig → Option (List ℕ) → ℕ → Bool → ClientShown
begins config url first reverse =
    let a : Asker = record { config = config; url = url; first_sequence = first; reverse = reverse } in
    record { config = config; held = client_held a []; output = client_bytes a [] []; failed = false }

-- a client that waits names no url
any_url : (config : ClientConfig) (url : Option (List ℕ)) (first : ℕ) → begins config None first true ≡ begins config url first true
unfolding client_held cuts_within rest_within
any_url config url first = refl

pub returns-then-setup : goal.returns-then-setup
returns-then-setup c =
    let config = c.args.setup.now.config in
    let url = c.args.setup.now.url.now in
    let first = c.args.setup.now.first_sequence in
    subst (λ reverse. IfOk c.new_reverse.result (λ client. client ≡ begins config url first reverse)) (sym c.if-setup.true)
    (subst (λ shown. IfOk c.new_reverse.result (λ client. client ≡ shown)) (any_url config url first) c.new_reverse.ensures)

pub returns-else-setup : goal.returns-else-setup
returns-else-setup c =
    let config = c.args.setup.now.config in
    let url = c.args.setup.now.url.now in
    let first = c.args.setup.now.first_sequence in
    subst (λ reverse. IfOk c.new.result (λ client. client ≡ begins config url first reverse)) (sym c.if-setup.false) c.new.ensures
