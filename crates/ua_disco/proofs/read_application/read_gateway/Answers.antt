use Rattle.std.proofs.Common.{◌∙◌, Ok, Result, codes}
use Rattle.std.proofs.lemmas.Result.{err_from_is_err_and}
use Rattle.toml.specs.View.{table_view}
use Rattle.ua_disco.specs.Faults.{Fault, next}
use Rattle.ua_disco.specs.Paths.{path_text}
use Rattle.ua_disco.specs.Tables.{Text, text_or_null, gateway}
use Rattle.ua_disco.proofs.EachItem.{first_fails, fails_same, next_gives}
use Rattle.ua_disco.proofs.read_application.read_gateway.Goals as goal

pub returns-in_err-profile_uri-clause-gives : goal.returns-in_err-profile_uri-clause-gives
unfolding gateway
returns-in_err-profile_uri-clause-gives c =
    let p = err_from_is_err_and c.from_residual-in_err-profile_uri.result c.from_residual-in_err-profile_uri.ensures.1 in
    let prefix = (path_text c.args.prefix.now) in
    let ms = table_view c.args.table.now in
    let first = text_or_null prefix (codes "gateway_uri") ms in
    let second = text_or_null prefix (codes "profile_uri") ms in
    let after : Text → Text → Result (Text × Text) Fault = λ g q. Ok (g, q) in
    rw (p.1, p.2) (fails_same c.in_err-profile_uri.field-0.0 (gateway prefix ms) (next second (after c.in_ok-gateway_uri.gateway_uri))
    (next_gives first c.in_ok-gateway_uri.gateway_uri (λ g. next second (after g)) c.in_ok-gateway_uri.ensures.gives)
    (first_fails c.in_err-profile_uri.field-0.0 second (after c.in_ok-gateway_uri.gateway_uri) c.in_err-profile_uri.ensures.gives))

pub returns-clause-gives : goal.returns-clause-gives
unfolding gateway
returns-clause-gives c =
    let prefix = (path_text c.args.prefix.now) in
    let ms = table_view c.args.table.now in
    let first = text_or_null prefix (codes "gateway_uri") ms in
    let second = text_or_null prefix (codes "profile_uri") ms in
    let after : Text → Text → Result (Text × Text) Fault = λ g q. Ok (g, q) in
    next_gives first c.in_ok-gateway_uri.gateway_uri (λ g. next second (after g)) c.in_ok-gateway_uri.ensures.gives
    ∙ next_gives second c.in_ok-profile_uri.profile_uri (after c.in_ok-gateway_uri.gateway_uri) c.in_ok-profile_uri.ensures.gives
