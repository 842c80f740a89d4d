use Rattle.std.proofs.Common.{◌≡◌, Bool, true, ◌∙◌, ℕ, List, ap, refl, sym, subst, map}
use Rattle.std.specs.List.{flat_map, filter}
use Rattle.std.proofs.lemmas.List.{take_all}
use Rattle.std.proofs.lemmas.Result.{err_from_is_err_and}
use Rattle.ua_value.specs.Format.{AppendsPart}
use Rattle.ua_service.specs.Endpoint.{endpoint_description}
use Rattle.ua_disco.specs.declared.endpoint.Endpoint.{Endpoint}
use Rattle.ua_choice.specs.Choosing.{is_asked}
use Rattle.ua_disco.specs.Answers.{described_endpoint, endpoints_found}
use Rattle.ua_disco.proofs.Pieces.{part_of_found}
use Rattle.ua_disco.proofs.found.put_endpoints.Goals as goal

pub returns-clause-ok : goal.returns-clause-ok
unfolding endpoints_found
returns-clause-ok g c =
    let whole = take_all c.loop-endpoint.endpoint-index c.endpoints-offered.result.now c.loop-endpoint-test.false in
    (c.loop-endpoint.invariant).1 ∙ rw (whole, c.endpoints-offered.ensures.endpoints, c.in_language-name.ensures, c.get-plain.ensures, c.first-application.ensures.application) refl

pub returns-in_err-put-clause-err : goal.returns-in_err-put-clause-err
unfolding endpoints_found
returns-in_err-put-clause-err g c =
    let failed = err_from_is_err_and c.from_residual.result c.from_residual.ensures.1 in
    let canon = endpoint_description.canon in
    let asked : Endpoint → Bool = λ e. is_asked c.args.request.now.profile_uris e.transport in
    let described = described_endpoint c.first-application.result.now c.in_language-name.result.now in
    let old = g.S.Sink.contents c.args.out.now in
    let new = g.S.Sink.contents c.put.new.out in
    let all : flat_map canon (map described (filter asked c.endpoints-offered.result.now)) ≡ flat_map canon (endpoints_found c.args.settings.now c.args.request.now) =
    rw (c.endpoints-offered.ensures.endpoints, c.in_language-name.ensures, c.get-plain.ensures, c.first-application.ensures.application) refl in
    let is : asked c.endpoint-item.result ≡ true = ap (λ f. is_asked f c.endpoint-item.result.transport) (sym (c.loop-endpoint.invariant).0) ∙ ap (λ (e : Endpoint). is_asked c.loop-endpoint.verdicts e.transport) (sym c.get.ensures) ∙ sym c.asks_for.ensures.asked ∙ c.if-asks_for.true in
    let part = part_of_found canon described asked c.endpoints-offered.result.now c.loop-endpoint.endpoint-index c.endpoint-item.result old (g.S.Sink.contents c.loop-endpoint.out) new
    c.loop-endpoint-test.true c.endpoint-item.is is (c.loop-endpoint.invariant).1 c.in_err-put.ensures.err in
    rw failed.1 (subst (λ (l : List ℕ). AppendsPart old new l) all part)
