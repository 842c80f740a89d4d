use Rattle.std.proofs.Common.{◌≡◌, Bool, ◌∙◌, ap, arith, length, refl, map}
use Rattle.std.specs.List.{flat_map, filter}
use Rattle.std.proofs.lemmas.List.{take_all}
use Rattle.ua_service.specs.Endpoint.{endpoint_description}
use Rattle.ua_disco.specs.declared.endpoint.Endpoint.{Endpoint}
use Rattle.ua_choice.specs.Choosing.{is_asked}
use Rattle.ua_disco.specs.Answers.{described_endpoint, endpoints_found}
use Rattle.ua_disco.specs.Sizes.{endpoints_size}
use Rattle.ua_disco.proofs.Pieces.{beginning_size}
use Rattle.ua_disco.proofs.found.endpoints_len.Goals as goal

pub overflow_add-total : goal.overflow_add-total
unfolding endpoints_found
overflow_add-total c =
    let canon = endpoint_description.canon in
    let asked : Endpoint → Bool = λ e. is_asked c.args.request.now.profile_uris e.transport in
    let described = described_endpoint c.first-application.result.now c.in_language-name.result.now in
    let all : flat_map canon (map described (filter asked c.endpoints-offered.result.now)) ≡ flat_map canon (endpoints_found c.args.settings.now c.args.request.now) =
    rw (c.endpoints-offered.ensures.endpoints, c.in_language-name.ensures, c.get-plain.ensures, c.first-application.ensures.application) refl in
    omega (
      arith,
      (c.loop-endpoint.invariant).1,
      beginning_size canon described asked c.endpoints-offered.result.now c.loop-endpoint.endpoint-index,
      ap length all,
      endpoints_size c.args.settings.now c.args.request.now c.endpoints-offered.ensures.within,
      c.len-total.ensures.few,
    )

pub returns-clause-length : goal.returns-clause-length
unfolding endpoints_found
returns-clause-length c =
    let whole = take_all c.loop-endpoint.endpoint-index c.endpoints-offered.result.now c.loop-endpoint-test.false in
    (c.loop-endpoint.invariant).1 ∙ rw (whole, c.endpoints-offered.ensures.endpoints, c.in_language-name.ensures, c.get-plain.ensures, c.first-application.ensures.application) refl

pub returns-clause-few : goal.returns-clause-few
returns-clause-few c = rw (returns-clause-length c) (endpoints_size c.args.settings.now c.args.request.now c.endpoints-offered.ensures.within)
