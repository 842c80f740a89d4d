use Rattle.std.proofs.Common.{◌∙◌, sym}
use Rattle.std.proofs.lemmas.List.{take_all, length-map}
use Rattle.ua_disco.specs.Answers.{endpoints_found}
use Rattle.ua_disco.specs.Sizes.{endpoints_count}
use Rattle.ua_disco.proofs.found.endpoint_count.Goals as goal

pub returns-clause-count : goal.returns-clause-count
unfolding endpoints_found
returns-clause-count c =
    let whole = take_all c.loop-endpoint.endpoint-index c.endpoints-offered.result.now c.loop-endpoint-test.false in
    (c.loop-endpoint.invariant).2 ∙ rw (whole, c.endpoints-offered.ensures.endpoints) (sym (length-map _ _))

pub returns-clause-few : goal.returns-clause-few
returns-clause-few c = rw (returns-clause-count c) (endpoints_count c.args.settings.now c.args.request.now c.endpoints-offered.ensures.within)
