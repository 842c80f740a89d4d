use Rattle.std.proofs.Common.{◌∙◌, refl}
use Rattle.std.proofs.lemmas.List.{take_all}
use Rattle.ua_disco.specs.Answers.{endpoints_found}
use Rattle.ua_disco.proofs.answering.endpoints.Goals as goal

pub returns-clause-found : goal.returns-clause-found
unfolding endpoints_found
returns-clause-found c =
    let whole = take_all c.loop-endpoint.endpoint-index c.endpoints-offered.result.now c.loop-endpoint-test.false in
    (c.loop-endpoint.invariant).1 ∙ rw (whole, c.endpoints-offered.ensures.endpoints, c.in_language-name.ensures, c.get-application.ensures, c.first.ensures.application) refl
