use Rattle.std.proofs.Common.{Bool, ◌∙◌, arith, refl}
use Rattle.std.proofs.lemmas.List.{take_all}
use Rattle.ua_service.specs.Application.{application_description}
use Rattle.ua_disco.specs.declared.application.Application.{Application}
use Rattle.ua_choice.specs.Choosing.{is_asked}
use Rattle.ua_disco.specs.Answers.{application_for}
use Rattle.ua_disco.specs.Sizes.{servers_size}
use Rattle.ua_disco.proofs.Pieces.{beginning_size}
use Rattle.ua_disco.proofs.found.FoundServers.len.Goals as goal

pub overflow_add-total : goal.overflow_add-total
overflow_add-total c =
    let locales = c.args.self.now.locales.now in
    let uris = c.args.self.now.filter.now in
    let listed = c.args.self.now.listed.now in
    let asked : Application → Bool = λ a. is_asked uris a.uri in
    omega (
      arith,
      c.loop-application.invariant,
      beginning_size application_description.canon (application_for locales) asked listed c.loop-application.application-index,
      servers_size locales uris listed c.requires.applications c.requires.number,
      c.len-total.ensures.few,
    )

pub returns-clause-length : goal.returns-clause-length
returns-clause-length c =
    let whole = take_all c.loop-application.application-index c.args.self.now.listed.now c.loop-application-test.false in
    c.loop-application.invariant ∙ rw whole refl

pub returns-clause-few : goal.returns-clause-few
returns-clause-few c = rw (returns-clause-length c) (servers_size c.args.self.now.locales.now c.args.self.now.filter.now c.args.self.now.listed.now c.requires.applications c.requires.number)
