use Rattle.std.proofs.Common.{◌≡◌, Bool, true, ◌∙◌, ap, sym, subst}
use Rattle.std.proofs.lemmas.Result.{err_from_is_err_and}
use Rattle.ua_value.specs.Format.{AppendsPart}
use Rattle.ua_service.specs.Application.{application_description}
use Rattle.ua_service.specs.declared.application.ApplicationDescription.{ApplicationDescription}
use Rattle.ua_disco.specs.declared.application.Application.{Application}
use Rattle.ua_choice.specs.Choosing.{is_asked}
use Rattle.ua_choice.specs.Names.{name_for}
use Rattle.ua_disco.specs.Answers.{described, application_for}
use Rattle.ua_disco.proofs.Pieces.{part_of_found}
use Rattle.ua_disco.proofs.found.FoundServersParts.emit_parts.Goals as goal

pub returns-in_err-emit_parts-clause-err : goal.returns-in_err-emit_parts-clause-err
returns-in_err-emit_parts-clause-err g c =
    let failed = err_from_is_err_and c.from_residual.result c.from_residual.ensures.1 in
    let locales = c.args.self.now.locales.now in
    let uris = c.args.self.now.filter.now in
    let listed = c.args.self.now.listed.now in
    let canon = application_description.canon in
    let asked : Application → Bool = λ a. is_asked uris a.uri in
    let item = c.application-item.result in
    let old = g.S.Sink.contents c.args.out.now in
    let between = g.S.Sink.contents c.loop-application.out in
    let new = g.S.Sink.contents c.emit_parts.new.out in
    let is : asked item ≡ true = ap asked (sym c.get-plain.ensures) ∙ sym c.asks_for.ensures ∙ c.if-asks_for.true in
    let named : described item c.for_reader-name.result.now ≡ application_for locales item =
    ap (described item) (c.for_reader-name.ensures ∙ ap (λ (a : Application). name_for locales a.names) c.get-plain.ensures) in
    let one = subst (λ (d : ApplicationDescription). AppendsPart between new (canon d)) named c.in_err-emit_parts.ensures.err in
    rw failed.1 (part_of_found canon (application_for locales) asked listed c.loop-application.application-index item old between new
    c.loop-application-test.true c.application-item.is is c.loop-application.invariant one)
