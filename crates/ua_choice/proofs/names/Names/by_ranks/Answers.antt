use Rattle.std.proofs.Common.{◌≡◌, ◌∙◌, ◌+◌, ap, sym, take, true, arith, rules}
use Rattle.std.proofs.lemmas.List.{take_all}
use Rattle.ua_choice.specs.Index.{is_indexed}
use Rattle.ua_choice.specs.Locales.{lent, listed, nearer, place_of}
use Rattle.ua_choice.specs.Names.{first_name}
use Rattle.ua_choice.proofs.Ranked.{placed, placed_of_none, placed_more, named_by}
use Rattle.ua_choice.proofs.names.Names.by_ranks.Goals as goal

pub loop-name-init : goal.loop-name-init
loop-name-init c = sym (placed_of_none (listed c.args.wanted.now))

pub loop-name-preserved : goal.loop-name-preserved
loop-name-preserved c =
    let wanted = listed c.args.wanted.now in
    let name = c.name-item.result in
    let best = lent c.loop-name.best in
    let known : is_indexed name.locale c.args.ranks.now.known ≡ true = grind (arith) in
    let place = c.get.ensures ∙ c.requires name.locale known in
    c.nearer_name-best.ensures ∙ ap (λ p. nearer p name best) place ∙ ap (nearer (place_of name.locale wanted) name) c.loop-name.invariant
    ∙ sym (placed_more wanted c.all-names.result.now c.loop-name.name-index name c.loop-name-test.true c.name-item.is)

pub returns-in-Some : goal.returns-in-Some
returns-in-Some c =
    let wanted = c.args.wanted.now in
    let names = c.args.self.now in
    let all : take c.loop-name.name-index c.all-names.result.now ≡ names = take_all c.loop-name.name-index c.all-names.result.now c.loop-name-test.false ∙ c.all-names.ensures in
    let best = c.loop-name.invariant ∙ ap (placed (listed wanted)) all in
    named_by wanted names _ (ap lent (sym c.in-Some.is) ∙ best)

pub returns-in-None : goal.returns-in-None
returns-in-None c =
    let wanted = c.args.wanted.now in
    let names = c.args.self.now in
    let all : take c.loop-name.name-index c.all-names.result.now ≡ names = take_all c.loop-name.name-index c.all-names.result.now c.loop-name-test.false ∙ c.all-names.ensures in
    let best = c.loop-name.invariant ∙ ap (placed (listed wanted)) all in
    let first : c.index-first.result.now ≡ first_name names = search rules in
    first ∙ named_by wanted names _ (ap lent (sym c.in-None.is) ∙ best)
