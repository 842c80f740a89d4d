use Rattle.std.proofs.Common.{◌≡◌, subst, Some, true, string_bytes, refl, rules}
use Rattle.std.proofs.lemmas.Map.Text.{btree_set_updates_text}
use Rattle.ua_choice.specs.declared.index.Index.{Index}
use Rattle.ua_choice.specs.Index.{IndexesOne}
use Rattle.ua_choice.proofs.Indexed.{has_text}
use Rattle.ua_choice.proofs.index.Index.add.Goals as goal

pub returns-in_ok-insert-in-Some : goal.returns-in_ok-insert-in-Some
returns-in_ok-insert-in-Some c =
    let key = c.in_ok-text-in-Some.text in
    let after : Index = record { has_null = c.args.self.now.has_null; texts = c.insert.new.self } in
    let puts = btree_set_updates_text (string_bytes key) c.args.self.now.texts c.insert.new.self true c.in_ok-insert-in-Some.ensures.updates in
    let same : Some (string_bytes key) ≡ c.args.text.now = search rules in
    subst (λ l. IndexesOne l c.args.self.now after) same (has_text (string_bytes key) c.args.self.now after refl puts)
