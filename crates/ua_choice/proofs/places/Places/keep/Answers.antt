use Rattle.std.proofs.Common.{◌≡◌, subst, Some, string_bytes, refl, rules}
use Rattle.std.proofs.lemmas.Map.Text.{btree_map_updates_text}
use Rattle.ua_choice.specs.declared.places.Places.{Places}
use Rattle.ua_choice.specs.Places.{KeepsOne}
use Rattle.ua_choice.proofs.Kept.{keeps_text}
use Rattle.ua_choice.proofs.places.Places.keep.Goals as goal

pub returns-in_ok-insert-in-Some : goal.returns-in_ok-insert-in-Some
returns-in_ok-insert-in-Some c =
    let key = c.in_ok-text-in-Some.text in
    let after : Places = record { of_null = c.args.self.now.of_null; of_texts = c.insert.new.self } in
    let puts = btree_map_updates_text (string_bytes key) c.args.self.now.of_texts c.insert.new.self _ c.in_ok-insert-in-Some.ensures.updates in
    let same : Some (string_bytes key) ≡ c.args.locale.now = search rules in
    subst (λ l. KeepsOne l c.args.place c.args.self.now after) same (keeps_text (string_bytes key) c.args.place c.args.self.now after refl puts)
