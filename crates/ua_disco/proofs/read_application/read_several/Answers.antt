use Rattle.std.proofs.Common.{◌≡◌, ◌∙◌, ◌++◌, ◌<◌, ap, sym, subst, ℕ, List, [], Result, Ok, codes, length, rules}
use Rattle.toml.specs.View.{table_view}
use Rattle.ua_disco.specs.declared.application.Application.{Application}
use Rattle.ua_disco.specs.Faults.{Fault, IsFault, bad_value}
use Rattle.ua_disco.specs.Paths.{path_text}
use Rattle.ua_disco.specs.Reading.{list_value, table_value, required}
use Rattle.ua_disco.specs.Tables.{application_of, applications_key, at_least_one}
use Rattle.ua_disco.proofs.EachItem.{next_gives, fault_fails, at_least, none_at_all}
use Rattle.ua_disco.proofs.read_application.read_several.Goals as goal

pub returns-then-is_empty-clause-gives : goal.returns-then-is_empty-clause-gives
unfolding applications_key
returns-then-is_empty-clause-gives c =
    let key = codes "application" in
    let rule : List ℕ → Result (List Application) Fault = λ prefix. required (list_value (table_value application_of)) prefix key (table_view c.args.table.now) in
    let listed = c.in_ok-listed.listed in
    let items = c.into_items-items.result.items in
    let none : length items ≡ 0 = search rules in
    let empty : listed ≡ [] = sym c.into_items-items.ensures ∙ none_at_all items none in
    let read : rule [] ≡ Ok listed = ap rule (sym c.top.ensures) ∙ c.in_ok-listed.ensures.gives in
    let at : path_text c.path_of.result ≡ key = c.path_of.ensures ∙ ap (λ (p : List ℕ). p ++ key) c.top-then-is_empty.ensures in
    let fault = subst (λ (p : List ℕ). IsFault c.is_bad_value.result (bad_value p)) at c.is_bad_value.ensures in
    fault_fails c.is_bad_value.result (bad_value key) (applications_key (table_view c.args.table.now)) fault (next_gives (rule []) listed (at_least_one key) read ∙ ap (at_least_one key) empty)

pub returns-clause-gives : goal.returns-clause-gives
unfolding applications_key
returns-clause-gives c =
    let key = codes "application" in
    let rule : List ℕ → Result (List Application) Fault = λ prefix. required (list_value (table_value application_of)) prefix key (table_view c.args.table.now) in
    let listed = c.in_ok-listed.listed in
    let items = c.into_items-items.result.items in
    let some : 0 < length items = search rules in
    let read : rule [] ≡ Ok items = ap rule (sym c.top.ensures) ∙ c.in_ok-listed.ensures.gives ∙ ap (λ (l : List Application). let r : Result (List Application) Fault = Ok l in r) (sym c.into_items-items.ensures) in
    next_gives (rule []) items (at_least_one key) read ∙ at_least key items some
