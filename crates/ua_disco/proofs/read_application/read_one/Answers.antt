use Rattle.std.proofs.Common.{◌≡◌, ◌∙◌, ◌++◌, ap, sym, ℕ, List, [], ◌∷◌, Result, Ok, codes}
use Rattle.toml.specs.View.{table_view}
use Rattle.ua_disco.specs.declared.application.Application.{Application}
use Rattle.ua_disco.specs.Faults.{Fault}
use Rattle.ua_disco.specs.Reading.{table_value, required}
use Rattle.ua_disco.specs.Tables.{application_of, application_key}
use Rattle.ua_disco.proofs.EachItem.{next_gives}
use Rattle.ua_disco.proofs.read_application.read_one.Goals as goal

pub returns-in-Ok-clause-gives : goal.returns-in-Ok-clause-gives
unfolding application_key
returns-in-Ok-clause-gives c =
    let ms = table_view c.args.table.now in
    let rule : List ℕ → Result Application Fault = λ prefix. required (table_value application_of) prefix (codes "application") ms in
    let application = c.in_ok-application.application in
    let alone : Application → Result (List Application) Fault = λ a. Ok (a ∷ []) in
    let read : rule [] ≡ Ok application = ap rule (sym c.top.ensures) ∙ c.in_ok-application.ensures.gives in
    let pushed = c.in-Ok.ensures.items ∙ ap (λ (l : List Application). l ++ application ∷ []) c.new-one.ensures.items in
    next_gives (rule []) application alone read ∙ ap (λ (l : List Application). let r : Result (List Application) Fault = Ok l in r) (sym pushed)
