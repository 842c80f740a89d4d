-- The law of what is pending: it is what was asked less what was answered.
use Rattle.std.specs.Prelude.{◌≡◌, ℕ, ◌+◌, not, false, List, [], ◌∷◌, map, length, Some}
use Rattle.std.specs.List.{filter, AllByRecursion}
use Rattle.ua_service.specs.declared.request.Request.{Request}
use Rattle.ua_conn.specs.client.Asker.{Asker}
use Rattle.ua_conn.specs.client.Commands.{Commands, Asked, asked_in, request_under}
use Rattle.ua_conn.specs.client.Pending.{is_among}
use Rattle.ua_conn.specs.client.Reading.{matched}
use Rattle.ua_conn.specs.client.Held.{Log, commands_of, stream_of, client_held}
use Rattle.ua_conn.specs.declared.client.answer.Answer.{Answer}

abbrev pub ids_of : List Answer → List ℕ
ids_of given = map (λ i. i.id) given

-- no two are the same
abbrev pub AreApart : List ℕ → Type 0
AreApart [] = Unit {0}
AreApart (n ∷ ns) = (is_among ns n ≡ false) × AreApart ns

-- what was asked under the id of no answer, in the order of asking
abbrev pub asked_less : Commands → List Answer → List Asked
asked_less cmds given = filter (λ a. not (is_among (ids_of given) a.id)) (asked_in cmds)

-- The answers are given, and what is pending waits, each request with its id.
pub record IsLess (cmds : Commands) (given : List Answer) (pending : List (ℕ × Request)) : Type 0 where
  pub left : pending ≡ map (λ a. (a.id, a.request)) (asked_less cmds given)
  -- each answer is for what was asked under its id, and no two are for one request
  pub own : AllByRecursion (λ (i : Answer). request_under i.id (asked_in cmds) ≡ Some i.request) given
  pub once : AreApart (ids_of given)
  -- so that each request is pending or answered
  pub all : length pending + length given ≡ length (asked_in cmds)

-- of each client, whatever came to it and whatever it was told
abbrev pub PendingIsUnanswered : Type 0
PendingIsUnanswered = (a : Asker) (log : Log) → IsLess (commands_of log) (matched a (commands_of log) (stream_of log)) (client_held a log).pending
