use Rattle.std.proofs.lemmas.Result.{err_from_is_err_and}
use Rattle.toml.specs.View.{table_view}
use Rattle.ua_frame.specs.declared.limits.Limits.{Limits}
use Rattle.ua_disco.specs.Paths.{path_text}
use Rattle.ua_disco.specs.Reading.{keys_known}
use Rattle.ua_disco.specs.Tables.{limit_keys, limit_fields, limits_of}
use Rattle.ua_disco.proofs.EachItem.{first_fails, gives_same, next_gives}
use Rattle.ua_disco.proofs.read_limits.read_limits.Goals as goal

pub returns-in_err-check_keys-clause-gives : goal.returns-in_err-check_keys-clause-gives
unfolding limits_of
returns-in_err-check_keys-clause-gives c =
    let p = err_from_is_err_and c.from_residual.result c.from_residual.ensures.1 in
    rw (p.1, p.2) (first_fails c.in_err-check_keys.field-0.0 (keys_known limit_keys (path_text c.args.prefix.now) (table_view c.args.table.now)) (λ _. limit_fields (path_text c.args.prefix.now) (table_view c.args.table.now)) c.in_err-check_keys.ensures)

pub returns-clause-gives : goal.returns-clause-gives
unfolding limits_of
returns-clause-gives c =
    gives_same (λ (l : Limits). l) c.read_limit_fields.result (limits_of (path_text c.args.prefix.now) (table_view c.args.table.now)) (limit_fields (path_text c.args.prefix.now) (table_view c.args.table.now))
    (next_gives (keys_known limit_keys (path_text c.args.prefix.now) (table_view c.args.table.now)) tt (λ _. limit_fields (path_text c.args.prefix.now) (table_view c.args.table.now)) c.in_ok-check_keys.ensures) c.read_limit_fields.ensures.gives
