use Rattle.std.proofs.Common.{◌≡◌, true}
use Rattle.toml.specs.View.{table_view}
use Rattle.ua_disco.specs.Configuration.{Configuration}
use Rattle.ua_disco.specs.Tables.{table_settings, settings_of}
use Rattle.ua_disco.proofs.EachItem.{gives_same, settings_read, settings_refused}
use Rattle.ua_disco.proofs.settings.Settings.from_toml.Goals as goal

pub returns-in-Ok : goal.returns-in-Ok
returns-in-Ok c =
    gives_same (λ (s : Configuration). s) c.read_table.result (settings_of c.args.text.now) (table_settings (table_view c.in-Ok.table))
    (settings_read c.args.text.now (table_view c.in-Ok.table) c.in-Ok.ensures.ok.0 c.in-Ok.ensures.ok.1) c.read_table.ensures

pub returns-else-is_memory : goal.returns-else-is_memory
returns-else-is_memory c =
    settings_refused c.args.text.now (c.in-Err.ensures.refused (λ m. let t : c.is_memory.result ≡ true = c.is_memory.ensures.1 m in cc (t, c.if-is_memory.false)))
