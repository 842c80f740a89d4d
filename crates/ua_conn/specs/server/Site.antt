-- A server: its settings, and the id of its channel.
use Rattle.std.specs.Prelude.{ℕ}
use Rattle.ua_disco.specs.Configuration.{Configuration}

pub record Site : Type 0 where
  pub settings : Configuration
  pub channel : ℕ
