-- A segment of a TCP stream, as it is seen.
use Rattle.std.specs.Prelude.{ℕ, List}
use Rattle.ua_capture.specs.declared.packet.Endpoint.{Endpoint}

pub record Parts : Type 0 where
  pub from : Endpoint
  pub to : Endpoint
  pub sequence : ℕ
  pub flags : ℕ
  pub payload : List ℕ
