-- What a client keeps of the frames that it took, and what one more does to it.
use Rattle.std.specs.Prelude.{ℕ, List}
use Rattle.ua_service.specs.declared.request.Request.{Request}
use Rattle.ua_conn.specs.client.Machine.{Awaiting}
use Rattle.ua_conn.specs.declared.client.config.ClientConfig.{ClientConfig}

-- what is pending, each with its id, in the order of asking; and how many more fit without memory
pub record Waiting : Type 0 where
  pub requests : List (ℕ × Request)
  pub room : ℕ

-- what a client holds between whole frames
pub record ClientRunning : Type 0 where
  pub config : ClientConfig
  pub waits : Awaiting
  -- the number of the next OPN, MSG or CLO that is sent
  pub next : ℕ
  -- the greatest moment of a frame that it took
  pub moment : ℕ
