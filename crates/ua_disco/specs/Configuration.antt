-- What settings say.
use Rattle.std.specs.Prelude.{List}
use Rattle.ua_frame.specs.declared.limits.Limits.{Limits}
use Rattle.ua_disco.specs.declared.application.Application.{Application}
use Rattle.ua_disco.specs.declared.endpoint.Endpoint.{Endpoint}

pub record Configuration : Type 0 where
  pub limits : Limits
  -- the first is the server of each endpoint
  pub applications : List Application
  pub endpoints : List Endpoint
