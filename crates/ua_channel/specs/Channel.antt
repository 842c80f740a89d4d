-- What a server's channel knows of the frames that it admitted.
use Rattle.std.specs.Prelude.{ℕ, max, List, [], ◌∷◌, Option, Some, None}
use Rattle.ua_channel.specs.declared.token.Token.{Token}
use Rattle.ua_channel.specs.Token.{next_token, two_newest}

pub record Channel : Type 0 where
  -- the id that the server gives it
  pub id : ℕ
  -- the two newest tokens, the newest first
  pub tokens : List Token
  -- the sequence number of the last frame, none before the first
  pub last : Option ℕ
  -- the greatest token that a message used
  pub used : Option ℕ

-- a channel, and the greatest moment that came
pub record Shown : Type 0 where
  pub channel : Channel
  pub moment : ℕ

-- before the first frame
abbrev pub new_channel : ℕ → Channel
new_channel id = record { id = id; tokens = []; last = None; used = None }

-- OPC 10000-6, 6.7.2.4: the numbers of a direction run over all of its frames.
abbrev pub numbered : Channel → ℕ → Channel
numbered c sequence = record { id = c.id; tokens = c.tokens; last = Some sequence; used = c.used }

-- with one more token
abbrev pub renewed : Channel → ℕ → ℕ → Channel
renewed c now asked = record { id = c.id; tokens = two_newest (next_token c.tokens now asked ∷ c.tokens); last = c.last; used = c.used }

-- the greater of a token and those before it
abbrev pub most : Option ℕ → ℕ → ℕ
most None token = token
most (Some used) token = max used token

-- after a message with that token
abbrev pub heard : Channel → ℕ → ℕ → Channel
heard c token sequence = record { id = c.id; tokens = c.tokens; last = Some sequence; used = Some (most c.used token) }
