-- What the body of an OPN is granted.
use Rattle.std.specs.Prelude.{◌≡◌, ℕ, true, List, [], ◌∷◌, Option, Some, None}
use Rattle.ua_frame.specs.Rows.{Row}
use Rattle.ua_channel.specs.Token.{next_token}
use Rattle.ua_channel.specs.Channel.{Channel, Shown, renewed}
use Rattle.ua_channel.specs.Admission.{issue_rows}
use Rattle.ua_service.specs.declared.channel.OpenRequest.{OpenRequest}
use Rattle.ua_conn.specs.declared.server.connection.opening.Granted.{Granted}

-- open body; request type, security mode, token ids spent
abbrev pub asked_rows : Channel → Option OpenRequest → List Row
asked_rows c None = (true, 0x80070000) ∷ []
asked_rows c (Some request) = issue_rows c request

-- the token and the handle, and the channel with the token
pub record IsGranted (old new : Shown) (now : ℕ) (request : OpenRequest) (granted : Granted) : Type 0 where
  pub token : granted.token ≡ (next_token old.channel.tokens now request.requested_lifetime).id
  pub lifetime : granted.lifetime ≡ (next_token old.channel.tokens now request.requested_lifetime).lifetime
  pub handle : granted.handle ≡ request.header.request_handle
  pub channel : new ≡ record { channel = renewed old.channel now request.requested_lifetime; moment = now }

abbrev pub Grants : Shown → Shown → ℕ → Option OpenRequest → Granted → Type 0
Grants old new now None granted = ⊥
Grants old new now (Some request) granted = IsGranted old new now request granted
