-- The bodies of what a server says to a request. OPC 10000-4, 5.6.2; of the discovery services, 5.5.
use Rattle.std.specs.Prelude.{ℕ, pos, List}
use Rattle.ua_service.specs.declared.channel.OpenResponse.{OpenResponse}
use Rattle.ua_service.specs.declared.request.Request.{Request}
use Rattle.ua_service.specs.ChannelMessages.{open_response_message}
use Rattle.ua_service.specs.Channel.{open_response_at}
use Rattle.ua_service.specs.Responses.{canon_response}
use Rattle.ua_channel.specs.declared.token.Token.{Token}
use Rattle.ua_disco.specs.Answers.{answer_of}
use Rattle.ua_disco.specs.Configuration.{Configuration}

-- the discovery answer, or a fault
unfoldable pub answer_body : Configuration → Request → ℕ → List ℕ
answer_body settings request now = canon_response (answer_of settings request (pos now))

-- to an open request with that handle, at the moment, for the channel, with the token
abbrev pub opened_response : ℕ → ℕ → ℕ → Token → OpenResponse
opened_response handle now channel token = open_response_at now handle channel token.id token.lifetime

unfoldable pub opened_body : ℕ → ℕ → ℕ → Token → List ℕ
opened_body handle now channel token = open_response_message.canon (opened_response handle now channel token)
