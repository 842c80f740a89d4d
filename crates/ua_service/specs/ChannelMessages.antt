-- The bodies of the messages of a secure channel, OPC 10000-6, 5.2.9.
use Rattle.std.specs.Prelude.{ℕ, List, Option}
use Rattle.std.proofs.Common.{lit<}
use Rattle.ua_service.specs.declared.channel.OpenRequest.{OpenRequest}
use Rattle.ua_service.specs.declared.channel.OpenResponse.{OpenResponse}
use Rattle.ua_service.specs.declared.channel.CloseRequest.{CloseRequest}
use Rattle.ua_service.specs.Message.{Message, message, IsBodyOf}
use Rattle.ua_service.specs.MessageLaws.{IsLawfulMessage, lawful_message}
use Rattle.ua_service.specs.Channel.{open_request, open_response, close_request, lawful_open_request, lawful_open_response, lawful_close_request}

abbrev pub IsOpenBody : OpenRequest → List ℕ → Type 0
IsOpenBody = IsBodyOf 446 open_request

abbrev pub IsOpenResponseBody : OpenResponse → List ℕ → Type 0
IsOpenResponseBody = IsBodyOf 449 open_response

abbrev pub IsCloseBody : CloseRequest → List ℕ → Type 0
IsCloseBody = IsBodyOf 452 close_request

abbrev pub open_message : Message OpenRequest
open_message = message 446 open_request

abbrev pub open_response_message : Message OpenResponse
open_response_message = message 449 open_response

abbrev pub close_message : Message CloseRequest
close_message = message 452 close_request

-- the message of which the whole bytes are a body
abbrev pub open_of : List ℕ → Option OpenRequest
open_of = open_message.message_of

abbrev pub open_response_of : List ℕ → Option OpenResponse
open_response_of = open_response_message.message_of

abbrev pub close_of : List ℕ → Option CloseRequest
close_of = close_message.message_of

pub lawful_open : IsLawfulMessage open_message
lawful_open = lawful_message 446 open_request (lit< tt) lawful_open_request

pub lawful_open_response_message : IsLawfulMessage open_response_message
lawful_open_response_message = lawful_message 449 open_response (lit< tt) lawful_open_response

pub lawful_close : IsLawfulMessage close_message
lawful_close = lawful_message 452 close_request (lit< tt) lawful_close_request
