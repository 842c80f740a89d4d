-- What a client sends: the Hello, the first open request, and the frames of its commands. OPC 10000-6, 6.7 and 7.1.3.
use Rattle.std.specs.Prelude.{ℕ, ◌+◌, Bool, true, false, List, [], ◌∷◌, ◌++◌, map, Option, Some, None, if◌then◌else◌}
use Rattle.ua_frame.specs.Streams.{TimedByte}
use Rattle.ua_frame.specs.Layout.{Frame}
use Rattle.ua_frame.specs.Hello.{hello_frame}
use Rattle.ua_frame.specs.declared.hello.Hello.{Hello}
use Rattle.ua_chunk.specs.Cut.{Part, fill}
use Rattle.ua_chunk.specs.Numbers.{number_after}
use Rattle.ua_chunk.specs.Written.{open_frame, part_frame, close_frame}
use Rattle.ua_channel.specs.Token.{newest_id}
use Rattle.ua_service.specs.Requests.{canon_request}
use Rattle.ua_conn.specs.Past.{Past}
use Rattle.ua_conn.specs.client.Past.{ClientKnown, client_known, acknowledge_frame_in, reverse_frame_in, reverse_in, url_named}
use Rattle.ua_conn.specs.client.Asker.{Asker, hello_to, hello_by}
use Rattle.ua_conn.specs.client.Commands.{Act, Ask, Renew, Close, Commands, next_id}
use Rattle.ua_conn.specs.client.Pending.{come_by}
use Rattle.ua_conn.specs.client.Questions.{open_asked_body, close_asked_body}
use Rattle.ua_conn.specs.client.Reading.{client_reading_of}

-- ---- frames

-- a frame that a client sends, but for its sequence number
pub data Sent : Type 0 where
  Greeting : Hello → Sent
  -- channel, request id, body
  Opening : ℕ → ℕ → List ℕ → Sent
  -- channel, token, and a part of a request
  Asking : ℕ → ℕ → Part → Sent
  -- channel, token, request id, body
  Closing : ℕ → ℕ → ℕ → List ℕ → Sent

abbrev pub has_place : Sent → Bool
has_place (Greeting hello) = false
has_place (Opening channel id body) = true
has_place (Asking channel token part) = true
has_place (Closing channel token id body) = true

-- the frame; n is its sequence number, where it has one
unfoldable pub sent_bytes : ℕ → Sent → List ℕ
sent_bytes n (Greeting hello) = hello_frame hello
sent_bytes n (Opening channel id body) = open_frame channel n id body
sent_bytes n (Asking channel token part) = part_frame channel token n part
sent_bytes n (Closing channel token id body) = close_frame channel token n id body

-- how many frames are numbered, after n others
abbrev pub more_sent : ℕ → Sent → ℕ
more_sent n sent = if has_place sent then n + 1 else n

abbrev pub sent_after : ℕ → List Sent → ℕ
sent_after n [] = n
sent_after n (sent ∷ more) = sent_after (more_sent n sent) more

-- The j-th OPN, MSG or CLO has the j-th number from the first.
abbrev pub sent_all : ℕ → ℕ → List Sent → List ℕ
sent_all first n [] = []
sent_all first n (sent ∷ more) = sent_bytes (number_after first n) sent ++ sent_all first (more_sent n sent) more

-- ---- what is sent behind the frames that came

-- in answer to the ReverseHello, once it came, with the url that it names
abbrev pub greets_by : Asker → Option Frame → List Sent
greets_by a None = []
greets_by a (Some f) = Greeting (hello_to a.config (url_named (reverse_in f))) ∷ []

-- at once, where the client opens the connection
abbrev pub greets : Asker → Past → List Sent
greets a past = if a.reverse then greets_by a (reverse_frame_in past) else Greeting (hello_by a) ∷ []

-- at the moment of the Acknowledge, once it came
abbrev pub opens_by : Asker → Option Frame → List Sent
opens_by a None = []
opens_by a (Some f) = Opening 0 1 (open_asked_body f.moment 1 0 a.config.lifetime) ∷ []

abbrev pub opens : Asker → Past → List Sent
opens a past = opens_by a (acknowledge_frame_in past)

-- a command with this id at this moment: its channel, and the newest token, are those that had come by then
abbrev pub act_says : Asker → ℕ → ℕ → ClientKnown → Act → List Sent
act_says a id now k (Ask request part) = map (Asking k.channel (newest_id k.tokens)) (fill id (canon_request request) part)
act_says a id now k Renew = Opening k.channel id (open_asked_body now id 1 a.config.lifetime) ∷ []
act_says a id now k Close = Closing k.channel (newest_id k.tokens) id (close_asked_body now id) ∷ []

abbrev pub commands_say : Asker → Commands → Past → List Sent
commands_say a [] past = []
commands_say a (c ∷ cmds) past =
    commands_say a cmds past ++ act_says a (next_id cmds) c.moment (client_known (come_by c.seen past)) c.act

-- all of it, in order
abbrev pub sent_by : Asker → Commands → Past → List Sent
sent_by a cmds past = greets a past ++ (opens a past ++ commands_say a cmds past)

-- What is sent where these commands were accepted and these bytes came. They count before their fault alone.
abbrev pub client_sent : Asker → Commands → List TimedByte → List Sent
client_sent a cmds v = sent_by a cmds (client_reading_of a cmds v).past

abbrev pub client_bytes : Asker → Commands → List TimedByte → List ℕ
client_bytes a cmds v = sent_all a.first_sequence 0 (client_sent a cmds v)
