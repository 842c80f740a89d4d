-- The line of a frame, by what it carries, and the line of a whole message.
use Rattle.std.specs.Prelude.{ℕ, List, ◌++◌, codes, length, Option, Some, None}
use Rattle.std.specs.Char.{encode_utf8}
use Rattle.std.specs.Fmt.{decimal}
use Rattle.std.specs.Option.{option_map}
use Rattle.ua_value.specs.Node.{node_id}
use Rattle.ua_value.specs.declared.node.NodeId.{NodeId}
use Rattle.ua_frame.specs.declared.hello.Hello.{Hello}
use Rattle.ua_frame.specs.declared.acknowledge.Ack.{Ack}
use Rattle.ua_frame.specs.declared.error_frame.ErrorFrame.{ErrorFrame}
use Rattle.ua_frame.specs.declared.reverse_hello.ReverseHello.{ReverseHello}
use Rattle.ua_chunk.specs.Layout.{OpenChunk, FlaggedChunk}
use Rattle.ua_chunk.specs.declared.content.Content.{Content}
use Rattle.ua_chunk.specs.declared.content.Content.TheVariants as contents
use Rattle.ua_print.specs.Printed.{quoted, node_text, status_text}

-- version, receive, send, max message, max chunks
abbrev pub numbers_text : ℕ → ℕ → ℕ → ℕ → ℕ → List ℕ
numbers_text version receive send message chunks =
    codes "version=" ++ decimal version ++ codes " receive=" ++ decimal receive ++ codes " send=" ++ decimal send ++ codes " message=" ++ decimal message ++ codes " chunks=" ++ decimal chunks

-- what is said of each: its fields, and how long its body is
abbrev pub hello_text : Hello → List ℕ
hello_text h = numbers_text h.version h.receive h.send h.max_message h.max_chunks ++ codes " url=" ++ quoted h.url

abbrev pub acknowledge_text : Ack → List ℕ
acknowledge_text a = numbers_text a.version a.receive a.send a.max_message a.max_chunks

abbrev pub error_text : ErrorFrame → List ℕ
error_text e = codes "status=" ++ status_text e.status ++ codes " reason=" ++ quoted e.reason

abbrev pub reverse_hello_text : ReverseHello → List ℕ
reverse_hello_text r = codes "server=" ++ quoted r.server_uri ++ codes " url=" ++ quoted r.endpoint_url

abbrev pub open_text : OpenChunk → List ℕ
open_text c =
    codes "channel=" ++ decimal c.channel ++ codes " policy=" ++ quoted c.policy
    ++ codes " sequence=" ++ decimal c.sequence ++ codes " request=" ++ decimal c.request_id ++ codes " body=" ++ decimal (length c.body)

abbrev pub chunk_text : FlaggedChunk → List ℕ
chunk_text m =
    let c = m.chunk in
    codes "channel=" ++ decimal c.channel ++ codes " token=" ++ decimal c.token
    ++ codes " sequence=" ++ decimal c.sequence ++ codes " request=" ++ decimal c.request_id ++ codes " body=" ++ decimal (length c.body)

-- what is said of a frame of so many bytes with this content
abbrev pub content_text : ℕ → Content → List ℕ
content_text size (contents.Hello h) = codes "HEL " ++ decimal size ++ codes " " ++ hello_text h
content_text size (contents.Acknowledge a) = codes "ACK " ++ decimal size ++ codes " " ++ acknowledge_text a
content_text size (contents.Error e) = codes "ERR " ++ decimal size ++ codes " " ++ error_text e
content_text size (contents.ReverseHello r) = codes "RHE " ++ decimal size ++ codes " " ++ reverse_hello_text r
content_text size (contents.Open c) = codes "OPN " ++ decimal size ++ codes " " ++ open_text c
content_text size (contents.Message c) = codes "MSG " ++ encode_utf8 c.flag ++ codes " " ++ decimal size ++ codes " " ++ chunk_text c
content_text size (contents.Close c) = codes "CLO " ++ decimal size ++ codes " " ++ chunk_text c

-- the line of the frame that begins at this offset
unfoldable pub frame_line : ℕ → ℕ → Content → List ℕ
frame_line offset size content = decimal offset ++ codes " " ++ content_text size content ++ codes "\n"

-- the encoding id that a message begins with, if any
unfoldable pub type_in : List ℕ → Option NodeId
type_in body = option_map (λ x. x.0) (node_id.grammar.front body)

abbrev pub type_text : Option NodeId → List ℕ
type_text None = codes "?"
type_text (Some id) = node_text id

-- the line of a message, without its end: request id, encoding id, bytes
unfoldable pub message_text : ℕ → Option NodeId → ℕ → List ℕ
message_text request id size = codes "  message request=" ++ decimal request ++ codes " type=" ++ type_text id ++ codes " size=" ++ decimal size

-- the line of a whole message under this request id
unfoldable pub message_line : ℕ → List ℕ → List ℕ
message_line request body = message_text request (type_in body) (length body) ++ codes "\n"

-- where the next frame should begin: a frame, or what should be one, is refused with this status
unfoldable pub bad_line : ℕ → ℕ → List ℕ
bad_line offset status = decimal offset ++ codes " bad " ++ status_text status ++ codes "\n"

-- with the frame at this offset a message is longer than what is taken of one
unfoldable pub long_line : ℕ → List ℕ
long_line offset = decimal offset ++ codes " message-too-long\n"

-- so many bytes are less than a frame
unfoldable pub rest_line : ℕ → ℕ → List ℕ
rest_line offset left = decimal offset ++ codes " rest " ++ decimal left ++ codes "\n"
