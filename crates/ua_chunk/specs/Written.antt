-- The frames that a sender writes, with their sequence numbers. OPC 10000-6, 6.7.2.
use Rattle.std.specs.Prelude.{ℕ, ◌+◌, List, [], ◌∷◌, ◌++◌}
use Rattle.ua_frame.specs.Layout.{frame_bytes}
use Rattle.ua_frame.specs.declared.kind.Kind.{Kind}
use Rattle.ua_frame.specs.declared.kind.Kind.TheVariants.{Open, Message, Close}
use Rattle.ua_chunk.specs.Layout.{Chunk, open_fields, chunk_fields, abort_bytes}
use Rattle.ua_chunk.specs.Numbers.{number_after}
use Rattle.ua_chunk.specs.Cut.{Part}

-- channel, sequence number, request id, body
unfoldable pub open_frame : ℕ → ℕ → ℕ → List ℕ → List ℕ
open_frame channel number id body = frame_bytes (record { kind = Open; flag = 70; fields = open_fields channel number id body })

-- type, flag, channel, token, sequence number, request id, body
unfoldable pub chunk_frame : Kind → ℕ → ℕ → ℕ → ℕ → ℕ → List ℕ → List ℕ
chunk_frame kind flag channel token number id body =
    let c : Chunk = record { channel = channel; token = token; sequence = number; request_id = id; body = body } in
    frame_bytes (record { kind = kind; flag = flag; fields = chunk_fields c })

-- channel, token, sequence number and a part of a message
abbrev pub part_frame : ℕ → ℕ → ℕ → Part → List ℕ
part_frame channel token number p = chunk_frame Message p.flag channel token number p.id p.bytes

-- channel, token, sequence number, request id, body of a close request
abbrev pub close_frame : ℕ → ℕ → ℕ → ℕ → List ℕ → List ℕ
close_frame channel token number id body = chunk_frame Close 70 channel token number id body

-- channel, token, sequence number, request id, status
abbrev pub abort_frame : ℕ → ℕ → ℕ → ℕ → ℕ → List ℕ
abort_frame channel token number id status = chunk_frame Message 65 channel token number id (abort_bytes status)

-- The frames of parts, of a sender that starts at first and gave n numbers before.
abbrev pub message_frames : ℕ → ℕ → ℕ → ℕ → List Part → List ℕ
message_frames channel token first n [] = []
message_frames channel token first n (p ∷ parts) = part_frame channel token (number_after first n) p ++ message_frames channel token first (n + 1) parts
