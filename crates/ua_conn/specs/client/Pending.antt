-- What a client waits for: of what it asked, what no frame has answered yet.
use Rattle.std.specs.Prelude.{ℕ, ◌+◌, Bool, not, ◌&&◌, ◌||◌, ◌==◌, nat_lt, nat_le, false, List, [], ◌∷◌, map, length, Option, Some, None, if◌then◌else◌}
use Rattle.std.specs.List.{filter}
use Rattle.ua_frame.specs.Layout.{Frame, kind_of, flag_of}
use Rattle.ua_chunk.specs.Layout.{OpenChunk}
use Rattle.ua_chunk.specs.Half.{ends_message}
use Rattle.ua_service.specs.declared.request.Request.{Request}
use Rattle.ua_conn.specs.Past.{Past, is_open, is_message, open_in, carried}
use Rattle.ua_conn.specs.client.Commands.{Commands, Asked, OpenAsked, asked_in, opens_asked, request_under}

-- ---- places in a stream

-- how many bytes the frames have: the place behind the newest of them
abbrev pub bytes_in : Past → ℕ
bytes_in [] = 0
bytes_in (f ∷ past) = length f.bytes + bytes_in past

-- the frames that had come whole with the first n bytes
abbrev pub come_by : ℕ → Past → Past
come_by n [] = []
come_by n (f ∷ past) = if nat_le (bytes_in (f ∷ past)) n then f ∷ past else come_by n past

-- ---- what was answered

abbrev pub is_among : List ℕ → ℕ → Bool
is_among [] n = false
is_among (m ∷ ms) n = m == n || is_among ms n

-- the frame ends a message, with F or A
abbrev pub ends_one : Frame → Bool
ends_one f = is_message (kind_of f.bytes) && ends_message (flag_of f.bytes)

-- the ids of the messages that came whole
abbrev pub ended_ids : Past → List ℕ
ended_ids past = map (λ f. (carried f).request_id) (filter ends_one past)

abbrev pub opening_id : Option OpenChunk → ℕ
opening_id None = 0
opening_id (Some opening) = opening.request_id

-- the ids of the open requests that were answered
abbrev pub opened_ids : Past → List ℕ
opened_ids past = map (λ f. opening_id (open_in f)) (filter (λ f. is_open (kind_of f.bytes)) past)

-- ---- what is pending

-- asked, and not answered by a whole message; in the order of asking
abbrev pub pending_in : Commands → Past → List Asked
pending_in cmds past = filter (λ a. not (is_among (ended_ids past) a.id)) (asked_in cmds)

-- of these, asked before the last byte of the frame came that ends at this place
abbrev pub pending_at : Commands → Past → ℕ → List Asked
pending_at cmds past end = filter (λ a. nat_lt a.seen end) (pending_in cmds past)

-- the pending request of that id
abbrev pub wanted_at : Commands → Past → ℕ → ℕ → Option Request
wanted_at cmds past end id = request_under id (pending_at cmds past end)

-- the open requests that no OPN has answered; there is one at most
abbrev pub opening_in : Commands → Past → List OpenAsked
opening_in cmds past = filter (λ r. not (is_among (opened_ids past) r.id)) (opens_asked cmds)

abbrev pub first_id : List OpenAsked → Option ℕ
first_id [] = None
first_id (r ∷ rs) = Some r.id

-- the id of the one that is pending
abbrev pub due_in : Commands → Past → Option ℕ
due_in cmds past = first_id (opening_in cmds past)

-- asked before the last byte of the frame came that ends at this place
abbrev pub due_at : Commands → Past → ℕ → Option ℕ
due_at cmds past end = first_id (filter (λ r. nat_lt r.seen end) (opening_in cmds past))
