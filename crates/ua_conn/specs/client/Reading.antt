-- What comes to a client: the frames before the first fault, the fault, and the answers among them.
use Rattle.std.specs.Prelude.{ℕ, ◌==◌, List, [], ◌∷◌, ◌++◌, Option, Some, None, option_map, if◌then◌else◌}
use Rattle.ua_frame.specs.Streams.{TimedByte, plain, rest_of}
use Rattle.ua_frame.specs.Layout.{Frame, frames_of, kind_of, flag_of}
use Rattle.ua_chunk.specs.Layout.{Chunk, abort_of}
use Rattle.ua_service.specs.declared.request.Request.{Request}
use Rattle.ua_conn.specs.Past.{Past, is_message, carried}
use Rattle.ua_conn.specs.client.Past.{ClientKnown, client_known, awaits_reverse}
use Rattle.ua_conn.specs.client.Asker.{Asker}
use Rattle.ua_conn.specs.client.Commands.{Commands}
use Rattle.ua_conn.specs.client.Pending.{bytes_in, wanted_at, due_at}
use Rattle.ua_conn.specs.client.Faults.{client_fault_by, client_fault_in_rest, token_usable, whole_response}
use Rattle.ua_conn.specs.declared.client.fault.ClientFault.{ClientFault}
use Rattle.ua_conn.specs.declared.client.answer.Answer.{Answer}
use Rattle.ua_conn.specs.declared.client.answer.AnswerResult.{AnswerResult}
use Rattle.ua_conn.specs.declared.client.answer.AnswerResult.TheVariants.{Response, Aborted}

-- ---- a stream

-- the row that refuses the frame behind these frames, where these commands were accepted
abbrev pub client_fault_at : Asker → Commands → Past → Frame → Option ClientFault
client_fault_at a cmds past f =
    let k = client_known past in
    let end = bytes_in (f ∷ past) in
    client_fault_by a (awaits_reverse a.reverse past) k (due_at cmds past end) (wanted_at cmds past end (carried f).request_id) (token_usable k f) f

-- the frames that stand, and the fault
pub record ClientReading : Type 0 where
  pub past : Past
  pub fault : Option ClientFault

-- the frames up to the first fault, which is not among them
abbrev pub client_reading : Asker → Commands → Past → List Frame → List ℕ → ClientReading
client_reading a cmds past [] rest = record { past = past; fault = client_fault_in_rest (client_known past) rest }
client_reading a cmds past (f ∷ fs) rest =
    elim (client_fault_at a cmds past f) [
      | Some fault ↦ record { past = past; fault = Some fault }
      | None ↦ client_reading a cmds (f ∷ past) fs rest
    ]

abbrev pub client_reading_of : Asker → Commands → List TimedByte → ClientReading
client_reading_of a cmds v = client_reading a cmds [] (frames_of v) (plain (rest_of v))

-- the fault of the first row at the least place where one holds
abbrev pub client_fault : Asker → Commands → List TimedByte → Option ClientFault
client_fault a cmds v = (client_reading_of a cmds v).fault

-- ---- answers

-- of a whole message: the response that its bodies joined are, or the status of an abort
abbrev pub result_by : ClientKnown → ℕ → Chunk → Option AnswerResult
result_by k flag chunk =
    if flag == 70 then option_map Response (whole_response k chunk)
    else (if flag == 65 then option_map Aborted (abort_of chunk.body)
    else None)

abbrev pub answer_with : ℕ → Option Request → Option AnswerResult → List Answer
answer_with id (Some request) (Some result) = record { id = id; request = request; result = result } ∷ []
answer_with id request result = []

-- what the frame answers; wanted is the pending request of its id, the one that was asked under it
unfoldable pub answer_at : ClientKnown → Option Request → Frame → List Answer
answer_at k wanted f =
    let c = carried f in
    if is_message (kind_of f.bytes) then answer_with c.request_id wanted (result_by k (flag_of f.bytes) c) else []

-- over all frames, each read with what lies before it
abbrev pub answers : Commands → Past → List Answer
answers cmds [] = []
answers cmds (f ∷ past) = answers cmds past ++ answer_at (client_known past) (wanted_at cmds past (bytes_in (f ∷ past)) (carried f).request_id) f

-- The answers of the whole messages before the first fault, each with the request that was asked under its id.
abbrev pub matched : Asker → Commands → List TimedByte → List Answer
matched a cmds v = answers cmds (client_reading_of a cmds v).past
