use Rattle.std.proofs.Common.{cond, List, [], ◌∷◌, ◌++◌, ap}
use Rattle.ua_conn.specs.client.Asker.{hello_by}
use Rattle.ua_conn.specs.client.Past.{reverse_frame_in}
use Rattle.ua_conn.specs.client.Reading.{client_reading_of}
use Rattle.ua_conn.specs.client.Sending.{Sent, Greeting, sent_bytes, sent_all, greets_by, opens, commands_say}
use Rattle.ua_conn.proofs.laws.hello_first.Goals as goal

pub returns : goal.returns
unfolding sent_bytes
returns c = λ a cmds v own.
    (let past = (client_reading_of a cmds v).past in
    let later : List Sent = opens a past ++ commands_say a cmds past in
    (sent_all a.first_sequence 0 later, ap (λ b. sent_all a.first_sequence 0 (cond b (greets_by a (reverse_frame_in past)) (Greeting (hello_by a) ∷ []) ++ later)) own))
