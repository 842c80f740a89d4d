-- The same on the record of what is known: the step that one more frame makes, and what a list of frames brings.
use Rattle.std.specs.Prelude.{ℕ, max, List, [], ◌∷◌, ◌++◌, map, Option, Some, None, if◌then◌else◌}
use Rattle.ua_frame.specs.Streams.{Piece, at, rest_of, plain}
use Rattle.ua_frame.specs.Layout.{Frame, frames_of, kind_of, flag_of}
use Rattle.ua_chunk.specs.Numbers.{number_after}
use Rattle.ua_chunk.specs.Half.{Half, half_after}
use Rattle.ua_channel.specs.declared.token.Token.{Token}
use Rattle.ua_channel.specs.Token.{next_token, two_newest}
use Rattle.ua_channel.specs.Channel.{most}
use Rattle.ua_service.specs.declared.request.Request.{Request}
use Rattle.ua_conn.specs.server.Site.{Site}
use Rattle.ua_conn.specs.Past.{Known, is_hello, is_open, is_message, is_close, has_token, has_number, carried, asked_open, limits_of, lifetime_asked, number_of}
use Rattle.ua_conn.specs.server.Faults.{fault_at, fault_in_rest}
use Rattle.ua_conn.specs.server.Replies.{Reply, Failed, ended, failing, reply_to, handed_at, is_numbered, spelled}
use Rattle.ua_conn.specs.server.Held.{Held, Gain, stop}
use Rattle.ua_conn.specs.declared.outcome.End.{End}
use Rattle.ua_conn.specs.declared.outcome.End.TheVariants.{Closed, Refused}

abbrev pub token_after : List Token → Frame → Token
token_after tokens f = next_token tokens f.moment (lifetime_asked (asked_open f))

abbrev pub half_then : Option Half → Frame → Option Half
half_then half f = half_after half (flag_of f.bytes) (carried f).request_id (carried f).body

-- what is known with one more frame
unfoldable pub known_after : Site → Known → Frame → Known
known_after site k f = record {
  limits = if is_hello (kind_of f.bytes) then limits_of site f else k.limits;
  tokens = if is_open (kind_of f.bytes) then two_newest (token_after k.tokens f ∷ k.tokens) else k.tokens;
  last = if has_number (kind_of f.bytes) then Some (number_of f) else k.last;
  half = if is_message (kind_of f.bytes) then half_then k.half f else k.half;
  used = if has_token (kind_of f.bytes) then Some (most k.used (carried f).token) else k.used;
}

pub record Run : Type 0 where
  pub replies : List Reply
  pub asked : List Request
  pub ending : End
  pub known : Known

abbrev pub behind : List Reply → List Request → Run → Run
behind rs qs r = record { replies = rs ++ r.replies; asked = qs ++ r.asked; ending = r.ending; known = r.known }

abbrev pub run : Site → Known → List Frame → List ℕ → Run
run site k [] rest = record { replies = failing (ended (fault_in_rest k rest) rest); asked = []; ending = ended (fault_in_rest k rest) rest; known = k }
run site k (f ∷ fs) rest =
    elim (fault_at site k f) [
      | Some status ↦ record { replies = Failed status ∷ []; asked = []; ending = Refused status; known = k }
      | None ↦ if is_close (kind_of f.bytes)
          then record { replies = reply_to site k f; asked = handed_at k f; ending = Closed; known = known_after site k f }
          else behind (reply_to site k f) (handed_at k f) (run site (known_after site k f) fs rest)
    ]

-- the number after a frame that has number n
abbrev pub number_then : ℕ → Reply → ℕ
number_then n reply = if is_numbered reply then number_after n 1 else n

abbrev pub spelled_next : Site → ℕ → List Reply → List ℕ
spelled_next site n [] = []
spelled_next site n (reply ∷ replies) = spelled site n reply ++ spelled_next site (number_then n reply) replies

abbrev pub next_after : ℕ → List Reply → ℕ
next_after n [] = n
next_after n (reply ∷ replies) = next_after (number_then n reply) replies

-- the frames and the rest of bytes that all come at one moment
abbrev pub run_on : Site → Known → ℕ → List ℕ → Run
run_on site k now bytes = run site k (frames_of (map (at now) bytes)) (plain (rest_of (map (at now) bytes)))

-- what a piece brings to a server that goes on
unfoldable pub gain : Site → Held → Piece → Gain
gain site h x =
    let now = max h.moment x.moment in
    let r = run_on site h.known now (h.rest ++ x.bytes) in
    record {
      bytes = spelled_next site h.next r.replies;
      asked = r.asked;
      stopped = stop r.ending;
      after = record { known = r.known; next = next_after h.next r.replies; moment = now; rest = plain (rest_of (map (at now) (h.rest ++ x.bytes))) };
    }
