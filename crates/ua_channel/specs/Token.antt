-- Security tokens of a channel. OPC 10000-4, 5.6.2 (OpenSecureChannel).
use Rattle.std.specs.Prelude.{ℕ, ◌+◌, ◌-◌, ◌*◌, ◌/◌, min, max, Bool, false, ◌&&◌, ◌==◌, nat_lt, List, [], ◌∷◌, take, Option, Some, None, is_some, if◌then◌else◌}
use Rattle.std.specs.List.{find}
use Rattle.ua_channel.specs.declared.token.Token.{Token}

-- OPC 10000-4, 5.6.2.2, revisedLifetime, in milliseconds: from 10 seconds to an hour, and 0 asks for an hour
abbrev pub revised : ℕ → ℕ
revised asked = if asked == 0 then 3600000 else max 10000 (min 3600000 asked)

-- a lifetime in ticks of 100 nanoseconds
abbrev pub in_ticks : ℕ → ℕ
in_ticks milliseconds = milliseconds * 10000

-- OPC 10000-4, 5.6.2.1: an expired token is accepted for a quarter of its lifetime more.
abbrev pub is_alive : Token → ℕ → Bool
is_alive token now = nat_lt (now - token.issued) (in_ticks token.lifetime + in_ticks token.lifetime / 4)

-- the id of the newest token, 0 before the first
abbrev pub newest_id : List Token → ℕ
newest_id [] = 0
newest_id (t ∷ tokens) = t.id

-- OPC 10000-6, 6.7.4: token ids are 1, 2, 3 and on.
abbrev pub next_token : List Token → ℕ → ℕ → Token
next_token tokens now asked = record { id = newest_id tokens + 1; issued = now; lifetime = revised asked }

-- OPC 10000-4, 5.6.2.1: the newest token and the one before it are known, the newest first.
abbrev pub two_newest : List Token → List Token
two_newest tokens = take 2 tokens

-- the token of that id; of two with one id the newer counts
abbrev pub named : List Token → ℕ → Option Token
named tokens id = find (λ t. t.id == id) tokens

abbrev pub is_known : List Token → ℕ → Bool
is_known tokens id = is_some (named tokens id)

-- the token is alive, where it is there
abbrev pub lives : Option Token → ℕ → Bool
lives None now = false
lives (Some token) now = is_alive token now

-- one of the two newest, and alive
abbrev pub is_usable : List Token → ℕ → ℕ → Bool
is_usable tokens id now = is_known tokens id && lives (named tokens id) now
