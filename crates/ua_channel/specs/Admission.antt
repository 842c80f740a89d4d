-- Which frames a server's channel refuses, in order, with the status of each. OPC 10000-6, 6.7 and 7.1.5; OPC 10000-4, 7.39.2.
use Rattle.std.specs.Prelude.{ℕ, ℤ, pos, negsuc, Bool, true, false, not, ◌==◌, nat_le, List, [], ◌∷◌, length, Option, Some, None, if◌then◌else◌}
use Rattle.std.specs.Str.{bytes_eq}
use Rattle.ua_frame.specs.Rows.{Row}
use Rattle.ua_chunk.specs.Numbers.{follows}
use Rattle.ua_chunk.specs.Layout.{OpenChunk, Chunk, policy_none}
use Rattle.ua_service.specs.declared.channel.OpenRequest.{OpenRequest}
use Rattle.ua_channel.specs.Token.{newest_id, is_usable}
use Rattle.ua_channel.specs.Channel.{Channel}

abbrev pub is_text : List ℕ → Option (List ℕ) → Bool
is_text text None = false
is_text text (Some other) = bytes_eq other text

-- the first number is free
abbrev pub follows_last : Option ℕ → ℕ → Bool
follows_last None sequence = true
follows_last (Some last) sequence = follows last sequence

-- no token was issued yet
abbrev pub is_unopened : Channel → Bool
is_unopened c = length c.tokens == 0

-- OPC 10000-6, 6.7.2.3: the first OPN names channel 0, each later one the channel.
abbrev pub awaited_channel : Channel → ℕ
awaited_channel c = if is_unopened c then 0 else c.id

-- OPC 10000-4, 5.6.2.2, requestType: 0 issues, 1 renews.
abbrev pub awaited_type : Channel → ℕ
awaited_type c = if is_unopened c then 0 else 1

abbrev pub is_int : ℕ → ℤ → Bool
is_int n (pos m) = m == n
is_int n (negsuc m) = false

-- An OPN, at either end: open channel, policy, open sequence number. Whether it names another channel is said apart.
abbrev pub opening_rows_by : Option ℕ → OpenChunk → Bool → List Row
opening_rows_by last opening is_other =
    (is_other, 0x807F0000)
    ∷ (not (is_text policy_none opening.policy), 0x80550000)
    ∷ (not (follows_last last opening.sequence), 0x80880000)
    ∷ []

-- at the server
abbrev pub admit_open_rows : Channel → OpenChunk → List Row
admit_open_rows c opening = opening_rows_by c.last opening (not (opening.channel == awaited_channel c))

-- its open request: request type, security mode, token ids spent
abbrev pub issue_rows : Channel → OpenRequest → List Row
issue_rows c request =
    (not (is_int (awaited_type c) request.request_type), 0x80530000)
    ∷ (not (is_int 1 request.security_mode), 0x80540000)
    ∷ (nat_le 4294967295 (newest_id c.tokens), 0x80810000)
    ∷ []

-- A MSG or CLO: message channel, token, message sequence number. Whether its token is usable is said apart.
abbrev pub admit_rows_by : Channel → Chunk → Bool → List Row
admit_rows_by c chunk usable =
    (not (chunk.channel == c.id), 0x807F0000)
    ∷ (not usable, 0x80870000)
    ∷ (not (follows_last c.last chunk.sequence), 0x80880000)
    ∷ []

abbrev pub admit_rows : Channel → Chunk → ℕ → List Row
admit_rows c chunk now = admit_rows_by c chunk (is_usable c.tokens chunk.token now)
