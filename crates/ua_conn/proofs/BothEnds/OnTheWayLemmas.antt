-- Frames of both ends as bytes, and what it is to accept one but for the age of its token.
use Rattle.std.proofs.Common.{◌≡◌, ℕ, false, List, [], ◌∷◌, ◌++◌, map, None, refl, ap}
use Rattle.std.specs.List.{flat_map}
use Rattle.ua_frame.specs.Layout.{Frame}
use Rattle.ua_chunk.specs.Numbers.{number_after}
use Rattle.ua_channel.specs.Token.{is_known}
use Rattle.ua_conn.specs.server.Site.{Site}
use Rattle.ua_conn.specs.Past.{Past, known, carried}
use Rattle.ua_conn.specs.server.Faults.{fault_by}
use Rattle.ua_conn.specs.server.Replies.{Reply, spelled, more_numbered, spelled_all}
use Rattle.ua_conn.specs.server.Held.{newest_first}
use Rattle.ua_conn.specs.client.Asker.{Asker}
use Rattle.ua_conn.specs.client.Commands.{Commands}
use Rattle.ua_conn.specs.client.Past.{client_known}
use Rattle.ua_conn.specs.client.Pending.{bytes_in, due_at, wanted_at}
use Rattle.ua_conn.specs.client.Faults.{client_fault_by}
use Rattle.ua_conn.specs.client.Sending.{Sent, sent_bytes, more_sent}

-- ---- frames as bytes

abbrev pub frames_sent : ℕ → ℕ → List Sent → List (List ℕ)
frames_sent first n [] = []
frames_sent first n (x ∷ xs) = sent_bytes (number_after first n) x ∷ frames_sent first (more_sent n x) xs

abbrev pub frames_replied : Site → ℕ → List Reply → List (List ℕ)
frames_replied site n [] = []
frames_replied site n (r ∷ rs) = spelled site (number_after 1 n) r ∷ frames_replied site (more_numbered n r) rs

pub replied_joined : (site : Site) (n : ℕ) (rs : List Reply) → flat_map (λ f. f) (frames_replied site n rs) ≡ spelled_all site n rs
replied_joined site n [] = refl
replied_joined site n (r ∷ rs) = ap (λ b. spelled site (number_after 1 n) r ++ b) (replied_joined site (more_numbered n r) rs)

-- The frames have these bytes. Their places are those of a past, and their moments are free.
abbrev pub Are : List Frame → List (List ℕ) → Type 0
Are ps frames = map (λ f. f.bytes) ps ≡ frames

abbrev pub past_of : List Frame → Past
past_of ps = newest_first ps []

-- ---- accepted but for the age of tokens

-- no row of the server's table holds, where the token is one of the two newest
abbrev pub Sound : Site → Past → Frame → Type 0
Sound site past f = fault_by site (known site past) f (is_known (known site past).tokens (carried f).token) ≡ None

-- nor of the client's
abbrev pub Accepts : Asker → Commands → Past → Frame → Type 0
Accepts a cmds past f =
    let k = client_known past in
    let end = bytes_in (f ∷ past) in
    client_fault_by a false k (due_at cmds past end) (wanted_at cmds past end (carried f).request_id) (is_known k.tokens (carried f).token) f ≡ None
