-- A setup whose client opens the connection.
use mathlib.Core.List.{IsPrefix}
use Rattle.std.proofs.Common.{◌≡◌, ℕ, ◌<◌, ◌^◌, false, List, length, Some, None, ap, subst, ◌⊎◌}
use Rattle.ua_frame.specs.Streams.{moment_of}
use Rattle.ua_conn.specs.server.Replies.{reply_bytes}
use Rattle.ua_conn.specs.client.Commands.{asked_in}
use Rattle.ua_conn.specs.Story.{Setup, World, server_stream, story_in}
use Rattle.ua_conn.specs.BothEnds.{IsSite, IsAsker, IsSetup, TokensLive, Delivered, served, AnswersInOrder}
use Rattle.ua_conn.specs.declared.outcome.End.TheVariants.{Closed}

pub record IsPlain (s : Setup) : Type 0 where
  pub site : IsSite s.site
  pub asker : IsAsker s.asker
  pub start : moment_of s.start < 2 ^ 63
  pub plain : s.asker.reverse ≡ false

pub plain_of : (s : Setup) → IsSetup s → s.asker.reverse ≡ false → IsPlain s
plain_of s h e = record { site = h.site; asker = h.asker; start = h.start; plain = e }

-- its server says nothing first
pub plain_stream : (s : Setup) → IsPlain s → (w : World) → server_stream s w ≡ reply_bytes false s.site w.up
plain_stream s h w = ap (λ b. reply_bytes b s.site w.up) h.plain

pub plain_down : (s : Setup) → IsPlain s → (w : World) (bytes : List ℕ) → IsPrefix bytes (server_stream s w) → IsPrefix bytes (reply_bytes false s.site w.up)
plain_down s h w bytes p = subst (IsPrefix bytes) (plain_stream s h w) p

-- ---- what the law says of a world, in its three parts

abbrev pub HandsAndAnswers : Setup → World → Type 0
HandsAndAnswers s w = IsPrefix (story_in s w).handed (story_in s w).asked × AnswersInOrder s (asked_in w.cmds) (served s w) (story_in s w).answers

abbrev pub RefusesNothing : Setup → World → Type 0
RefusesNothing s w = TokensLive w → (((story_in s w).server_end ≡ None) ⊎ ((story_in s w).server_end ≡ Some Closed)) × ((story_in s w).client_fault ≡ None)

abbrev pub AnswersAll : Setup → World → Type 0
AnswersAll s w = TokensLive w → Delivered s w → ((story_in s w).handed ≡ (story_in s w).asked) × (length (story_in s w).answers ≡ length (story_in s w).asked)
