-- One turn of a client over a link: its output is sent, then a read, and what the client makes of it.
use Rattle.std.specs.Prelude.{◌≡◌, ℕ, ◌+◌, ◌≤◌, ℤ, true, List, [], ◌∷◌, take, drop, length, Option, ◌⊎◌}
use Rattle.std.specs.Io.KnownBytes.{Appends, Consumes, Keeps, IsAtEnd}
use Rattle.ua_conn.specs.client.Feeding.{ClientShown, HandsAll, FailsAll}
use Rattle.ua_link.specs.Clock.{Answered}
use Rattle.ua_link.specs.Reads.{piece_at}
use Rattle.ua_link.specs.Turns.{Seen}
use Rattle.ua_link.specs.declared.client_turn.ClientTurn.{ClientTurn}
use Rattle.ua_link.specs.declared.client_turn.ClientTurn.TheVariants.{Answers, InputEnded, LinkFailed, Fault}

-- a client whose output went out
abbrev pub silent : ClientShown → ClientShown
silent client = record client { output = [] }

-- All of the output went out.
pub record Spoken (old new : ClientShown) (before after : Seen) : Type 0 where
  pub output : Appends before.output after.output old.output
  pub client : new ≡ silent old
  pub input : after.input ≡ before.input
  pub counted : after.faults ≡ before.faults

-- The link failed within the output: what went out of it is dropped, and nothing else of the client changed.
pub record Broken (old new : ClientShown) (before after : Seen) : Type 0 where
  pub sent : ℕ
  pub within : sent ≤ length old.output
  pub output : Appends before.output after.output (take sent old.output)
  pub client : new ≡ record old { output = drop sent old.output }
  pub input : after.input ≡ before.input
  pub counted : after.faults ≡ before.faults + 1

-- All of the output went out, and then the read failed.
pub record Deaf (old new : ClientShown) (before after : Seen) : Type 0 where
  pub output : Appends before.output after.output old.output
  pub client : new ≡ silent old
  pub input : Keeps before.input after.input
  pub counted : after.faults ≡ before.faults + 1

-- All of the output went out, and then the read gave no byte, since the input had ended.
pub record AtEnd (old new : ClientShown) (before after : Seen) : Type 0 where
  pub output : Appends before.output after.output old.output
  pub client : new ≡ silent old
  pub input : Consumes before.input after.input []
  pub at_end : IsAtEnd after.input
  pub counted : after.faults ≡ before.faults

-- All of the output went out, and then some bytes came, at most 4096, at a moment of the clock.
pub record Fed (old : ClientShown) (before after : Seen) (now : ℤ) (bytes : List ℕ) : Type 0 where
  pub output : Appends before.output after.output old.output
  pub input : Consumes before.input after.input bytes
  pub some : 1 ≤ length bytes
  pub most : length bytes ≤ 4096
  pub counted : after.faults ≡ before.faults

-- One fault is counted where the link failed, and none else.
abbrev pub client_faults : ClientTurn → ℕ → ℕ
client_faults (Answers answers) n = n
client_faults (Fault fault) n = n
client_faults InputEnded n = n
client_faults LinkFailed n = n + 1

-- Answers and a fault are those of the client for the bytes that came, at the one moment that the clock answered.
abbrev pub ClientTurns : ClientShown → ClientShown → Seen → Seen → Option (List ℤ) → Option (List ℤ) → ClientTurn → Type 0
ClientTurns old new before after clock clock' (Answers answers) =
    (now : ℤ) × (bytes : List ℕ) × Answered clock clock' (now ∷ []) × Fed old before after now bytes × HandsAll (silent old) (piece_at now bytes) new answers.items
ClientTurns old new before after clock clock' (Fault fault) =
    (now : ℤ) × (bytes : List ℕ) × Answered clock clock' (now ∷ []) × Fed old before after now bytes × FailsAll (silent old) (piece_at now bytes) new fault × (new.failed ≡ true)
ClientTurns old new before after clock clock' InputEnded = AtEnd old new before after
ClientTurns old new before after clock clock' LinkFailed = Broken old new before after ⊎ Deaf old new before after
