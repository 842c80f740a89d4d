-- Records of calls; and looking for the next connection, with what comes of it.
use Rattle.std.specs.Prelude.{ℕ, List, [], ◌∷◌, Option}
use Rattle.ua_link.specs.Clock.{Noted}
use Rattle.ua_serve.specs.declared.sockets.Accepted.{Accepted}
use Rattle.ua_serve.specs.declared.sockets.Accepted.TheVariants.{Link, Nobody, NoSocket, Failed}

-- One more was noted: how long a wait may last, or what came of looking for a connection. What was noted may be known, until no record is kept
-- any more.
abbrev pub IsNoted : {A : Type 0} → Option (List A) → Option (List A) → A → Type 0
IsNoted old new a = Noted old new (a ∷ [])

-- a connection, nobody, want of a socket, or a failure
pub data Found : Type 0 where
  a_link : Found
  nobody_there : Found
  no_socket : Found
  a_failure : Found

-- what came, but for the link itself
abbrev pub found_of : {L : Type 0} → Accepted L → Found
found_of (Link l) = a_link
found_of Nobody = nobody_there
found_of NoSocket = no_socket
found_of Failed = a_failure

-- the place for which a connection was looked for, and what came
abbrev pub Look : Type 0
Look = ℕ × Found
