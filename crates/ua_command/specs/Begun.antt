-- What an input of captures begins with.
use Rattle.std.specs.Prelude.{◌≡◌, true, false, List, ℕ, Option}
use Rattle.std.specs.Io.KnownBytes.{Consumes}
use Rattle.ua_capture.specs.Beginning.{is_capture}
use Rattle.ua_command.specs.Answer.{IsInput}
use Rattle.ua_command.specs.declared.begun.Begun.{Begun}
use Rattle.ua_command.specs.declared.begun.Begun.TheVariants.{Raw, Packets}

-- Raw bytes are all that the reader gave, and begin as no file of packets; the first bytes of packets were taken from it, and begin as one.
abbrev pub IsBegun : Option (List ℕ) → Option (List ℕ) → Begun → Type 0
IsBegun old new (Raw bytes) = IsInput old bytes.items × (is_capture bytes.items ≡ false)
IsBegun old new (Packets front) = Consumes old new front.items × (is_capture front.items ≡ true)
