-- What one read of an input gives.
use Rattle.std.specs.Prelude.{◌≡◌, false, Bool, List, ℕ, Option}
use Rattle.std.specs.Io.KnownBytes.{Consumes, IsAtEnd}

-- The bytes that the reader gave stand behind those that it gave before, from whatever it had. Where there were none it is at its end.
pub record ReadsOnto (left left' : Option (List ℕ)) (before after : List ℕ) (more : Bool) : Type 0 where
  pub taken : (had : Option (List ℕ)) → Consumes had left before → Consumes had left' after
  pub ended : more ≡ false → IsAtEnd left'
  pub same : more ≡ false → after ≡ before
