-- Numbers as they stand in bytes, from a place on.
use Rattle.std.specs.Prelude.{ℕ, ◌+◌, ◌*◌, List, slice_index}
use Rattle.ua_capture.specs.declared.number.Order.{Order}
use Rattle.ua_capture.specs.declared.number.Order.TheVariants.{Little, Big}

-- the most significant byte first, as on the network
unfoldable pub big_16 : List ℕ → ℕ → ℕ
big_16 bytes at = 256 * slice_index bytes at + slice_index bytes (at + 1)

unfoldable pub big_32 : List ℕ → ℕ → ℕ
big_32 bytes at =
    16777216 * slice_index bytes at + 65536 * slice_index bytes (at + 1) + 256 * slice_index bytes (at + 2) + slice_index bytes (at + 3)

-- the least significant byte first
unfoldable pub little_16 : List ℕ → ℕ → ℕ
little_16 bytes at = slice_index bytes at + 256 * slice_index bytes (at + 1)

unfoldable pub little_32 : List ℕ → ℕ → ℕ
little_32 bytes at =
    slice_index bytes at + 256 * slice_index bytes (at + 1) + 65536 * slice_index bytes (at + 2) + 16777216 * slice_index bytes (at + 3)

abbrev pub number_16 : Order → List ℕ → ℕ → ℕ
number_16 Little bytes at = little_16 bytes at
number_16 Big bytes at = big_16 bytes at

abbrev pub number_32 : Order → List ℕ → ℕ → ℕ
number_32 Little bytes at = little_32 bytes at
number_32 Big bytes at = big_32 bytes at
