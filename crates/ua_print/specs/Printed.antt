-- How texts, node ids and statuses are printed.
use Rattle.std.specs.Prelude.{ℕ, nat_lt, nat_le, ◌==◌, ◌&&◌, ◌/◌, ◌%◌, ◌+◌, ◌-◌, not, true, if◌then◌else◌, List, ◌++◌, ◌∷◌, [], codes, length, replicate, Option, Some, None}
use Rattle.std.specs.List.{flat_map}
use Rattle.std.specs.Fmt.{decimal, digits}
use Rattle.uuid.specs.Text.{hyphenated_text, lower}
use Rattle.ua_value.specs.Guid.{digits_of}
use Rattle.ua_value.specs.declared.node.NodeId.{NodeId}
use Rattle.ua_value.specs.declared.node.Identifier.{Identifier}
use Rattle.ua_value.specs.declared.node.Identifier.TheVariants as identifiers

-- a lower-case hex digit
abbrev pub hex_digit : ℕ → ℕ
hex_digit n = if nat_lt n 10 then 48 + n else 87 + n

abbrev pub two_digits : ℕ → List ℕ
two_digits byte = hex_digit (byte / 16) ∷ hex_digit (byte % 16) ∷ []

-- the printable characters of ASCII but the double quote and the backslash stand for themselves
abbrev pub escaped : ℕ → List ℕ
escaped byte = if nat_le 32 byte && nat_le byte 126 && not (byte == 34) && not (byte == 92) then byte ∷ [] else 92 ∷ 120 ∷ two_digits byte

-- a text, or none
abbrev pub quoted : Option (List ℕ) → List ℕ
quoted None = codes "null"
quoted (Some bytes) = 34 ∷ flat_map escaped bytes ++ 34 ∷ []

abbrev pub opaque_text : Option (List ℕ) → List ℕ
opaque_text None = codes "b=null"
opaque_text (Some bytes) = codes "b=" ++ flat_map two_digits bytes

abbrev pub identifier_text : Identifier → List ℕ
identifier_text (identifiers.Numeric id) = codes "i=" ++ decimal id
identifier_text (identifiers.String text) = codes "s=" ++ quoted text
identifier_text (identifiers.Guid guid) = codes "g=" ++ hyphenated_text lower (digits_of guid)
identifier_text (identifiers.Opaque bytes) = opaque_text bytes

abbrev pub namespace_text : ℕ → List ℕ
namespace_text namespace = if namespace == 0 then [] else codes "ns=" ++ decimal namespace ++ codes ";"

abbrev pub node_text : NodeId → List ℕ
node_text node = namespace_text node.namespace_index ++ identifier_text node.identifier

-- a status as eight hex digits in upper case
abbrev pub status_text : ℕ → List ℕ
status_text status = replicate (8 - length (digits 16 true status)) 48 ++ digits 16 true status
