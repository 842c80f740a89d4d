-- Where in the object of a line some tokens of JSON end: what is open there, and what may come next (RFC 8259, 2 to 5).
use Rattle.std.specs.Prelude.{◌≡◌, List, fold}
use Rattle.json.specs.Token.{Token}

pub data Place : Type 0 where
  -- nothing came
  start : Place
  -- in an object, between its members
  object : Place → Place
  -- behind the key of a member
  member : Place → Place
  -- in an array, between its items
  array : Place → Place
  -- what came begins no line
  broken : Place

-- behind a whole value
abbrev pub valued : Place → Place
valued start = broken
valued (object p) = broken
valued (member p) = object p
valued (array p) = array p
valued broken = broken

-- behind a key
abbrev pub keyed : Place → Place
keyed start = broken
keyed (object p) = member p
keyed (member p) = broken
keyed (array p) = broken
keyed broken = broken

-- behind the end of an object
abbrev pub closed_object : Place → Place
closed_object start = broken
closed_object (object p) = valued p
closed_object (member p) = broken
closed_object (array p) = broken
closed_object broken = broken

-- behind the end of an array
abbrev pub closed_array : Place → Place
closed_array start = broken
closed_array (object p) = broken
closed_array (member p) = broken
closed_array (array p) = valued p
closed_array broken = broken

abbrev pub behind : Place → Token → Place
behind p Token.begin_object = object p
behind p Token.end_object = closed_object p
behind p Token.begin_array = array p
behind p Token.end_array = closed_array p
behind p (Token.key name) = keyed p
behind p (Token.string text) = valued p
behind p (Token.number text) = valued p
behind p (Token.boolean value) = valued p
behind p Token.null = valued p
behind p Token.bad = broken

-- the place behind all of the tokens
abbrev pub place : List Token → Place
place = fold behind start

-- one whole value came
abbrev pub AddsValue : List Token → List Token → Type 0
AddsValue old new = place new ≡ valued (place old)

-- whole members came, none or more, if an object is open
abbrev pub AddsMembers : List Token → List Token → Type 0
AddsMembers old new = (p : Place) → place old ≡ object p → place new ≡ object p

-- the object of the line is open, and nothing in it
abbrev pub IsOpen : List Token → Type 0
IsOpen tokens = place tokens ≡ object start
