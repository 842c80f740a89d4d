-- Lines of JSON, and a text to which they are appended.
use Rattle.std.specs.Prelude.{◌≡◌, ℕ, List, [], ◌∷◌, ◌++◌, length, Contains, All, flat_map}
use Rattle.json.specs.Json.{object, Members}
use Rattle.json.specs.Lex.{tokens}
use Rattle.json.specs.Tree.{json_tokens}

abbrev pub line_feed : ℕ
line_feed = 10

-- One object of JSON (RFC 8259), as a reader of JSON finds it, and a line feed behind it. In the object stands none.
pub record IsLine (line : List ℕ) : Type 0 where
  pub text : List ℕ
  pub members : Members
  pub is_object : tokens text ≡ json_tokens (object members)
  pub alone : Contains text line_feed → ⊥
  pub whole : line ≡ text ++ line_feed ∷ []

-- so many lines, one behind the other
pub record AreLines (count : ℕ) (text : List ℕ) : Type 0 where
  pub lines : List (List ℕ)
  pub each : All IsLine lines
  pub count_is : length lines ≡ count
  pub whole : text ≡ flat_map (λ line. line) lines

-- what stood there stands there, and one line stands behind it
abbrev pub AppendsLine : List ℕ → List ℕ → Type 0
AppendsLine old new = (line : List ℕ) × IsLine line × (new ≡ old ++ line)
