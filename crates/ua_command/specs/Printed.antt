-- What `value` prints.
use Rattle.std.specs.Prelude.{◌≡◌, ℕ, Bool, true, false, List, ◌++◌, [], codes, length, Option, Ok}
use Rattle.std.specs.Fmt.{decimal}
use Rattle.hex.specs.Hex.{encode_lower}
use Rattle.uuid.specs.Text.{hyphenated_text, lower}
use Rattle.std.specs.Io.KnownBytes.{Appends}
use Rattle.ua_value.specs.Format.{Format, Reads, BeginsNone}
use Rattle.ua_value.specs.Guid.{digits_of}
use Rattle.ua_json.specs.Lines.{IsLine}
use Rattle.ua_json.specs.Value.{spelling_of}
use Rattle.ua_kind.specs.declared.kind.Kind.{Kind}
use Rattle.ua_kind.specs.declared.kind.Kind.TheVariants as types
use Rattle.ua_print.specs.Printed.{node_text}
use Rattle.ua_words.specs.declared.form.Form.{Form}
use Rattle.ua_words.specs.declared.form.Form.TheVariants.{Lines, Whole, Json}

-- the two lines of each value
abbrev pub value_lines : ℕ → ℕ → List ℕ → List ℕ
value_lines used len canon = (codes "used " ++ decimal used ++ codes " of " ++ decimal len ++ codes "\n") ++ (codes "canon " ++ encode_lower canon ++ codes "\n")

abbrev pub text_line : List ℕ → List ℕ
text_line text = codes "text " ++ text ++ codes "\n"

-- how the values of a type are spelled, and what is printed of one behind the two lines
pub record Shape : Type 1 where
  pub Value : Type 0
  pub format : Format Value
  pub last : Value → List ℕ

abbrev pub two_lines : {V : Type 0} → Format V → Shape
two_lines {V} f = record { Value = V; format = f; last = λ _. [] }

-- the third line, which values of two types have
abbrev pub last_of : (kind : Kind) → (spelling_of kind).Value → List ℕ
last_of types.Guid = λ g. text_line (hyphenated_text lower (digits_of g))
last_of types.NodeId = λ n. text_line (node_text n)
last_of kind = λ _. []

abbrev pub shape_of : Kind → Shape
shape_of kind = record { Value = (spelling_of kind).Value; format = (spelling_of kind).format; last = last_of kind }

-- the text is the lines of a value that the bytes begin with
abbrev pub Prints : Shape → List ℕ → List ℕ → Type 0
Prints s input text = (x : s.Value × ℕ) × Reads s.format input (Ok x) × (text ≡ value_lines x.1 (length input) (s.format.canon x.0) ++ s.last x.0)

-- the text is the lines of a value, with more behind them where all is asked for
abbrev pub IsPrinted : Bool → Shape → List ℕ → List ℕ → Type 0
IsPrinted false s input text = Prints s input text
IsPrinted true s input text = (lines more : List ℕ) × Prints s input lines × (text ≡ lines ++ more)

-- it stands behind what the writer held
abbrev pub PrintsOnto : Bool → Shape → List ℕ → Option (List ℕ) → Option (List ℕ) → Type 0
PrintsOnto whole s input old new = (text : List ℕ) × IsPrinted whole s input text × Appends old new text

-- one object of JSON on a line of its own stands behind what the writer held; its members are not said here
abbrev pub PrintsObject : Option (List ℕ) → Option (List ℕ) → Type 0
PrintsObject old new = (line : List ℕ) × IsLine line × Appends old new line

-- the same, and the bytes begin with a value
abbrev pub PrintsJson : Shape → List ℕ → Option (List ℕ) → Option (List ℕ) → Type 0
PrintsJson s input old new = ((x : s.Value × ℕ) × Reads s.format input (Ok x)) × PrintsObject old new

-- the same, and they begin with none
abbrev pub RefusesJson : Shape → List ℕ → Option (List ℕ) → Option (List ℕ) → Type 0
RefusesJson s input old new = BeginsNone s.format.grammar input × PrintsObject old new

-- the bytes begin with no spelling of a value, and one line that says so stands behind what the writer held
abbrev pub RefusesOnto : Shape → List ℕ → Option (List ℕ) → Option (List ℕ) → Type 0
RefusesOnto s input old new = BeginsNone s.format.grammar input × Appends old new (codes "refused\n")

-- what is printed of a value in each form
abbrev pub PrintsIn : Form → Shape → List ℕ → Option (List ℕ) → Option (List ℕ) → Type 0
PrintsIn Lines s input old new = PrintsOnto false s input old new
PrintsIn Whole s input old new = PrintsOnto true s input old new
PrintsIn Json s input old new = PrintsJson s input old new

-- and of bytes that begin with none
abbrev pub RefusesIn : Form → Shape → List ℕ → Option (List ℕ) → Option (List ℕ) → Type 0
RefusesIn Lines s input old new = RefusesOnto s input old new
RefusesIn Whole s input old new = RefusesOnto s input old new
RefusesIn Json s input old new = RefusesJson s input old new
