-- ExtensionObject, OPC 10000-6, 5.2.2.15: an id and a body that is kept unread.
use Rattle.std.specs.Prelude.{ℕ, ◌==◌, List, [], ◌∷◌, Option}
use Rattle.ua_value.specs.Format.{Grammar, Format}
use Rattle.ua_value.specs.Text.{xml_element, byte_string}
use Rattle.ua_value.specs.Node.{node_id}
use Rattle.ua_value.specs.Sequence.{made, never, absent, either, headed, pair, by}
use Rattle.ua_variant.specs.declared.extension.ExtensionBody.{ExtensionBody}
use Rattle.ua_variant.specs.declared.extension.ExtensionBody.TheVariants as bodies
use Rattle.ua_variant.specs.declared.extension.ExtensionObject.{ExtensionObject}

abbrev pub bytes_body : Option (List ℕ) → ExtensionBody
bytes_body v = bodies.Bytes v

abbrev pub xml_body : Option (List ℕ) → ExtensionBody
xml_body v = bodies.Xml v

-- what follows the encoding byte; a null body is kept as null
abbrev pub body_behind : ℕ → Grammar ExtensionBody
body_behind k =
    either (k == 0) (absent bodies.None)
    (either (k == 1) (made bytes_body byte_string.grammar)
    (either (k == 2) (made xml_body xml_element.grammar) never))

abbrev pub canon_body : ExtensionBody → List ℕ
canon_body bodies.None = 0 ∷ []
canon_body (bodies.Bytes v) = 1 ∷ byte_string.canon v
canon_body (bodies.Xml v) = 2 ∷ xml_element.canon v

abbrev pub IsExtensionBody : ExtensionBody → Type 0
IsExtensionBody bodies.None = Unit {0}
IsExtensionBody (bodies.Bytes v) = byte_string.IsValue v
IsExtensionBody (bodies.Xml v) = xml_element.IsValue v

unfoldable pub extension_body : Format ExtensionBody
extension_body = record { grammar = headed body_behind; canon = canon_body; IsValue = IsExtensionBody }

unfoldable pub extension_object : Format ExtensionObject
extension_object = by (λ e. (e.type_id, e.body)) (λ p. record { type_id = p.0; body = p.1 }) (pair node_id extension_body)
