-- Names in a namespace (OPC 10000-6, 5.2.2.13): the number of the namespace and the name.
use Rattle.std.specs.Prelude.{refl}
use Rattle.std.specs.Int.{w16}
use Rattle.ua_value.specs.declared.names.QualifiedName.{QualifiedName}
use Rattle.ua_value.specs.Format.{Format, IsLawful}
use Rattle.ua_value.specs.Number.{unsigned}
use Rattle.ua_value.specs.NumberLaws.{lawful_unsigned, wide_16}
use Rattle.ua_value.specs.Text.{string}
use Rattle.ua_value.specs.TextLaws.{lawful_string}
use Rattle.ua_value.specs.Sequence.{by, pair}
use Rattle.ua_value.specs.SequenceLaws.{lawful_by, lawful_pair}

unfoldable pub qualified_name : Format QualifiedName
qualified_name = by (λ q. (q.namespace_index, q.name)) (λ p. record { namespace_index = p.0; name = p.1 }) (pair (unsigned w16) string)

pub lawful_qualified_name : IsLawful qualified_name
unfolding qualified_name
lawful_qualified_name = lawful_by _ _ _ (λ q. refl) (λ p. refl) (lawful_pair _ _ (lawful_unsigned w16 wide_16) lawful_string)
