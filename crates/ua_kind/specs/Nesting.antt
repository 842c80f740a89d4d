-- How values are nested, OPC 10000-6, 5.2.2.12 and 5.2.2.16.
use Rattle.std.specs.Prelude.{ℕ, Bool, true, false}
use Rattle.ua_kind.specs.Kinds.{Kind, plain, data_kind, variant_kind, info_kind}

-- no Variant, DataValue or DiagnosticInfo is nested deeper
abbrev pub deepest : ℕ
deepest = 100

-- the kind of which a Variant holds no single value
abbrev pub is_variant : Kind → Bool
is_variant (plain p) = false
is_variant variant_kind = true
is_variant data_kind = false
is_variant info_kind = false
