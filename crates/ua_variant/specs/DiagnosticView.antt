-- One level of a DiagnosticInfo in memory, as the value that it stands for.
use Rattle.std.specs.Prelude.{◌≡◌, Some, None}
use Rattle.ua_variant.specs.declared.diagnostic.DiagnosticInfo.TheInside.{Inside}
use Rattle.ua_variant.specs.Diagnostic.{Diagnostic, plain, around, depth, IsDiagnostic}

abbrev pub view_of : Inside → Diagnostic
view_of a = elim a.inner [ None ↦ plain a.parts | Some inner ↦ around a.parts inner.value ]

-- the depth that is kept beside
pub record IsKept (a : Inside) : Type 0 where
  pub value : IsDiagnostic (view_of a)
  pub levels : a.levels ≡ depth (view_of a)
