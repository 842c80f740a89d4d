-- The text of a path, which a fault names.
use Rattle.std.specs.Prelude.{ℕ, List, [], ◌∷◌, ◌++◌}
use Rattle.std.specs.Fmt.{decimal}
use Rattle.ua_disco.specs.declared.path.Path.{Path, fold-Path}
use Rattle.ua_disco.specs.declared.path.Path.TheOpen.{Path-F}

-- what stands before it, and then a text or a dot and the number of an item
abbrev pub path_step : Path-F (List ℕ) → List ℕ
path_step Path-F.Top = []
path_step (Path-F.Then before text) = before.now ++ text.now
path_step (Path-F.Item array index) = array.now ++ 46 ∷ decimal index

unfoldable pub path_text : Path → List ℕ
path_text = fold-Path (List ℕ) path_step
