-- The tokens that a channel keeps, as a list.
use Rattle.std.specs.Prelude.{List, [], ◌∷◌}
use Rattle.ua_channel.specs.declared.token.Token.{Token}
use Rattle.ua_channel.specs.declared.newest.Newest.{Newest}
use Rattle.ua_channel.specs.declared.newest.Newest.TheVariants as kept

abbrev pub tokens_of : Newest → List Token
tokens_of kept.None = []
tokens_of (kept.One newest) = newest ∷ []
tokens_of (kept.Two newest before) = newest ∷ before ∷ []
