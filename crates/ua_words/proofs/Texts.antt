-- The texts that matches hold, as an array of a message.
use Rattle.std.proofs.Common.{◌≡◌, List, [], ◌∷◌, Option, Some, ap, map, refl, ◌∙◌}
use Rattle.std.specs.Borrow.{Bor}
use Rattle.clap.specs.Words.{Text}
use Rattle.ua_words.specs.Command.{texts_of}

lent_texts : (texts : List (Bor Text)) → map (λ t. Some t.now) texts ≡ map Some (map (λ t. t.now) texts)
lent_texts [] = refl
lent_texts (t ∷ ts) = ap (λ (l : List (Option Text)). Some t.now ∷ l) (lent_texts ts)

pub texts_given : (texts : List (Bor Text)) (all : Option (List Text)) → Some (map (λ t. t.now) texts) ≡ all → Some (map (λ t. Some t.now) texts) ≡ texts_of all
texts_given texts all e = ap (λ (l : List (Option Text)). Some l) (lent_texts texts) ∙ ap texts_of e
