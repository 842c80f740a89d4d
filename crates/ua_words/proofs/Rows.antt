-- The subcommand of some matches, from its name and its rows.
use Rattle.std.proofs.Common.{◌≡◌, List, Option, Some, None, Result, Ok, Err, IfOk, IfErr, option_map, refl, sym, ◌∙◌, ap₂, Box, true≢false, is_some, ap, subst}
use Rattle.std.proofs.lemmas.Option.{same_Some}
use Rattle.std.specs.List.{find}
use Rattle.std.specs.Str.{bytes_eq}
use Rattle.std.specs.Box.{box_value}
use Rattle.clap.specs.Words.{Row, Text, all_of, subcommand_rows, rows_of, first_of}
use Rattle.clap.specs.Facts.{Entry}
use Rattle.clap.specs.Walk.{row_of}
use Rattle.clap.specs.Matches.{raw_values}
use Rattle.clap.proofs.WalkLemmas.{find_row, first_value-rows}
use Rattle.clap.specs.declared.parser.matches.Found.{Found}
use Rattle.ua_words.specs.Command.{Asks, HasValues, IsNamed, RefusedBy, all_values, words_in, words_of}
use Rattle.ua_words.specs.declared.command.Command.{Command}
use Rattle.ua_words.specs.declared.command.WordFault.{WordFault}
use Rattle.ua_words.specs.declared.command.WordFault.TheVariants.{Bad, NoMemory as NoRoom}
use Rattle.clap.specs.declared.parser.matches.SubCommand.{SubCommand}
use Rattle.clap.specs.declared.parser.matches.ArgMatches.TheViews.{out-SubCommand}

pub from_parts : {Z : Type 0} (o : Option (Box SubCommand Z)) (name : Text) (rows : List Row) → Some name ≡ option_map (λ b. (out-SubCommand (box_value b)).name.now) o
    → Some rows ≡ option_map (λ p. p.1) (subcommand_rows o) → subcommand_rows o ≡ Some (name, rows)
from_parts None name rows n r = absurd (true≢false (ap is_some n))
from_parts (Some p) name rows n r = ap₂ (λ a b. Some (a, b)) (sym (same_Some _ _ n)) (sym (same_Some _ _ r))

-- the text of each id, of what was found and of its rows
all_values-rows : (f : Found) (id : Text) → all_values f id ≡ all_of id (rows_of f)
all_values-rows f id = go (find (λ e. bytes_eq e.0.now id) f.entries.items) ∙ ap (option_map (λ (r : Row). r.values)) (sym (find_row f.entries.items id))
  where
    go : (o : Option Entry) → option_map raw_values (option_map (λ e. e.1) o) ≡ option_map (λ (r : Row). r.values) (option_map row_of o)
    go None = refl
    go (Some e) = refl

same_words : (f : Found) (rows : List Row) → rows_of f ≡ rows → words_in f ≡ words_of rows
same_words f rows e = λ i. record { one = λ id. (first_value-rows f id ∙ ap (λ (r : List Row). first_of id r) e) i; all = λ id. (all_values-rows f id ∙ ap (λ (r : List Row). all_of id r) e) i }

-- a command with the word that was found, and with the values of its words
pub asks_named : {E : Type 0} (name : Text) (f : Found) (found : Option (Text × List Row)) (r : Result Command E) → found ≡ Some (name, rows_of f) → IfOk r (IsNamed name (words_in f)) → IfOk r (Asks found)
asks_named name f found (Ok c) e h = (rows_of f, e ∙ ap (λ (n : Text). Some (n, rows_of f)) (sym h.0), subst (λ w. HasValues w c) (same_words f (rows_of f) refl) h.1)
asks_named name f found (Err fault) e h = h

is_named : (name : Text) (f : Found) (found : Option (Text × List Row)) (c : Command) → found ≡ Some (name, rows_of f) → Asks found c → IsNamed name (words_in f) c
is_named name f found c e h =
    let same = same_Some _ _ (sym h.1 ∙ e) in
    let rows : rows_of f ≡ h.0 = sym (ap (λ p. p.1) same) in
    (ap (λ p. p.0) same, subst (λ w. HasValues w c) (sym (same_words f h.0 rows)) h.2)

-- where no command with that word has those values, none is asked for
pub refused_named : (name : Text) (f : Found) (found : Option (Text × List Row)) (r : Result Command WordFault) → found ≡ Some (name, rows_of f) → IfErr r (RefusedBy (IsNamed name (words_in f))) → IfErr r (RefusedBy (Asks found))
refused_named name f found (Ok c) e h = h
refused_named name f found (Err Bad) e h = λ c asked. h c (is_named name f found c e asked)
refused_named name f found (Err NoRoom) e h = tt
