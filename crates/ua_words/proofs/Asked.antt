-- What the words that clap takes ask for, by the matches.
use Rattle.std.proofs.Common.{◌≡◌, ◌⊎◌, inl, inr, List, [], ◌∷◌, Option, Some, Result, Ok, Err, IfOk, IfErr, sym, ◌∙◌, ap, subst, codes, refl, true}
use Rattle.std.proofs.lemmas.Option.{same_Some}
use Rattle.clap.specs.Words.{App, Row, Text, FailsBy, HasKind, HasMatchesOf, IsAmong, Kinds, fault_of, is_simple_and_free, kind_of, subcommand_of, subcommand_rows_of, first_of, rows_of, first_value}
use Rattle.clap.proofs.WalkLemmas.{first_value-rows}
use Rattle.clap.specs.declared.parser.matches.Found.{Found}
use Rattle.clap.specs.declared.parser.matches.ArgMatches.{ArgMatches}
use Rattle.clap.specs.declared.error.Error.{Error}
use Rattle.clap.specs.declared.error.kind.ErrorKind.{ErrorKind}
use Rattle.clap.specs.declared.error.kind.ErrorKind.TheVariants.{OutOfMemory, DisplayHelp, DisplayVersion}
use Rattle.ua_words.specs.Command.{Asks, AsksBy, AsksFor, AsksForText, AsksForNothing, AreShown, AsksNothingBy, NothingBy, IsErrorFault, IsWordsFault, Choices, AreChoices, uadisc}
use Rattle.ua_words.specs.declared.command.Command.{Command}
use Rattle.ua_words.specs.declared.command.WordsFault.{WordsFault}
use Rattle.ua_words.specs.declared.command.WordsFault.TheVariants.{Shown, Refused, NoMemory}

-- ---- what clap takes

rows_are : (choices : Choices) (a : App) (words : List Text) (m : ArgMatches) → HasMatchesOf a words m → a ≡ uadisc choices → subcommand_rows_of m ≡ subcommand_of (uadisc choices) words
rows_are choices a words m matches e =
    let same : HasMatchesOf (uadisc choices) words m = subst (λ x. HasMatchesOf x words m) e matches in
    (same refl).1

-- what clap finds wrong with the words, for the app that this one is
known_fault : (choices : Choices) (a : App) (words : List Text) → a ≡ uadisc choices → (is_simple_and_free a ≡ true → fault_of a words ≡ []) → fault_of (uadisc choices) words ≡ []
known_fault choices a words same taken =
    let known : is_simple_and_free (uadisc choices) ≡ true → fault_of (uadisc choices) words ≡ [] = subst (λ x. is_simple_and_free x ≡ true → fault_of x words ≡ []) same taken in
    known refl

for_words : {E : Type 0} (choices : Choices) (words : List Text) (r : Result Command E) → AreChoices choices → fault_of (uadisc choices) words ≡ [] → IfOk r (Asks (subcommand_of (uadisc choices) words)) → IfOk r (AsksFor words)
for_words choices words (Ok c) are taken h = (choices, are, record { taken = taken; named = h })
for_words choices words (Err fault) are taken h = h

pub asked_for : {E : Type 0} (choices : Choices) (a : App) (words : List Text) (m : ArgMatches) (r : Result Command E) → AreChoices choices → a ≡ uadisc choices → HasMatchesOf a words m → (is_simple_and_free a ≡ true → fault_of a words ≡ []) → IfOk r (Asks (subcommand_rows_of m)) → IfOk r (AsksFor words)
asked_for choices a words m r are same matches taken h = for_words choices words r are (known_fault choices a words same taken) (subst (λ found. IfOk r (Asks found)) (rows_are choices a words m matches same) h)

some_kind : (k : ErrorKind) (ks : Kinds) → ks ≡ [] → ks ≡ k ∷ [] → ⊥
some_kind k ks none some = absurd (cc)

not_named : (choices : Choices) (words : List Text) (r : Result Command WordsFault) → AreChoices choices → fault_of (uadisc choices) words ≡ [] → IfErr r (NothingBy (Asks (subcommand_of (uadisc choices) words))) → IfErr r (IsWordsFault words)
not_named choices words (Ok c) are taken h = h
not_named choices words (Err (Shown text)) are taken h = absurd h
not_named choices words (Err (Refused text)) are taken h = (choices, are, record { no_command = λ c asked. h c asked.named; no_help = some_kind DisplayHelp _ taken; no_version = some_kind DisplayVersion _ taken })
not_named choices words (Err NoMemory) are taken h = tt

pub none_asked : (choices : Choices) (a : App) (words : List Text) (m : ArgMatches) (r : Result Command WordsFault) → AreChoices choices → a ≡ uadisc choices → HasMatchesOf a words m → (is_simple_and_free a ≡ true → fault_of a words ≡ []) → IfErr r (NothingBy (Asks (subcommand_rows_of m))) → IfErr r (IsWordsFault words)
none_asked choices a words m r are same matches taken h = not_named choices words r are (known_fault choices a words same taken) (subst (λ found. IfErr r (NothingBy (Asks found))) (rows_are choices a words m matches same) h)

-- ---- what clap refuses, or answers itself

among : (k x : ErrorKind) (ks : Kinds) → k ≡ x → IsAmong k ks → IsAmong x ks
among k x ks e h = subst (λ y. IsAmong y ks) e h

no_one : (k : ErrorKind) (ks : Kinds) → IsAmong k ks → ks ≡ [] → ⊥
no_one k [] h e = h
no_one k (x ∷ xs) h e = absurd (cc)

alone : (k x : ErrorKind) (ks : Kinds) → IsAmong k ks → ks ≡ x ∷ [] → k ≡ x
alone k x ks h e = only k x (subst (IsAmong k) e h)
  where
    only : (k x : ErrorKind) → IsAmong k (x ∷ []) → k ≡ x
    only k x (inl same) = same
    only k x (inr h) = absurd h

by_kind : (choices : Choices) (words : List Text) (k : ErrorKind) (fault : WordsFault) → AreChoices choices → IsErrorFault k fault → (k ≡ OutOfMemory) ⊎ IsAmong k (fault_of (uadisc choices) words) → IsWordsFault words fault
by_kind choices words k (Shown text) are (inl help) (inl memory) = absurd (cc)
by_kind choices words k (Shown text) are (inr version) (inl memory) = absurd (cc)
by_kind choices words k (Shown text) are (inl help) (inr h) = (choices, are, inl (among k DisplayHelp _ help h))
by_kind choices words k (Shown text) are (inr version) (inr h) = (choices, are, inr (among k DisplayVersion _ version h))
by_kind choices words k (Refused text) are other (inl memory) = absurd (other.0 memory)
by_kind choices words k (Refused text) are other (inr h) = (
  choices,
  are,
  record {
    no_command = λ c asked. no_one k _ h asked.taken;
    no_help = λ e. other.1 (alone k DisplayHelp _ h e);
    no_version = λ e. other.2 (alone k DisplayVersion _ h e);
  },
)
by_kind choices words k NoMemory are other h = tt

pub clap_says : (choices : Choices) (a : App) (words : List Text) (error : Error) (fault : WordsFault) → AreChoices choices → a ≡ uadisc choices → (is_simple_and_free a ≡ true → HasKind (fault_of a words) error) → IsErrorFault (kind_of error) fault → IsWordsFault words fault
clap_says choices a words error fault are same kinds said =
    let known : is_simple_and_free (uadisc choices) ≡ true → HasKind (fault_of (uadisc choices) words) error = subst (λ x. is_simple_and_free x ≡ true → HasKind (fault_of x words) error) same kinds in
    by_kind choices words (kind_of error) fault are said (known refl)
