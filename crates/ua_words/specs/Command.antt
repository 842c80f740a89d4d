-- The command line as clap reads it.
use Rattle.std.specs.Prelude.{if◌then◌else◌, ◌≡◌, ◌⊎◌, ◌≤◌, ◌||◌, ℕ, Bool, String, codes, length, map, string_bytes, true, false, Some, None, Option, List, [], ◌∷◌, Ok}
use Rattle.std.specs.Global.{Global}
use Rattle.std.specs.Option.{is_some, option_map}
use Rattle.std.specs.Str.{bytes_eq}
use Rattle.std.specs.Str.Parse.{IsNumeral, digits_value, without_leading_plus}
use Rattle.clap.specs.Words.{App, Rule, Row, Text, IsAmong, all_of, fault_of, first_of, first_value, matched_of, new_app, new_rule, subcommand_of, with_rule, with_subcommand}
use Rattle.clap.specs.Matches.{raw_values}
use Rattle.clap.specs.declared.parser.matches.Found.{Found}
use Rattle.clap.specs.declared.builder.action.ArgAction.TheVariants.{Append, Set, SetTrue}
use Rattle.clap.specs.declared.builder.value_parser.ValueParser.TheVariants.{Names, Unsigned}
use Rattle.clap.specs.declared.error.kind.ErrorKind.{ErrorKind}
use Rattle.clap.specs.declared.error.kind.ErrorKind.TheVariants.{OutOfMemory, DisplayHelp, DisplayVersion}
use Rattle.hex.specs.Hex.{decode_of}
use Rattle.ua_address.specs.Address.{address_of, is_url}
use Rattle.ua_kind.specs.KindNames.{kind_name}
use Rattle.ua_words.specs.TypeNames.{Lent, AreTypeNames}
use Rattle.ua_words.specs.declared.form.Form.{Form}
use Rattle.ua_words.specs.declared.form.Form.TheVariants.{Lines, Whole, Json}
use Rattle.ua_words.specs.declared.question.Question.{Question}
use Rattle.ua_words.specs.declared.question.Question.TheVariants.{Find, Endpoints}
use Rattle.ua_words.specs.declared.command.Command.{Command}
use Rattle.ua_words.specs.declared.command.Command.TheVariants.{Answer, Value, Show, Serve, ServeMany, Ask, Check}
use Rattle.ua_words.specs.declared.command.WordsFault.{WordsFault}
use Rattle.ua_words.specs.declared.command.WordsFault.TheVariants.{Shown, Refused, NoMemory}
use Rattle.ua_words.specs.declared.command.WordFault.{WordFault}
use Rattle.ua_words.specs.declared.command.WordFault.TheVariants.{Bad, NoMemory as NoRoom}
use Rattle.ua_words.specs.declared.source.Source.{Source}
use Rattle.ua_words.specs.declared.source.Source.TheVariants.{Default, File}
use Rattle.ua_words.specs.declared.capture.Capture.{Capture}
use Rattle.ua_words.specs.declared.capture.Capture.TheVariants as captures

-- a word that may be there, and has one name in the help
abbrev pub optional_rule : Text → Rule
optional_rule id = record (new_rule id) { action = Some Set; value_names = 1 }

-- one that has to be there
abbrev pub word_rule : Text → Rule
word_rule id = record (optional_rule id) { required = true }

-- one that has to be among these names
abbrev pub named_rule : Text → Lent → Rule
named_rule id names = record (word_rule id) { parser = Some (Names names) }

abbrev pub type_rule : Lent → Rule
type_rule names = named_rule (codes "type") names

-- a word behind `--connections` that has to be there, and a number from 1 to 4294967295
abbrev pub count_rule : Rule
count_rule = record (word_rule (codes "connections")) { long = Some (codes "connections"); parser = Some (Unsigned 1 4294967295) }

-- a word behind `--` and this name that may be there, and is a number from 1 on
abbrev pub number_rule : Text → ℕ → Rule
number_rule id most = record (optional_rule id) { long = Some id; parser = Some (Unsigned 1 most) }

-- the same from 0 on
abbrev pub index_rule : Text → ℕ → Rule
index_rule id most = record (optional_rule id) { long = Some id; parser = Some (Unsigned 0 most) }

-- a flag behind `--` and this name
abbrev pub flag_rule : Text → Rule
flag_rule id = record (new_rule id) { long = Some id; action = Some SetTrue }

-- the flag `--reverse`, by which the server opens the connection
abbrev pub reverse_rule : Rule
reverse_rule = flag_rule (codes "reverse")

-- a word behind `--` and this name that may be there again and again
abbrev pub list_rule : Text → Rule
list_rule id = record (new_rule id) { long = Some id; action = Some Append; value_names = 1 }

-- the names that some words have to be among, lent from some place: those of the types, and what can be asked for
pub record Choices : Type 0 where
  pub types : Lent
  pub questions : Lent

abbrev pub name_of_question : Question → List ℕ
name_of_question Find = codes "find"
name_of_question Endpoints = codes "endpoints"

-- these texts are the names of the questions, wherever they stand
abbrev pub AreQuestionNames : Lent → Type 0
AreQuestionNames lent = map (λ s. s.now) lent.now ≡ map name_of_question (Find ∷ Endpoints ∷ [])

abbrev pub AreChoices : Choices → Type 0
AreChoices choices = AreTypeNames choices.types × AreQuestionNames choices.questions

abbrev pub answer_app : App
answer_app = with_rule (with_rule (new_app (codes "answer")) (word_rule (codes "settings"))) reverse_rule

abbrev pub value_app : Lent → App
value_app names = with_rule (with_rule (with_rule (with_rule (new_app (codes "value")) (type_rule names)) (word_rule (codes "hex"))) (flag_rule (codes "show"))) (flag_rule (codes "json"))

abbrev pub show_app : App
show_app = with_rule (with_rule (with_rule (with_rule (with_rule (new_app (codes "show")) (word_rule (codes "file"))) (index_rule (codes "stream") 4294967295)) (index_rule (codes "port") 65535)) (flag_rule (codes "all"))) (flag_rule (codes "json"))

abbrev pub serve_app : App
serve_app = with_rule (with_rule (with_rule (with_rule (with_rule (with_rule (new_app (codes "serve")) (word_rule (codes "settings"))) (word_rule (codes "address"))) count_rule) (number_rule (codes "at-once") 65535)) (number_rule (codes "patience") 86400)) reverse_rule

-- what a request may say, and how its answer is printed
abbrev pub with_wishes : App → App
with_wishes app = with_rule (with_rule (with_rule (with_rule (with_rule app (list_rule (codes "locale"))) (list_rule (codes "profile"))) (list_rule (codes "server"))) (flag_rule (codes "all"))) (flag_rule (codes "json"))

abbrev pub ask_app : Lent → App
ask_app names = with_wishes (with_rule (with_rule (with_rule (with_rule (with_rule (new_app (codes "ask")) (named_rule (codes "question") names)) (word_rule (codes "address"))) (optional_rule (codes "url"))) reverse_rule) (number_rule (codes "timeout") 86400))

abbrev pub check_app : App
check_app = with_rule (with_rule (with_rule (with_rule (new_app (codes "check")) (word_rule (codes "settings"))) (word_rule (codes "address"))) (optional_rule (codes "url"))) (number_rule (codes "timeout") 86400)

abbrev pub plain : App
plain = let a = new_app (codes "uadisc") in record a { top = record (a.top) { no_binary_name = true; subcommand_required = true; has_version = true } }

abbrev pub answer_or_value : Lent → App
answer_or_value names = with_subcommand (with_subcommand plain answer_app.top) (value_app names).top

abbrev pub without_links : Lent → App
without_links names = with_subcommand (answer_or_value names) show_app.top

abbrev pub without_ask : Lent → App
without_ask names = with_subcommand (without_links names) serve_app.top

abbrev pub without_check : Lent → Lent → App
without_check types questions = with_subcommand (without_ask types) (ask_app questions).top

abbrev pub uadisc_with : Lent → Lent → App
uadisc_with types questions = with_subcommand (without_check types questions) check_app.top

abbrev pub uadisc : Choices → App
uadisc choices = uadisc_with choices.types choices.questions

-- the first text of each id, where it has one, and all of its texts
pub record Words : Type 0 where
  pub one : Text → Option Text
  pub all : Text → Option (List Text)

abbrev pub all_values : Found → Text → Option (List Text)
all_values found id = option_map raw_values (matched_of found id)

-- those of what was found, and those of its rows
abbrev pub words_in : Found → Words
words_in found = record { one = first_value found; all = all_values found }

abbrev pub words_of : List Row → Words
words_of rows = record { one = λ id. first_of id rows; all = λ id. all_of id rows }

-- these are hex digits, and the bytes that they stand for
abbrev pub IsHexOf : List ℕ → Option Text → Type 0
IsHexOf bytes None = ⊥
IsHexOf bytes (Some digits) = decode_of digits ≡ Ok bytes

-- `default` is the built-in settings, and any other text the path of a file
abbrev pub IsSourceOf : Option Text → Source → Type 0
IsSourceOf text Default = text ≡ Some (codes "default")
IsSourceOf text (File path) = (text ≡ Some (string_bytes path)) × (string_bytes path ≡ codes "default" → ⊥)

-- `-` is standard input, and any other text the path of a file
abbrev pub IsCaptureOf : Option Text → Capture → Type 0
IsCaptureOf text captures.Input = text ≡ Some (codes "-")
IsCaptureOf text (captures.File path) = (text ≡ Some (string_bytes path)) × (string_bytes path ≡ codes "-" → ⊥)

-- the text is this number from 1 to a limit, in decimal
pub record IsCount (limit : ℕ) (text : List ℕ) (n : ℕ) : Type 0 where
  pub numeral : IsNumeral 10 (without_leading_plus text)
  pub number : digits_value 10 (without_leading_plus text) ≡ n
  pub least : 1 ≤ n
  pub most : n ≤ limit

abbrev pub IsCountOf : ℕ → Option Text → ℕ → Type 0
IsCountOf limit None n = ⊥
IsCountOf limit (Some text) n = IsCount limit text n

-- the same, or the usual number where there is no text
abbrev pub IsCountOr : ℕ → ℕ → Option Text → ℕ → Type 0
IsCountOr usual limit None n = n ≡ usual
IsCountOr usual limit (Some text) n = IsCount limit text n

-- a number up to a limit, in decimal, or none where there is no text
pub record IsNumber (limit : ℕ) (text : List ℕ) (n : ℕ) : Type 0 where
  pub numeral : IsNumeral 10 (without_leading_plus text)
  pub number : digits_value 10 (without_leading_plus text) ≡ n
  pub most : n ≤ limit

abbrev pub IsNumberOf : ℕ → Option Text → Option ℕ → Type 0
IsNumberOf limit None None = Unit {0}
IsNumberOf limit None (Some n) = ⊥
IsNumberOf limit (Some text) None = ⊥
IsNumberOf limit (Some text) (Some n) = IsNumber limit text n

-- The text of a flag is `true` where it was given.
abbrev pub is_given : Option Text → Bool
is_given None = false
is_given (Some text) = bytes_eq text (codes "true")

-- the text of the address, which may be a url that names it
abbrev pub IsAddressOf : Option Text → String Global → Type 0
IsAddressOf None address = ⊥
IsAddressOf (Some text) address = string_bytes address ≡ address_of text

-- The url that the words give: the word for it, or without one the address, where that is a url.
abbrev pub url_of_address : Option Text → Option Text
url_of_address None = None
url_of_address (Some address) = if is_url address then Some address else None

abbrev pub url_named : Option Text → Option Text → Option Text
url_named None address = url_of_address address
url_named (Some url) address = Some url

-- the text is there, has at most 4095 bytes, and is this url
abbrev pub IsShortUrl : Option Text → String Global → Type 0
IsShortUrl text url = (text ≡ Some (string_bytes url)) × (length (string_bytes url) ≤ 4095)

-- A server is called by a url of at most 4095 bytes, and by none exactly where it opens the connection.
abbrev pub IsUrlOf : Bool → Option Text → Option Text → Option (String Global) → Type 0
IsUrlOf reverse text address None = (reverse ≡ true) × (text ≡ None)
IsUrlOf reverse text address (Some url) = (reverse ≡ false) × (url_named text address ≡ Some (string_bytes url)) × (length (string_bytes url) ≤ 4095)

-- an array of these texts, or none where there are none
abbrev pub texts_of : Option (List Text) → Option (List (Option (List ℕ)))
texts_of None = None
texts_of (Some texts) = Some (map Some texts)

-- the word by which a filter of each question is named: URIs of servers, or of transport profiles
abbrev pub filter_word : Question → Text
filter_word Find = codes "server"
filter_word Endpoints = codes "profile"

abbrev pub other_filter_word : Question → Text
other_filter_word Find = codes "profile"
other_filter_word Endpoints = codes "server"

-- the texts under the one name are the filter, and there are none under the other
abbrev pub IsFilterBy : Text → Text → Words → Option (List (Option (List ℕ))) → Type 0
IsFilterBy own other word filter = (filter ≡ texts_of (word.all own)) × (word.all other ≡ None)

abbrev pub IsFilterOf : Question → Words → Option (List (Option (List ℕ))) → Type 0
IsFilterOf question = IsFilterBy (filter_word question) (other_filter_word question)

-- the locales and the filter of a question
abbrev pub AreAskedTexts : Question → Words → Option (List (Option (List ℕ))) × Option (List (Option (List ℕ))) → Type 0
AreAskedTexts question word texts = (texts.0 ≡ texts_of (word.all (codes "locale"))) × IsFilterOf question word texts.1

-- the address, and the url by which a server there is called, or none where it opens the connection
abbrev pub ArePlaces : Words → String Global × Option (String Global) → Type 0
ArePlaces word places = IsAddressOf (word.one (codes "address")) places.0 × IsUrlOf (is_given (word.one (codes "reverse"))) (word.one (codes "url")) (word.one (codes "address")) places.1

-- the same of one that does not open it
abbrev pub IsCalledPlace : Words → String Global × String Global → Type 0
IsCalledPlace word place = IsAddressOf (word.one (codes "address")) place.0 × IsShortUrl (url_named (word.one (codes "url")) (word.one (codes "address"))) place.1

-- the form that the flags for all that is known and for JSON ask for
abbrev pub form_of : Bool → Bool → Form
form_of whole json = if json then Json else (if whole then Whole else Lines)

-- the word of a command
abbrev pub word_of : Command → Text
word_of (Answer source reverse) = codes "answer"
word_of (Value kind bytes form) = codes "value"
word_of (Show capture form stream port) = codes "show"
word_of (Serve source address connections reverse) = codes "serve"
word_of (ServeMany source address connections at_once patience) = codes "serve"
word_of (Ask question locales filter address url seconds form) = codes "ask"
word_of (Check source address url seconds) = codes "check"

-- Several connections are served at once where one of their words is there.
abbrev pub are_many : Words → Bool
are_many word = is_some (word.one (codes "at-once")) || is_some (word.one (codes "patience"))

-- the values of a command are those among these words
abbrev pub HasValues : Words → Command → Type 0
HasValues word (Answer source reverse) = IsSourceOf (word.one (codes "settings")) source × (reverse ≡ is_given (word.one (codes "reverse")))
HasValues word (Value kind bytes form) = (word.one (codes "type") ≡ Some (kind_name kind)) × IsHexOf bytes.items (word.one (codes "hex")) × (form ≡ form_of (is_given (word.one (codes "show"))) (is_given (word.one (codes "json"))))
HasValues word (Show capture form stream port) = IsCaptureOf (word.one (codes "file")) capture × (form ≡ form_of (is_given (word.one (codes "all"))) (is_given (word.one (codes "json")))) × IsNumberOf 4294967295 (word.one (codes "stream")) stream × IsNumberOf 65535 (word.one (codes "port")) port
HasValues word (Serve source address connections reverse) = IsSourceOf (word.one (codes "settings")) source × (word.one (codes "address") ≡ Some (string_bytes address)) × IsCountOf 65535 (word.one (codes "connections")) connections × (reverse ≡ is_given (word.one (codes "reverse"))) × (are_many word ≡ false)
HasValues word (ServeMany source address connections at_once patience) = IsSourceOf (word.one (codes "settings")) source × (word.one (codes "address") ≡ Some (string_bytes address)) × IsCountOf 4294967295 (word.one (codes "connections")) connections × IsCountOr 1 65535 (word.one (codes "at-once")) at_once × IsCountOr 30 86400 (word.one (codes "patience")) patience × (is_given (word.one (codes "reverse")) ≡ false) × (are_many word ≡ true)
HasValues word (Ask question locales filter address url seconds form) = (word.one (codes "question") ≡ Some (name_of_question question)) × AreAskedTexts question word (locales, filter) × ArePlaces word (address, url) × IsCountOr 30 86400 (word.one (codes "timeout")) seconds × (form ≡ form_of (is_given (word.one (codes "all"))) (is_given (word.one (codes "json"))))
HasValues word (Check source address url seconds) = IsSourceOf (word.one (codes "settings")) source × IsCalledPlace word (address, url) × IsCountOr 30 86400 (word.one (codes "timeout")) seconds

-- the command has this word, and its values are those among these words
abbrev pub IsNamed : Text → Words → Command → Type 0
IsNamed name word c = (word_of c ≡ name) × HasValues word c

-- the words that clap finds name this command, with these values
abbrev pub Asks : Option (Text × List Row) → Command → Type 0
Asks found c = (rows : List Row) × (found ≡ Some (word_of c, rows)) × HasValues (words_of rows) c

-- Clap takes the words, and they name this command, with these values. The names that it knows are lent from some place.
pub record AsksBy (choices : Choices) (words : List Text) (c : Command) : Type 0 where
  pub taken : fault_of (uadisc choices) words ≡ []
  pub named : Asks (subcommand_of (uadisc choices) words) c

abbrev pub AsksFor : List Text → Command → Type 0
AsksFor words c = (choices : Choices) × AreChoices choices × AsksBy choices words c

-- clap answers the words with its help or the version
abbrev pub AreShown : Choices → List Text → Type 0
AreShown choices words = IsAmong DisplayHelp (fault_of (uadisc choices) words) ⊎ IsAmong DisplayVersion (fault_of (uadisc choices) words)

abbrev pub AsksForText : List Text → Type 0
AsksForText words = (choices : Choices) × AreChoices choices × AreShown choices words

-- the words ask for no command, and neither for the help nor for the version alone
pub record AsksNothingBy (choices : Choices) (words : List Text) : Type 0 where
  pub no_command : (c : Command) → AsksBy choices words c → ⊥
  pub no_help : fault_of (uadisc choices) words ≡ DisplayHelp ∷ [] → ⊥
  pub no_version : fault_of (uadisc choices) words ≡ DisplayVersion ∷ [] → ⊥

abbrev pub AsksForNothing : List Text → Type 0
AsksForNothing words = (choices : Choices) × AreChoices choices × AsksNothingBy choices words

-- what is asked for in this way is nothing, or memory ran out
abbrev pub RefusedBy : {A : Type 0} → (A → Type 0) → WordFault → Type 0
RefusedBy {A} IsAsked Bad = (c : A) → IsAsked c → ⊥
RefusedBy {A} IsAsked NoRoom = Unit {0}

-- the same of words that clap takes, which are shown no text
abbrev pub NothingBy : (Command → Type 0) → WordsFault → Type 0
NothingBy IsAsked (Shown text) = ⊥
NothingBy IsAsked (Refused text) = (c : Command) → IsAsked c → ⊥
NothingBy IsAsked NoMemory = Unit {0}

abbrev pub IsWordsFault : List Text → WordsFault → Type 0
IsWordsFault words (Shown text) = AsksForText words
IsWordsFault words (Refused text) = AsksForNothing words
IsWordsFault words NoMemory = Unit {0}

-- clap's answers that are no matches: its help and the version, want of memory, and refusals
abbrev pub IsErrorFault : ErrorKind → WordsFault → Type 0
IsErrorFault kind (Shown text) = (kind ≡ DisplayHelp) ⊎ (kind ≡ DisplayVersion)
IsErrorFault kind (Refused text) = (kind ≡ OutOfMemory → ⊥) × (kind ≡ DisplayHelp → ⊥) × (kind ≡ DisplayVersion → ⊥)
IsErrorFault kind NoMemory = Unit {0}
