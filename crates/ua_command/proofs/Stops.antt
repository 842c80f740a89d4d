-- How the command `answer` stops or is done, from its settings and its input.
use Rattle.std.proofs.Common.{◌≡◌, ℕ, Bool, List, Option, Result, Ok, Err, IfOk, IfErr}
use Rattle.ua_disco.specs.Configuration.{Configuration}
use Rattle.ua_command.specs.Answer.{AnswersInput, AnswersBy, IsInput}
use Rattle.ua_command.specs.Reverse.{IsReverseFault}
use Rattle.ua_command.specs.Script.{Timed, script_in}
use Rattle.ua_command.specs.Settings.{IsSettings}
use Rattle.ua_command.specs.Stop.{IsSettingsStop, IsFileStop, IsInputStop, IsAnsweringStop, IsAnswerStop, stop_of_reverse}
use Rattle.ua_words.specs.declared.source.Source.{Source}
use Rattle.ua_command.specs.declared.stop.Stop.{Stop}
use Rattle.ua_command.specs.declared.stop.Stop.TheVariants.{Words, Settings, Line, Reverse, File, Link, NoMemory}
use Rattle.ua_conn.specs.declared.server.greeting.ReverseFault.{ReverseFault}
use Rattle.ua_conn.specs.declared.server.greeting.ReverseFault.TheVariants.{NoEndpoint, TooLarge, NoMemory as NoRoom}

-- ---- by settings that are good

-- the input stops it
pub input_stop : (reverse : Bool) (settings : Configuration) (left : Option (List ℕ)) (stop : Stop) → IsInputStop left stop → IsAnsweringStop reverse settings left stop
input_stop reverse settings left (Words text) h = absurd h
input_stop reverse settings left (Settings fault) h = absurd h
input_stop reverse settings left (Line number) h = h
input_stop reverse settings left (Reverse fault) h = absurd h
input_stop reverse settings left File h = tt
input_stop reverse settings left Link h = absurd h
input_stop reverse settings left NoMemory h = tt

-- its lines can't be printed
pub file_stop : (reverse : Bool) (settings : Configuration) (left : Option (List ℕ)) (stop : Stop) → IsFileStop stop → IsAnsweringStop reverse settings left stop
file_stop reverse settings left (Words text) h = absurd h
file_stop reverse settings left (Settings fault) h = absurd h
file_stop reverse settings left (Line number) h = absurd h
file_stop reverse settings left (Reverse fault) h = absurd h
file_stop reverse settings left File h = tt
file_stop reverse settings left Link h = absurd h
file_stop reverse settings left NoMemory h = tt

-- a server can't open the connection, which is found behind the lines
pub reverse_stop : (reverse : Bool) (settings : Configuration) (left : Option (List ℕ)) (pieces : List Timed) (fault : ReverseFault) → ((text : List ℕ) × IsInput left text × (script_in text ≡ Ok pieces)) → IsReverseFault reverse settings fault → IsAnsweringStop reverse settings left (stop_of_reverse fault)
reverse_stop reverse settings left pieces NoEndpoint read h = (h, (read.0, pieces, read.1, read.2))
reverse_stop reverse settings left pieces TooLarge read h = (h, (read.0, pieces, read.1, read.2))
reverse_stop reverse settings left pieces NoRoom read h = tt

-- ---- by those of a source

pub settings_stop : (reverse : Bool) (source : Source) (left : Option (List ℕ)) (stop : Stop) → IsSettingsStop source stop → IsAnswerStop reverse source left stop
settings_stop reverse source left (Words text) h = h
settings_stop reverse source left (Settings fault) h = h
settings_stop reverse source left (Line number) h = absurd h
settings_stop reverse source left (Reverse fault) h = absurd h
settings_stop reverse source left File h = tt
settings_stop reverse source left Link h = absurd h
settings_stop reverse source left NoMemory h = tt

answering_stop : (reverse : Bool) (source : Source) (settings : Configuration) (left : Option (List ℕ)) (stop : Stop) → IsSettings source settings → IsAnsweringStop reverse settings left stop → IsAnswerStop reverse source left stop
answering_stop reverse source settings left (Words text) s h = h
answering_stop reverse source settings left (Settings fault) s h = absurd h
answering_stop reverse source settings left (Line number) s h = (settings, s, h)
answering_stop reverse source settings left (Reverse fault) s h = (settings, s, h)
answering_stop reverse source settings left File s h = tt
answering_stop reverse source settings left Link s h = absurd h
answering_stop reverse source settings left NoMemory s h = tt

pub stopped_by : (reverse : Bool) (source : Source) (settings : Configuration) (left : Option (List ℕ)) (r : Result ℕ Stop) → IsSettings source settings → IfErr r (IsAnsweringStop reverse settings left) → IfErr r (IsAnswerStop reverse source left)
stopped_by reverse source settings left (Ok status) s h = h
stopped_by reverse source settings left (Err stop) s h = answering_stop reverse source settings left stop s h

pub done_by : (reverse : Bool) (source : Source) (settings : Configuration) (left old new : Option (List ℕ)) (r : Result ℕ Stop) → IsSettings source settings → IfOk r (AnswersInput reverse settings left old new) → IfOk r (AnswersBy reverse source left old new)
done_by reverse source settings left old new (Ok status) s h = (settings, s, h)
done_by reverse source settings left old new (Err stop) s h = h
