-- How each command is done or stopped, by what it ensures.
use Rattle.std.proofs.Common.{◌≡◌, ◌≤◌, inl, inr, sym, subst, ℕ, Bool, false, List, String, string_bytes, length, Option, Some, None, option_map, IfSome, Result, Ok, Err, IfOk, IfErr}
use Rattle.std.proofs.lemmas.Option.{same_Some}
use Rattle.std.specs.Borrow.{Bor}
use Rattle.std.specs.Global.{Global, Vec}
use Rattle.clap.specs.Words.{Text}
use Rattle.ua_command.specs.Answer.{AnswersBy}
use Rattle.ua_command.specs.Ask.{IsAskStatus, IsReachStop}
use Rattle.ua_words.specs.Command.{AsksFor, IsUrlOf, IsWordsFault}
use Rattle.ua_command.specs.Printed.{shape_of, PrintsIn, RefusesIn}
use Rattle.ua_command.specs.Run.{Streams, ShowsTextOf, IsStopOf, IsDone, IsStop, IsOverLinks, RefusesSettingsOf, LeavesInput}
use Rattle.ua_command.specs.Settings.{RefusesSource}
use Rattle.ua_disco.specs.declared.fault.SettingsFault.{SettingsFault}
use Rattle.ua_command.specs.Serve.{Serves, IsServeStop}
use Rattle.ua_command.specs.Show.{LeavesFor, ShowsCapture}
use Rattle.ua_command.specs.Stop.{IsAnswerStop, IsFileStop, IsSettingsStop}
use Rattle.ua_kind.specs.declared.kind.Kind.{Kind}
use Rattle.ua_words.specs.declared.form.Form.{Form}
use Rattle.ua_words.specs.declared.question.Question.{Question}
use Rattle.ua_words.specs.declared.source.Source.{Source}
use Rattle.ua_words.specs.declared.capture.Capture.{Capture}
use Rattle.ua_words.specs.declared.capture.Capture.TheVariants as captures
use Rattle.ua_words.specs.declared.command.Command.{Command}
use Rattle.ua_words.specs.declared.command.Command.TheVariants.{Answer, Value, Show, Serve, ServeMany, Ask, Check}
use Rattle.ua_words.specs.declared.command.WordsFault.{WordsFault}
use Rattle.ua_words.specs.declared.command.WordsFault.TheVariants.{Shown, Refused, NoMemory as WordsWithoutMemory}
use Rattle.ua_command.specs.declared.stop.Stop.{Stop}
use Rattle.ua_command.specs.declared.stop.Stop.TheVariants.{Words, Settings, Line, Reverse, File, Link, NoMemory}

-- ---- done

pub answer_done : (words : List Text) (source : Source) (reverse : Bool) (s : Streams) (r : Result ℕ Stop) → AsksFor words (Answer source reverse) → s.told' ≡ s.told
    → IfOk r (AnswersBy reverse source s.left s.printed s.printed') → IfOk r (IsDone words s)
answer_done words source reverse s (Ok status) asked untold h = inl (Answer source reverse, asked, h, untold)
answer_done words source reverse s (Err stop) asked untold h = h

-- a value is shown, or that there is none
pub value_done : (words : List Text) (kind : Kind) (bytes : Vec ℕ) (form : Form) (s : Streams) (r : Result ℕ Stop) → AsksFor words (Value kind bytes form) → s.told' ≡ s.told
    → IfOk r (λ status. status ≡ 0 → PrintsIn form (shape_of kind) bytes.items s.printed s.printed') → IfOk r (λ status. status ≡ 1 → RefusesIn form (shape_of kind) bytes.items s.printed s.printed') → IfOk r (λ status. status ≤ 1)
    → IfOk r (IsDone words s)
value_done words kind bytes form s (Ok status) asked untold value refused small = inl (Value kind bytes form, asked, record { value = value; refused = refused; status_is = small }, untold)
value_done words kind bytes form s (Err stop) asked untold value refused small = small

pub show_done : (words : List Text) (capture : Capture) (form : Form) (stream port : Option ℕ) (s : Streams) (r : Result ℕ Stop) → AsksFor words (Show capture form stream port)
    → IfOk r (ShowsCapture form capture s.left s.printed s.printed' s.told s.told') → IfOk r (IsDone words s)
show_done words capture form stream port s (Ok status) asked h = inl (Show capture form stream port, asked, h, tt)
show_done words capture form stream port s (Err stop) asked h = h

pub serve_done : (words : List Text) (source : Source) (address : String Global) (connections : ℕ) (reverse : Bool) (s : Streams) (r : Result ℕ Stop) → AsksFor words (Serve source address connections reverse)
    → IfOk r (Serves reverse source) → IfOk r (IsDone words s)
serve_done words source address connections reverse s (Ok status) asked h = inl (Serve source address connections reverse, asked, h, tt)
serve_done words source address connections reverse s (Err stop) asked h = h

pub many_done : (words : List Text) (source : Source) (address : String Global) (connections at_once patience : ℕ) (s : Streams) (r : Result ℕ Stop) → AsksFor words (ServeMany source address connections at_once patience)
    → IfOk r (Serves false source) → IfOk r (IsDone words s)
many_done words source address connections at_once patience s (Ok status) asked h = inl (ServeMany source address connections at_once patience, asked, h, tt)
many_done words source address connections at_once patience s (Err stop) asked h = h

pub ask_done : (words : List Text) (question : Question) (locales filter : Option (List (Option (List ℕ)))) (address : String Global) (url : Option (String Global)) (seconds : ℕ) (form : Form) (s : Streams) (r : Result ℕ Stop) → AsksFor words (Ask question locales filter address url seconds form)
    → IfOk r IsAskStatus → IfOk r (IsDone words s)
ask_done words question locales filter address url seconds form s (Ok status) asked h = inl (Ask question locales filter address url seconds form, asked, h, tt)
ask_done words question locales filter address url seconds form s (Err stop) asked h = h

pub check_done : (words : List Text) (source : Source) (address url : String Global) (seconds : ℕ) (s : Streams) (r : Result ℕ Stop) → AsksFor words (Check source address url seconds)
    → IfOk r IsAskStatus → IfOk r (IsDone words s)
check_done words source address url seconds s (Ok status) asked h = inl (Check source address url seconds, asked, h, tt)
check_done words source address url seconds s (Err stop) asked h = h

-- a text is shown
pub text_done : (words : List Text) (fault : WordsFault) (s : Streams) (r : Result ℕ Stop) → IsWordsFault words fault → s.told' ≡ s.told
    → IfOk r (λ status. (status ≡ 0) × ShowsTextOf fault s.printed s.printed') → IfOk r (IsDone words s)
text_done words (Shown text) s (Ok status) asked untold h = inr (record { asked = asked; text = string_bytes text; printed = h.1; status_is = h.0 }, untold)
text_done words (Refused text) s (Ok status) asked untold h = absurd h.1
text_done words WordsWithoutMemory s (Ok status) asked untold h = absurd h.1
text_done words fault s (Err stop) asked untold h = h

-- an answer reads its input
pub answer_reads : (words : List Text) (source : Source) (reverse : Bool) (old new : Option (List ℕ)) → AsksFor words (Answer source reverse) → LeavesInput words old new
answer_reads words source reverse old new asked = inr (Answer source reverse, asked, tt)

-- so does `show` of standard input, and of a file the input stays as it was
pub show_unread : (words : List Text) (capture : Capture) (form : Form) (stream port : Option ℕ) (old new : Option (List ℕ)) → AsksFor words (Show capture form stream port) → LeavesFor capture old new → LeavesInput words old new
show_unread words captures.Input form stream port old new asked h = inr (Show captures.Input form stream port, asked, tt)
show_unread words (captures.File path) form stream port old new asked h = inl h

-- ---- stopped

answer_stop : (words : List Text) (source : Source) (reverse : Bool) (left : Option (List ℕ)) (stop : Stop) → AsksFor words (Answer source reverse) → IsAnswerStop reverse source left stop → IsStop words left stop
answer_stop words source reverse left (Words text) asked h = absurd h
answer_stop words source reverse left (Settings fault) asked h = (Answer source reverse, asked, h)
answer_stop words source reverse left (Line number) asked h = (source, reverse, asked, h)
answer_stop words source reverse left (Reverse fault) asked h = (source, reverse, asked, h)
answer_stop words source reverse left File asked h = inl (Answer source reverse, asked)
answer_stop words source reverse left Link asked h = absurd h
answer_stop words source reverse left NoMemory asked h = tt

pub answer_stopped : (words : List Text) (source : Source) (reverse : Bool) (left : Option (List ℕ)) (r : Result ℕ Stop) → AsksFor words (Answer source reverse) → IfErr r (IsAnswerStop reverse source left) → IfErr r (IsStop words left)
answer_stopped words source reverse left (Ok status) asked h = h
answer_stopped words source reverse left (Err stop) asked h = answer_stop words source reverse left stop asked h

file_stop : (words : List Text) (c : Command) (left : Option (List ℕ)) (stop : Stop) → AsksFor words c → IsFileStop stop → IsStop words left stop
file_stop words c left (Words text) asked h = absurd h
file_stop words c left (Settings fault) asked h = absurd h
file_stop words c left (Line number) asked h = absurd h
file_stop words c left (Reverse fault) asked h = absurd h
file_stop words c left File asked h = inl (c, asked)
file_stop words c left Link asked h = absurd h
file_stop words c left NoMemory asked h = tt

pub file_stopped : (words : List Text) (c : Command) (left : Option (List ℕ)) (r : Result ℕ Stop) → AsksFor words c → IfErr r IsFileStop → IfErr r (IsStop words left)
file_stopped words c left (Ok status) asked h = h
file_stopped words c left (Err stop) asked h = file_stop words c left stop asked h

serve_stop : (words : List Text) (c : Command) (source : Source) (left : Option (List ℕ)) (stop : Stop) → AsksFor words c → IsOverLinks c → ((fault : SettingsFault) → RefusesSource source fault → RefusesSettingsOf c fault)
    → IsServeStop source stop → IsStop words left stop
serve_stop words c source left (Words text) asked links settings h = absurd h
serve_stop words c source left (Settings fault) asked links settings h = (c, asked, settings fault h)
serve_stop words c source left (Line number) asked links settings h = absurd h
serve_stop words c source left (Reverse fault) asked links settings h = absurd h
serve_stop words c source left File asked links settings h = inl (c, asked)
serve_stop words c source left Link asked links settings h = (c, asked, links)
serve_stop words c source left NoMemory asked links settings h = tt

-- what settings stop a command by stops one that serves by them
settings_stops : (source : Source) (stop : Stop) → IsSettingsStop source stop → IsServeStop source stop
settings_stops source (Words text) h = h
settings_stops source (Settings fault) h = h
settings_stops source (Line number) h = h
settings_stops source (Reverse fault) h = h
settings_stops source File h = h
settings_stops source Link h = absurd h
settings_stops source NoMemory h = h

pub serve_stopped : (words : List Text) (source : Source) (address : String Global) (connections : ℕ) (reverse : Bool) (left : Option (List ℕ)) (r : Result ℕ Stop) → AsksFor words (Serve source address connections reverse)
    → IfErr r (IsServeStop source) → IfErr r (IsStop words left)
serve_stopped words source address connections reverse left (Ok status) asked h = h
serve_stopped words source address connections reverse left (Err stop) asked h = serve_stop words (Serve source address connections reverse) source left stop asked tt (λ fault refused. refused) h

pub many_stopped : (words : List Text) (source : Source) (address : String Global) (connections at_once patience : ℕ) (left : Option (List ℕ)) (r : Result ℕ Stop) → AsksFor words (ServeMany source address connections at_once patience)
    → IfErr r (IsServeStop source) → IfErr r (IsStop words left)
many_stopped words source address connections at_once patience left (Ok status) asked h = h
many_stopped words source address connections at_once patience left (Err stop) asked h = serve_stop words (ServeMany source address connections at_once patience) source left stop asked tt (λ fault refused. refused) h

pub check_stopped : (words : List Text) (source : Source) (address url : String Global) (seconds : ℕ) (left : Option (List ℕ)) (r : Result ℕ Stop) → AsksFor words (Check source address url seconds)
    → IfErr r (IsSettingsStop source) → IfErr r (IsStop words left)
check_stopped words source address url seconds left (Ok status) asked h = h
check_stopped words source address url seconds left (Err stop) asked h = serve_stop words (Check source address url seconds) source left stop asked tt (λ fault refused. refused) (settings_stops source stop h)

-- settings alone stop a check, so no link does
pub check_unlinked : (source : Source) (r : Result ℕ Stop) → IfErr r (IsSettingsStop source) → r ≡ Err Link → ⊥
check_unlinked source r h linked = subst (λ x. IfErr x (IsSettingsStop source)) linked h

link_stop : (words : List Text) (c : Command) (left : Option (List ℕ)) (stop : Stop) → AsksFor words c → IsOverLinks c → IsReachStop stop → IsStop words left stop
link_stop words c left (Words text) asked over h = absurd h
link_stop words c left (Settings fault) asked over h = absurd h
link_stop words c left (Line number) asked over h = absurd h
link_stop words c left (Reverse fault) asked over h = absurd h
link_stop words c left File asked over h = absurd h
link_stop words c left Link asked over h = (c, asked, over)
link_stop words c left NoMemory asked over h = tt

pub link_stopped : (words : List Text) (question : Question) (locales filter : Option (List (Option (List ℕ)))) (address : String Global) (url : Option (String Global)) (seconds : ℕ) (form : Form) (left : Option (List ℕ)) (r : Result ℕ Stop) → AsksFor words (Ask question locales filter address url seconds form)
    → IfErr r IsReachStop → IfErr r (IsStop words left)
link_stopped words question locales filter address url seconds form left (Ok status) asked h = h
link_stopped words question locales filter address url seconds form left (Err stop) asked h = link_stop words (Ask question locales filter address url seconds form) left stop asked tt h

-- what a fault of the words stops
pub fault_stopped : (words : List Text) (fault : WordsFault) (left : Option (List ℕ)) (r : Result ℕ Stop) → IsWordsFault words fault → IfErr r (IsStopOf fault) → IfErr r (IsStop words left)
fault_stopped words fault left (Ok status) asked h = h
fault_stopped words (Shown text) left (Err stop) asked h = subst (IsStop words left) (sym h) (inr asked)
fault_stopped words (Refused text) left (Err stop) asked h = subst (IsStop words left) (sym h) asked
fault_stopped words WordsWithoutMemory left (Err stop) asked h = subst (IsStop words left) (sym h) tt

-- no link does
pub fault_unlinked : (fault : WordsFault) (r : Result ℕ Stop) → IfErr r (IsStopOf fault) → r ≡ Err Link → ⊥
fault_unlinked (Shown text) r h linked = let e : Link ≡ File = subst (λ x. IfErr x (IsStopOf (Shown text))) linked h in absurd cc
fault_unlinked (Refused text) r h linked = let e : Link ≡ Words text = subst (λ x. IfErr x (IsStopOf (Refused text))) linked h in absurd cc
fault_unlinked WordsWithoutMemory r h linked = let e : Link ≡ NoMemory = subst (λ x. IfErr x (IsStopOf WordsWithoutMemory)) linked h in absurd cc

-- ---- what a question is called by

short : (reverse : Bool) (text address : Option Text) (url : Option (String Global)) (lent : Option (Bor (List ℕ))) → IsUrlOf reverse text address url → option_map (λ u. u.now) lent ≡ option_map string_bytes url → IfSome lent (λ u. length u.now ≤ 4095)
short reverse text address url None h e = tt
short reverse text address None (Some u) h e = absurd cc
short reverse text address (Some s) (Some u) h e = subst (λ (t : List ℕ). length t ≤ 4095) (sym (same_Some _ _ e)) h.2

-- a url that the words name is short, as it is lent too
pub asked_short : (words : List Text) (question : Question) (locales filter : Option (List (Option (List ℕ)))) (address : String Global) (url : Option (String Global)) (seconds : ℕ) (form : Form) (lent : Option (Bor (List ℕ))) → AsksFor words (Ask question locales filter address url seconds form) → option_map (λ u. u.now) lent ≡ option_map string_bytes url → IfSome lent (λ u. length u.now ≤ 4095)
asked_short words question locales filter address url seconds form lent asked e = short _ _ _ url lent asked.2.named.2.2.1 e

-- and so is that of a server that is checked
pub checked_short : (words : List Text) (source : Source) (address url : String Global) (seconds : ℕ) → AsksFor words (Check source address url seconds) → length (string_bytes url) ≤ 4095
checked_short words source address url seconds asked = asked.2.named.2.1.1.1
