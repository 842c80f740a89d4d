-- What is true of a client, a server and what came of them, between two steps of a schedule.
use Rattle.std.specs.Prelude.{◌≡◌, ℕ, ℤ, ◌≤◌, Bool, true, false, List, [], ◌++◌, length, Option, Some, None}
use Rattle.ua_frame.specs.Streams.{Piece, TimedByte, timed, latest, moment_of}
use Rattle.ua_service.specs.declared.request.Request.{Request}
use Rattle.ua_conn.specs.server.Site.{Site}
use Rattle.ua_conn.specs.server.Replies.{handed, end_of}
use Rattle.ua_conn.specs.server.Held.{held, stop, GoesOn}
use Rattle.ua_conn.specs.server.Feeding.{Shown, FeedsAll}
use Rattle.ua_conn.specs.client.Asker.{Asker}
use Rattle.ua_conn.specs.client.Commands.{Act, Commands, asked}
use Rattle.ua_conn.specs.client.Reading.{client_fault, matched}
use Rattle.ua_conn.specs.client.Held.{Log, commands_of, stream_of, latest_of}
use Rattle.ua_conn.specs.client.Feeding.{ClientShown, Lived, AcceptsAll, RefusedBy, HandsAll, FailsAll}
use Rattle.ua_conn.specs.Story.{Setup, World, client_stream, server_stream}
use Rattle.ua_conn.specs.declared.outcome.End.{End}
use Rattle.ua_conn.specs.declared.client.fault.ClientFault.{ClientFault}
use Rattle.ua_conn.specs.declared.client.fault.ClientFault.TheVariants.{ServerSaid, Broken, Ended}
use Rattle.ua_conn.specs.declared.client.ask_fault.AskFault.{AskFault}
use Rattle.ua_conn.specs.declared.client.ask_fault.AskFault.TheVariants as refusals
use Rattle.ua_conn.specs.declared.client.answer.Answer.{Answer}
use Rattle.ua_conn.specs.declared.conversation.ends.Ends.{Ends}

-- ---- what one call did

abbrev pub is_memory : AskFault → Bool
is_memory refusals.NoMemory = true
is_memory fault = false

-- a command was accepted, or refused for another reason than want of memory
abbrev pub Tells : ClientShown → ℕ → Act → ClientShown → Bool → Type 0
Tells old now act new true = AcceptsAll old now act new
Tells old now act new false = (new ≡ old) × ((fault : AskFault) × (is_memory fault ≡ false) × RefusedBy old act fault)

-- a piece was answered, or came to a server that takes no more
pub data Served (old new : Shown) (x : Piece) (down down' : List ℕ) (had has : List Request) (end end' : Option End) : Type 0 where
  Fed : (asked : List Request) → old.failed ≡ false → FeedsAll old x down down' asked end' new → has ≡ had ++ asked → Served old new x down down' had has end end'
  Over : old.failed ≡ true → new ≡ old → down' ≡ down → has ≡ had → end' ≡ end → Served old new x down down' had has end end'

abbrev pub is_said : ClientFault → Bool
is_said (ServerSaid status reason) = true
is_said (Broken status) = true
is_said fault = false

-- a fault that the client newly met, or none where it had failed before
abbrev pub Meets : ClientFault → Option ClientFault → Type 0
Meets fault (Some met) = (met ≡ fault) × (is_said fault ≡ true)
Meets fault None = fault ≡ Ended

-- a piece brought answers, or a fault, or came to a client that takes no more
pub data Heard (old new : ClientShown) (x : Piece) (had has : List Answer) (fault fault' : Option ClientFault) : Type 0 where
  Answered : (given : List Answer) → old.failed ≡ false → HandsAll old x new given → has ≡ had ++ given → fault' ≡ fault → Heard old new x had has fault fault'
  Refused : (f : ClientFault) → old.failed ≡ false → is_said f ≡ true → FailsAll old x new f → has ≡ had → fault' ≡ Some f → Heard old new x had has fault fault'
  Left : old.failed ≡ true → new ≡ old → has ≡ had → fault' ≡ fault → Heard old new x had has fault fault'

-- ---- between two steps

pub record Run : Type 0 where
  pub clock : ℤ
  pub client : ClientShown
  pub server : Shown
  -- how many bytes were delivered each way
  pub up_to : ℕ
  pub down_to : ℕ
  pub asked : List Request
  pub handed : List Request
  pub answers : List Answer
  pub up : List ℕ
  pub down : List ℕ
  pub server_end : Option End
  pub client_fault : Option ClientFault

abbrev pub run_of : Ends → Run
run_of e = record {
  clock = e.clock;
  client = e.client;
  server = e.server;
  up_to = e.up_to;
  down_to = e.down_to;
  asked = e.story.asked.items;
  handed = e.story.handed.items;
  answers = e.story.answers.items;
  up = e.story.up.items;
  down = e.story.down.items;
  server_end = e.story.server_end;
  client_fault = e.story.client_fault;
}

-- the pieces that came to a server that goes on, and what it shows
pub record Serving (site : Site) (clock : ℕ) (up : List TimedByte) (server : Shown) (ps : List Piece) : Type 0 where
  pub stream : timed ps ≡ up
  pub before : latest ps ≤ clock
  pub goes_on : GoesOn site ps
  pub shows : server ≡ record { site = site; held = held site ps; failed = false }

-- a server goes on, or came to an end
pub data ServerAt (site : Site) (clock : ℕ) (up : List TimedByte) (server : Shown) (end : Option End) : Type 0 where
  Serves : (ps : List Piece) → Serving site clock up server ps → end ≡ None → ServerAt site clock up server end
  Stopped : (e : End) → server.failed ≡ true → stop (end_of site up) ≡ Some e → end ≡ Some e → ServerAt site clock up server end

-- what happened to a client that has not failed
pub record Living (a : Asker) (clock : ℕ) (cmds : Commands) (down settled : List TimedByte) (client : ClientShown) (log : Log) : Type 0 where
  pub lived : Lived a log client
  pub alive : client.failed ≡ false
  pub commands : commands_of log ≡ cmds
  pub stream : stream_of log ≡ down
  pub settled_is : settled ≡ down
  pub before : latest_of log ≤ clock

-- a client goes on, or met a fault
pub data ClientAt (a : Asker) (clock : ℕ) (cmds : Commands) (down settled : List TimedByte) (client : ClientShown) (fault : Option ClientFault) : Type 0 where
  Lives : (log : Log) → Living a clock cmds down settled client log → fault ≡ None → ClientAt a clock cmds down settled client fault
  Failed : (f : ClientFault) → client.failed ≡ true → client_fault a cmds down ≡ Some f → fault ≡ Some f → ClientAt a clock cmds down settled client fault

pub record Between (s : Setup) (w : World) (r : Run) : Type 0 where
  pub clock : r.clock ≡ w.clock
  pub client : ClientAt s.asker (moment_of w.clock) w.cmds w.down w.settled r.client r.client_fault
  pub server : ServerAt s.site (moment_of w.clock) w.up r.server r.server_end
  pub asked_are : r.asked ≡ asked w.cmds
  pub handed_are : r.handed ≡ handed s.site w.up
  pub answers_are : r.answers ≡ matched s.asker w.cmds w.settled
  pub up_is : r.up ≡ client_stream s w
  pub down_is : r.down ≡ server_stream s w
  pub all_sent : r.client.output ≡ []
  pub up_to : r.up_to ≡ length w.up
  pub up_within : r.up_to ≤ length r.up
  pub down_to : r.down_to ≡ length w.down
  pub down_within : r.down_to ≤ length r.down
