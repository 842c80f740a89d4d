-- Who takes a ReverseHello, who speaks first, and what a conversation is that the server opened. OPC 10000-6, 7.1.2.6.
use Rattle.std.specs.Prelude.{◌≡◌, ℕ, ◌<◌, true, false, ℤ, List, [], ◌++◌, length, Option, Some, None}
use Rattle.ua_frame.specs.Streams.{TimedByte, plain}
use Rattle.ua_frame.specs.Layout.{Frame, kind_of}
use Rattle.ua_frame.specs.HeaderRows.{header_fault}
use Rattle.ua_frame.specs.Hello.{hello_frame}
use Rattle.ua_frame.specs.declared.kind.Kind.TheVariants as kinds
use Rattle.ua_disco.specs.Settings.{first_url_of}
use Rattle.ua_conn.specs.Past.{Past, Known}
use Rattle.ua_conn.specs.server.Site.{Site}
use Rattle.ua_conn.specs.server.Faults.{greatest_frame, fault_at}
use Rattle.ua_conn.specs.server.Greeting.{greeting}
use Rattle.ua_conn.specs.client.Asker.{Asker, hello_by}
use Rattle.ua_conn.specs.client.Commands.{Commands}
use Rattle.ua_conn.specs.client.Past.{client_known, awaits_reverse}
use Rattle.ua_conn.specs.client.Faults.{greatest_answer}
use Rattle.ua_conn.specs.client.Reading.{client_fault_at}
use Rattle.ua_conn.specs.client.Sending.{client_bytes}
use Rattle.ua_conn.specs.Story.{Setup, Story, final, story_of}
use Rattle.ua_conn.specs.BothEnds.{IsSetup, IsSchedule}
use Rattle.ua_conn.specs.declared.client.fault.ClientFault.TheVariants.{Broken}
use Rattle.ua_conn.specs.declared.schedule.Step.{Step}

-- ---- who takes one

-- No server does, whatever it knows: its type is out of turn, unless a row of the header refuses it before.
abbrev pub RefusedByServers : Type 0
RefusedByServers = (site : Site) (k : Known) (f : Frame) → kind_of f.bytes ≡ Some kinds.ReverseHello → header_fault (greatest_frame k.limits) f.bytes ≡ None →
    fault_at site k f ≡ Some 0x807E0000

-- Nor does a client that awaits none: it opened the connection itself, or had one already.
abbrev pub RefusedByClients : Type 0
RefusedByClients = (a : Asker) (cmds : Commands) (past : Past) (f : Frame) → awaits_reverse a.reverse past ≡ false →
    kind_of f.bytes ≡ Some kinds.ReverseHello → header_fault (greatest_answer (client_known past).ack) f.bytes ≡ None →
    client_fault_at a cmds past f ≡ Some (Broken 0x807E0000)

-- ---- who speaks first

-- A client that opens the connection says its Hello before all, whatever came and was asked.
abbrev pub SaysHelloFirst : Type 0
SaysHelloFirst = (a : Asker) (cmds : Commands) (v : List TimedByte) → a.reverse ≡ false →
    (more : List ℕ) × (client_bytes a cmds v ≡ hello_frame (hello_by a) ++ more)

-- ---- a conversation that the server opened

-- The client opens it instead, and names this url; the clock begins then.
abbrev pub opened_by_client : Setup → Option (List ℕ) → ℤ → Setup
opened_by_client s url start = record {
  site = s.site;
  asker = record { config = s.asker.config; url = url; first_sequence = s.asker.first_sequence; reverse = false };
  start = start;
}

-- The server said its ReverseHello, and that is all.
abbrev pub called_alone : Setup → Story
called_alone s = record { asked = []; handed = []; answers = []; up = []; down = greeting true s.site.settings; server_end = None; client_fault = None }

-- the story in which the server says this before all
abbrev pub said_before : List ℕ → Story → Story
said_before said t = record t { down = said ++ t.down }

-- Until the ReverseHello came whole, nothing else happens. From then on what happens is, behind it, what the rest of the schedule makes of a conversation that the client opens.
pub data IsOpened (s : Setup) (url : Option (List ℕ)) (schedule : List Step) : Type 0 where
  not_yet : length (final s schedule).down < length (greeting true s.site.settings) → story_of s schedule ≡ called_alone s → IsOpened s url schedule
  behind_it : (before rest : List Step) → schedule ≡ before ++ rest → plain (final s before).down ≡ greeting true s.site.settings →
      story_of s schedule ≡ said_before (greeting true s.site.settings) (story_of (opened_by_client s url (final s before).clock) rest) → IsOpened s url schedule

-- The url is that of the first endpoint, which the ReverseHello names.
abbrev pub OpenedAsByClient : Type 0
OpenedAsByClient = (s : Setup) (url : Option (List ℕ)) (schedule : List Step) → IsSetup s → IsSchedule schedule → s.asker.reverse ≡ true → first_url_of s.site.settings.endpoints ≡ Some url →
    IsOpened s url schedule
