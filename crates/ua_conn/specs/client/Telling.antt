-- What a command does to a client, by what the client shows: the reason against it, and what is sent and held then.
use Rattle.std.specs.Prelude.{ℕ, Bool, List, [], ◌∷◌, ◌++◌, Option, Some, if◌then◌else◌}
use Rattle.ua_service.specs.declared.request.Request.{Request}
use Rattle.ua_conn.specs.client.Commands.{Act}
use Rattle.ua_conn.specs.client.Machine.{Awaiting}
use Rattle.ua_conn.specs.client.Asking.{refusal}
use Rattle.ua_conn.specs.client.Held.{standing_of}
use Rattle.ua_conn.specs.client.Feeding.{ClientShown}
use Rattle.ua_conn.specs.client.Taking.{ClientRunning}
use Rattle.ua_conn.specs.declared.client.questions.Asks.{Asks}
use Rattle.ua_conn.specs.declared.client.questions.Asks.TheVariants as questions
use Rattle.ua_conn.specs.declared.client.ask_fault.AskFault.{AskFault}
use Rattle.ua_conn.specs.declared.client.ask_fault.AskFault.TheVariants.{Ended}

-- the number of what an open request asks for
abbrev pub request_type_of : Asks → ℕ
request_type_of questions.Issue = 0
request_type_of questions.Renew = 1

-- the first reason against the command
abbrev pub against : ClientShown → Act → Option AskFault
against shown act = if shown.failed then Some Ended else refusal (standing_of shown.held) act

-- ---- a connection

-- with one more request that is pending
abbrev pub waits_for : Awaiting → ℕ → Request → Awaiting
waits_for w id request = record { reverse = w.reverse; known = w.known; pending = w.pending ++ (id, request) ∷ []; due = w.due }

-- with an open request that is pending
abbrev pub waits_open : Awaiting → ℕ → Awaiting
waits_open w id = record { reverse = w.reverse; known = w.known; pending = w.pending; due = Some id }

-- behind frames after which the next has this number
abbrev pub numbered_to : ClientRunning → ℕ → ClientRunning
numbered_to r next = record { config = r.config; waits = r.waits; next = next; moment = r.moment }

abbrev pub waiting_to : ClientRunning → Awaiting → ℕ → ClientRunning
waiting_to r waits next = record { config = r.config; waits = waits; next = next; moment = r.moment }

-- ---- a client

-- what the parts of a client show: whether it was told to close, its next id, its greatest moment, the rest, the
-- output, and whether it failed
abbrev pub shown_of : ClientRunning → Bool → ℕ → ℕ → List ℕ → List ℕ → Bool → ClientShown
shown_of r closed id moment rest output failed = record {
  config = r.config;
  held = record {
    reverse = r.waits.reverse;
    known = r.waits.known;
    closed = closed;
    pending = r.waits.pending;
    due = r.waits.due;
    next_id = id;
    next = r.next;
    moment = moment;
    rest = rest;
  };
  output = output;
  failed = failed;
}
