-- A client's reading stops at the least place; and once it stopped, what comes later changes nothing.
use Rattle.std.proofs.Common.{◌≡◌, ℕ, List, [], ◌∷◌, ◌++◌, Option, Some, None, is_some, refl, ap, ◌∙◌}
use Rattle.std.specs.Prelude.{not}
use Rattle.ua_frame.specs.Rows.{first_row}
use Rattle.ua_frame.specs.Streams.{TimedByte}
use Rattle.ua_frame.specs.Layout.{Frame}
use Rattle.ua_conn.specs.Past.{Past}
use Rattle.ua_conn.specs.client.Asker.{Asker}
use Rattle.ua_conn.specs.client.Commands.{Act, Commands}
use Rattle.ua_conn.specs.client.FirstFault.{at_fault, at_rest, ClientFirst, ClientStopsFirst, ClientStaysStopped}
use Rattle.ua_conn.specs.client.Reading.{ClientReading, client_fault_at, client_reading, client_reading_of, answers}
use Rattle.ua_conn.specs.client.Sending.{sent_all, sent_by}
use Rattle.ua_conn.specs.client.Asking.{standing, act_rows, ask_fault}
use Rattle.ua_conn.specs.declared.client.fault.ClientFault.{ClientFault}
use Rattle.ua_conn.specs.declared.client.ask_fault.AskFault.TheVariants.{Ended, NotOpen}
use Rattle.ua_conn.proofs.ClientEnd.StopLemmas.{client_reading_stays}

cases : (o : Option ClientFault) (a : Asker) (cmds : Commands) (past : Past) (f : Frame) (fs : List Frame) (rest : List ℕ) (R : ClientReading) → client_fault_at a cmds past f ≡ o → ClientFirst a cmds (f ∷ past) fs rest R →
    ClientFirst a cmds past (f ∷ fs) rest (elim o [ Some fault ↦ record { past = past; fault = Some fault } | None ↦ R ])
cases (Some fault) a cmds past f fs rest R e h = record { before = []; left = f ∷ fs; split = refl; go_on = tt; stops = at_fault f fs fault e refl }
cases None a cmds past f fs rest R e h = record { before = f ∷ h.before; left = h.left; split = ap (λ l. f ∷ l) h.split; go_on = (e, h.go_on); stops = h.stops }

first : (a : Asker) (cmds : Commands) (past : Past) (fs : List Frame) (rest : List ℕ) → ClientFirst a cmds past fs rest (client_reading a cmds past fs rest)
first a cmds past [] rest = record { before = []; left = []; split = refl; go_on = tt; stops = at_rest refl }
first a cmds past (f ∷ fs) rest = cases (client_fault_at a cmds past f) a cmds past f fs rest (client_reading a cmds (f ∷ past) fs rest) refl (first a cmds (f ∷ past) fs rest)

pub stops_first : ClientStopsFirst
stops_first a cmds fs rest = first a cmds [] fs rest

-- a client that has failed refuses each command
ended : (a : Asker) (cmds : Commands) (v : List TimedByte) (fault : ClientFault) (act : Act) → (client_reading_of a cmds v).fault ≡ Some fault → ask_fault a cmds v act ≡ Some Ended
ended a cmds v fault act e =
    let past = (client_reading_of a cmds v).past in
    ap (λ (o : Option ClientFault). first_row ((is_some o, Ended) ∷ (not (standing cmds past).channel_open, NotOpen) ∷ act_rows (standing cmds past) act)) e

pub stays_stopped : ClientStaysStopped
stays_stopped a cmds s t fault e =
    let same = client_reading_stays a cmds s t fault e in
    let there = ap (λ (R : ClientReading). R.fault) same ∙ e in (
      there,
      ap (λ (R : ClientReading). answers cmds R.past) same,
      ap (λ (R : ClientReading). sent_all a.first_sequence 0 (sent_by a cmds R.past)) same,
      (λ act. ended a cmds (s ++ t) fault act there),
    )
