-- The beginning of a conversation, and all steps of its schedule.
use Rattle.std.proofs.Common.{◌≡◌, ℕ, ◌+◌, ◌<◌, ◌≤◌, false, List, [], ◌∷◌, ◌++◌, take, length, get_or, Option, None, refl, sym, ap, subst, ◌∙◌, arith}
use Rattle.std.proofs.lemmas.List.{append-nil, take_all, take_more}
use Rattle.ua_frame.specs.Streams.{TimedByte, moment_of, cuts_within, rest_within}
use Rattle.ua_conn.specs.server.Site.{Site}
use Rattle.ua_conn.specs.server.Greeting.{greeting}
use Rattle.ua_conn.specs.server.Replies.{end_of}
use Rattle.ua_conn.specs.server.Held.{held, stop}
use Rattle.ua_conn.specs.server.Feeding.{Shown}
use Rattle.ua_conn.specs.client.Asker.{Asker}
use Rattle.ua_conn.specs.client.Commands.{Commands}
use Rattle.ua_conn.specs.client.Reading.{client_fault}
use Rattle.ua_conn.specs.client.Sending.{client_bytes}
use Rattle.ua_conn.specs.server.Faults.{fault_in_rest}
use Rattle.ua_conn.specs.client.Faults.{client_fault_in_rest}
use Rattle.ua_conn.specs.client.Held.{client_held}
use Rattle.ua_conn.specs.client.Feeding.{ClientShown}
use Rattle.ua_conn.specs.Story.{Setup, World, Story, begun, happens, run, final, story_of}
use Rattle.ua_conn.specs.Between.{Run, ServerAt, Serves, Stopped, ClientAt, Lives, Failed, Between}
use Rattle.ua_conn.specs.declared.schedule.Step.{Step}
use Rattle.ua_conn.specs.declared.outcome.End.{End}
use Rattle.ua_conn.specs.declared.client.fault.ClientFault.{ClientFault}

pub begins_between : (s : Setup) (r : Run) → 1 ≤ s.asker.first_sequence → r.clock ≡ s.start →
    r.client ≡ record { config = s.asker.config; held = client_held s.asker []; output = []; failed = false } →
    r.server ≡ record { site = s.site; held = held s.site []; failed = false } → r.up ≡ client_bytes s.asker [] [] →
    r.up_to ≡ 0 → r.down_to ≡ 0 → r.asked ≡ [] → r.handed ≡ [] → r.answers ≡ [] → r.down ≡ greeting s.asker.reverse s.site.settings → r.server_end ≡ None → r.client_fault ≡ None → Between s (begun s) r
unfolding cuts_within rest_within fault_in_rest client_fault_in_rest
begins_between s r first clock shown serves up up_to down_to asked_none handed_none answers_none down end fault =
    record {
      clock = clock;
      client = Lives [] (record {
        lived = record { config = sym (ap (λ (k : ClientShown). k.config) shown); first = first; accepted = tt; fine = refl; held_is = sym (ap (λ (k : ClientShown). k.held) shown) };
        alive = ap (λ (k : ClientShown). k.failed) shown;
        commands = refl;
        stream = refl;
        settled_is = refl;
        before = omega arith;
      }) fault;
      server = Serves [] (record { stream = refl; before = omega arith; goes_on = refl; shows = serves }) end;
      asked_are = asked_none;
      handed_are = handed_none;
      answers_are = answers_none;
      up_is = up;
      down_is = down ∙ sym (append-nil (greeting s.asker.reverse s.site.settings));
      all_sent = ap (λ (k : ClientShown). k.output) shown;
      up_to = up_to;
      up_within = omega (arith, up_to);
      down_to = down_to;
      down_within = omega (arith, down_to);
    }

run_more : (s : Setup) (w : World) (es fs : List Step) → run s w (es ++ fs) ≡ run s (run s w es) fs
run_more s w [] fs = refl
run_more s w (e ∷ es) fs = run_more s (happens s w e) es fs

-- the first steps and one more
pub one_step : (s : Setup) (w : World) (schedule : List Step) (i : ℕ) (d : Step) (r r' : Run) → i < length schedule → Between s (run s w (take i schedule)) r →
    ((w : World) → Between s w r → Between s (happens s w (get_or schedule i d)) r') → Between s (run s w (take (i + 1) schedule)) r'
one_step s w schedule i d r r' l b step =
    subst (λ (w : World). Between s w r') (sym (ap (run s w) (take_more schedule i d l) ∙ run_more s w (take i schedule) (get_or schedule i d ∷ []))) (step (run s w (take i schedule)) b)

pub all_steps : (s : Setup) (w : World) (schedule : List Step) (i : ℕ) (r : Run) → length schedule ≤ i → Between s (run s w (take i schedule)) r → Between s (run s w schedule) r
all_steps s w schedule i r l b = subst (λ (es : List Step). Between s (run s w es) r) (take_all i schedule l) b

-- what came of each end
server_end_is : (site : Site) (clock : ℕ) (up : List TimedByte) (server : Shown) (end : Option End) → ServerAt site clock up server end → end ≡ stop (end_of site up)
server_end_is site clock up server end (Serves ps g e) = e ∙ sym g.goes_on ∙ ap (λ v. stop (end_of site v)) g.stream
server_end_is site clock up server end (Stopped last failed is shows) = shows ∙ sym is

client_fault_is : (a : Asker) (clock : ℕ) (cmds : Commands) (down settled : List TimedByte) (client : ClientShown) (fault : Option ClientFault) → ClientAt a clock cmds down settled client fault → fault ≡ client_fault a cmds down
client_fault_is a clock cmds down settled client fault (Lives log l e) = e ∙ sym l.lived.fine ∙ (λ i. client_fault a (l.commands i) (l.stream i))
client_fault_is a clock cmds down settled client fault (Failed f failed is shows) = shows ∙ sym is

abbrev pub told_in : Run → Story
told_in r = record { asked = r.asked; handed = r.handed; answers = r.answers; up = r.up; down = r.down; server_end = r.server_end; client_fault = r.client_fault }

-- the whole story
pub story_is : (s : Setup) (schedule : List Step) (r : Run) → Between s (run s (begun s) schedule) r → told_in r ≡ story_of s schedule
story_is s schedule r c =
    let w = final s schedule in
    λ j. record {
      asked = c.asked_are j;
      handed = c.handed_are j;
      answers = c.answers_are j;
      up = c.up_is j;
      down = c.down_is j;
      server_end = server_end_is s.site (moment_of w.clock) w.up r.server r.server_end c.server j;
      client_fault = client_fault_is s.asker (moment_of w.clock) w.cmds w.down w.settled r.client r.client_fault c.client j;
    }
