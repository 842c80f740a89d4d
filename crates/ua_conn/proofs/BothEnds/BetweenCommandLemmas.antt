-- A command to the client, from what both ends show to what the world says then.
use Rattle.std.proofs.Common.{◌≡◌, ℕ, ℤ, ◌≤◌, max, Bool, true, false, List, [], ◌∷◌, ◌++◌, map, length, Option, Some, None, refl, sym, ap, subst, ◌∙◌, true≢false, arith}
use Rattle.std.specs.Prelude.{not, is_some}
use Rattle.std.proofs.lemmas.List.{append-nil, map-append, length-append}
use Rattle.ua_frame.specs.Rows.{first_row}
use Rattle.ua_frame.specs.Streams.{moment_of}
use Rattle.ua_service.specs.declared.request.Request.{Request}
use Rattle.ua_conn.specs.client.Asker.{Asker}
use Rattle.ua_conn.specs.client.Commands.{Act, Ask, Renew, Close, Command, Commands, asked, asked_in, asked_by, next_id}
use Rattle.ua_conn.specs.client.Reading.{client_reading_of, matched}
use Rattle.ua_conn.specs.client.Sending.{client_bytes}
use Rattle.ua_conn.specs.client.Asking.{act_rows, standing, ask_fault}
use Rattle.ua_conn.specs.client.Held.{Log, Told, IsLog, commands_of, stream_of, latest_of, fault_in, refused_in, client_held}
use Rattle.ua_conn.specs.client.Machine.{client_gain}
use Rattle.ua_conn.specs.client.Feeding.{ClientShown, Lived, Accepts, AcceptsAll, RefusedBy}
use Rattle.ua_conn.specs.Story.{Setup, World, told, told_by}
use Rattle.ua_conn.specs.Between.{is_memory, Tells, Run, ClientAt, Lives, Failed, Between}
use Rattle.ua_conn.specs.declared.client.fault.ClientFault.{ClientFault}
use Rattle.ua_conn.specs.declared.client.ask_fault.AskFault.{AskFault}
use Rattle.ua_conn.specs.declared.client.ask_fault.AskFault.TheVariants as reasons
use Rattle.ua_conn.proofs.ClientEnd.GainLemmas.{told_gained}

abbrev pub more_asked : Act → List Request
more_asked (Ask request part) = request ∷ []
more_asked Renew = []
more_asked Close = []

asked_now : (id seen : ℕ) (act : Act) → map (λ a. a.request) (asked_by id seen act) ≡ more_asked act
asked_now id seen (Ask request part) = refl
asked_now id seen Renew = refl
asked_now id seen Close = refl

asked_more : (c : Command) (cmds : Commands) → asked (c ∷ cmds) ≡ asked cmds ++ more_asked c.act
asked_more c cmds =
    map-append (λ a. a.request) (asked_in cmds) (asked_by (next_id cmds) c.seen c.act) ∙ ap (λ l. asked cmds ++ l) (asked_now (next_id cmds) c.seen c.act)

-- a command brings neither answers nor a fault
told_stays : (a : Asker) (log : Log) (now : ℕ) (act : Act) → 1 ≤ a.first_sequence → IsLog a (Told now act ∷ log) → fault_in a log ≡ None →
    (matched a (commands_of (Told now act ∷ log)) (stream_of log) ≡ matched a (commands_of log) (stream_of log)) × (fault_in a (Told now act ∷ log) ≡ None)
unfolding client_gain
told_stays a log now act first is fine = let g = told_gained a log now act first is fine in (g.answered ∙ append-nil _, g.fault_is)

-- what a run is behind a command that was accepted
abbrev pub told_run : Run → ClientShown → List Request → List ℕ → Run
told_run r client asked up = record r { client = client; asked = asked; up = up }

pub accepted_between : (s : Setup) (w : World) (r : Run) (act : Act) (client client' : ClientShown) (asked' : List Request) (up' : List ℕ) → Between s w r →
    AcceptsAll r.client (moment_of r.clock) act client → client' ≡ record client { output = [] } → up' ≡ r.up ++ client.output → asked' ≡ r.asked ++ more_asked act →
    Between s (told s w act) (told_run r client' asked' up')
accepted_between s w r act client client' asked' up' b accepts emptied sent kept = by b.client
  where
    now : ℕ
    now = moment_of w.clock

    c : Command
    c = record { act = act; moment = now; seen = length w.down }

    by : ClientAt s.asker now w.cmds w.down w.settled r.client r.client_fault → Between s (told s w act) (told_run r client' asked' up')
    by (Failed f failed is shows) = absurd (true≢false (sym failed ∙ accepts.0))
    by (Lives log l shows) =
        let a = s.asker in
        let acc = subst (λ (t : ℤ). Accepts a log (moment_of t) act r.client client) b.clock (accepts.1 a log l.lived) in
        let none : ask_fault a w.cmds w.down act ≡ None = (λ i. ask_fault a (sym l.commands i) (sym l.stream i) act) ∙ acc.fine in
        let turns : told s w act ≡ record w { cmds = c ∷ w.cmds } = ap (told_by w act) none in
        let later : Log = Told now act ∷ log in
        let is : IsLog a later = (acc.fine, l.lived.accepted) in
        let stays = told_stays a log now act l.lived.first is l.lived.fine in
        let moment : max (latest_of log) now ≡ now = omega (arith, l.before) in
        let cmds : commands_of later ≡ c ∷ w.cmds = λ i. record { act = act; moment = moment i; seen = length (l.stream i) } ∷ l.commands i in
        let shown : client' ≡ record r.client { held = client_held a later; output = [] } = emptied ∙ ap (λ (k : ClientShown). record k { output = [] }) acc.shows in
        let out : client.output ≡ acc.sends.added = acc.sends.out_is ∙ ap (λ l. l ++ acc.sends.added) b.all_sent in
        let bytes : up' ≡ client_bytes a (c ∷ w.cmds) w.down =
        sent ∙ (λ i. b.up_is i ++ out i) ∙ (λ i. client_bytes a (sym l.commands i) (sym l.stream i) ++ acc.sends.added) ∙ sym acc.sends.sent ∙ (λ i. client_bytes a (cmds i) (l.stream i)) in
        let same : matched a (c ∷ w.cmds) w.settled ≡ matched a w.cmds w.settled =
        (λ i. matched a (sym cmds i) ((l.settled_is ∙ sym l.stream) i)) ∙ stays.0 ∙ (λ i. matched a (l.commands i) ((l.stream ∙ sym l.settled_is) i)) in
        subst (λ (v : World). Between s v (told_run r client' asked' up')) (sym turns)
        (record {
          clock = b.clock;
          client = Lives later
              (record {
                lived = record {
                  config = l.lived.config ∙ ap (λ (k : ClientShown). k.config) (sym shown);
                  first = l.lived.first;
                  accepted = is;
                  fine = stays.1;
                  held_is = ap (λ (k : ClientShown). k.held) (sym shown);
                };
                alive = ap (λ (k : ClientShown). k.failed) shown ∙ l.alive;
                commands = cmds;
                stream = l.stream;
                settled_is = l.settled_is;
                before = omega (arith, moment);
              }) shows;
          server = b.server;
          asked_are = kept ∙ ap (λ l. l ++ more_asked act) b.asked_are ∙ sym (asked_more c w.cmds);
          handed_are = b.handed_are;
          answers_are = b.answers_are ∙ sym same;
          up_is = bytes;
          down_is = b.down_is;
          all_sent = ap (λ (k : ClientShown). k.output) shown;
          up_to = b.up_to;
          up_within = omega (arith, b.up_within, ap length sent, length-append r.up client.output);
          down_to = b.down_to;
          down_within = b.down_within;
        })

refusal_says : (old : ClientShown) (act : Act) (fault : AskFault) → old.failed ≡ false → is_memory fault ≡ false → RefusedBy old act fault →
    (a : Asker) (log : Log) → Lived a log old → refused_in a log act ≡ Some fault
refusal_says old act reasons.NoMemory alive m h = absurd (cc m)
refusal_says old act reasons.Ended alive m h = absurd (true≢false (sym h ∙ alive))
refusal_says old act reasons.NotOpen alive m h = h.1
refusal_says old act reasons.TooLarge alive m h = h.1
refusal_says old act reasons.TooManyPending alive m h = h.1
refusal_says old act reasons.IdsSpent alive m h = h.1
refusal_says old act reasons.RenewPending alive m h = h.1
refusal_says old act reasons.StillPending alive m h = h.1
refusal_says old act reasons.BadPartLimit alive m h = h.1

pub refused_between : (s : Setup) (w : World) (r : Run) (act : Act) (client : ClientShown) (fault : AskFault) → Between s w r →
    client ≡ r.client → is_memory fault ≡ false → RefusedBy r.client act fault → Between s (told s w act) (record r { client = client })
refused_between s w r act client fault b kept m refused = subst (λ (k : ClientShown). Between s (told s w act) (record r { client = k })) (sym kept) (by b.client)
  where
    stays : (f : AskFault) → ask_fault s.asker w.cmds w.down act ≡ Some f → Between s (told s w act) r
    stays f e = subst (λ (v : World). Between s v r) (sym (ap (told_by w act) e)) b

    by : ClientAt s.asker (moment_of w.clock) w.cmds w.down w.settled r.client r.client_fault → Between s (told s w act) r
    by (Lives log l shows) =
        stays fault ((λ i. ask_fault s.asker (sym l.commands i) (sym l.stream i) act) ∙ refusal_says r.client act fault l.alive m refused s.asker log l.lived)
    by (Failed f failed is shows) =
        stays reasons.Ended (ap (λ (o : Option ClientFault). first_row ((is_some o, reasons.Ended) ∷ (not (standing w.cmds (client_reading_of s.asker w.cmds w.down).past).channel_open, reasons.NotOpen) ∷ act_rows (standing w.cmds (client_reading_of s.asker w.cmds w.down).past) act)) is)

-- a command at the clock's number, as its call shows it

pub told_on : (s : Setup) (w : World) (r : Run) (act : Act) (z : ℤ) (accepted : Bool) (client client' : ClientShown) (asked' : List Request) (up' : List ℕ) → z ≡ r.clock → accepted ≡ true →
    Tells r.client (moment_of z) act client accepted → client' ≡ record client { output = [] } → up' ≡ r.up ++ client.output → asked' ≡ r.asked ++ more_asked act →
    Between s w r → Between s (told s w act) (told_run r client' asked' up')
told_on s w r act z accepted client client' asked' up' same taken tells emptied sent kept b =
    accepted_between s w r act client client' asked' up' b
    (subst (λ (t : ℤ). AcceptsAll r.client (moment_of t) act client) same (subst (λ (q : Bool). Tells r.client (moment_of z) act client q) taken tells))
    emptied sent kept

pub told_off : (s : Setup) (w : World) (r : Run) (act : Act) (z : ℤ) (accepted : Bool) (client : ClientShown) → accepted ≡ false → Tells r.client (moment_of z) act client accepted →
    Between s w r → Between s (told s w act) (record r { client = client })
told_off s w r act z accepted client refused tells b =
    let t : Tells r.client (moment_of z) act client false = subst (λ (q : Bool). Tells r.client (moment_of z) act client q) refused tells in
    refused_between s w r act client t.1.0 b t.0 t.1.1 t.1.2

pub none_more : (asked : List Request) → asked ≡ asked ++ []
none_more asked = sym (append-nil asked)
