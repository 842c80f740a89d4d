-- A story in which the server opens the connection: until its ReverseHello came whole nothing happens, and from then on each step does what it does in a story in which the client opens it.
use Rattle.std.proofs.Common.{◌≡◌, ℕ, ◌+◌, ◌<◌, ◌≤◌, ◌^◌, true, false, List, [], ◌∷◌, ◌++◌, map, take, drop, length, Option, Some, None, refl, sym, ap, subst, ◌∙◌, arith, append_assoc}
use Rattle.std.specs.Prelude.{ℤ, pos, ◌+ℤ◌, not, is_some, option_map}
use Rattle.std.specs.List.{AllByRecursion}
use Rattle.std.proofs.lemmas.List.{append-nil, length-append, take-append-drop, take_all, drop_at, drop-drop}
use Rattle.std.proofs.lemmas.Bool.{le-ltb}
use Rattle.ua_value.specs.Text.{string}
use Rattle.ua_frame.specs.Streams.{TimedByte, IsFrame, at, plain, moment_of, rest_of, cuts_within, rest_within}
use Rattle.ua_frame.specs.StreamLaws.{plain_at, plain_append, length_plain}
use Rattle.ua_frame.specs.Layout.{Frame, frame_by, frames_of, kind_of, fields_of, IsFrameOf}
use Rattle.ua_frame.specs.Rows.{first_row}
use Rattle.ua_frame.specs.Hello.{reverse_hello_layout, reverse_hello_of, reverse_hello_frame, is_long}
use Rattle.ua_frame.specs.HeaderRows.{header_fault}
use Rattle.ua_frame.specs.FrameLaws.{header_passes, reverse_hello_frame_is, reverse_hello_frame_read}
use Rattle.ua_frame.specs.Beginnings.{bytes_of, begins, Begins, IsPart, NextPasses, rest_passes, frames_fill, joined}
use Rattle.ua_frame.specs.declared.kind.Kind.TheVariants as kinds
use Rattle.ua_frame.specs.declared.reverse_hello.ReverseHello.{ReverseHello}
use Rattle.ua_disco.specs.Configuration.{Configuration}
use Rattle.ua_disco.specs.Settings.{first_url_of}
use Rattle.ua_disco.specs.Bounds.{IsShort, IsEndpoint}
use Rattle.ua_disco.specs.Values.{IsApplicationValue, IsEndpointValue}
use Rattle.ua_disco.specs.Sizes.{first_of_all}
use Rattle.ua_disco.specs.declared.endpoint.Endpoint.{Endpoint}
use Rattle.ua_conn.specs.server.Greeting.{reverse_hello_by, reverse_fault, reverse_fault_at, greeting, greeting_at}
use Rattle.ua_conn.specs.server.Faults.{fault_in_rest}
use Rattle.ua_conn.specs.server.Replies.{answering_bytes, reply_bytes}
use Rattle.ua_conn.specs.client.Asker.{Asker}
use Rattle.ua_conn.specs.client.Commands.{Act, Ask, Renew, Close, Commands}
use Rattle.ua_conn.specs.client.Past.{client_known, reverse_in, url_named, awaits_reverse}
use Rattle.ua_conn.specs.client.Faults.{client_fault_in_rest}
use Rattle.ua_conn.specs.client.Reading.{ClientReading, client_fault_at, client_reading, client_reading_of, client_fault}
use Rattle.ua_conn.specs.client.Sending.{sent_all, sent_by, client_bytes}
use Rattle.ua_conn.specs.client.Asking.{standing, act_rows, ask_fault}
use Rattle.ua_conn.specs.Story.{Setup, World, begun, final, client_stream, server_stream, delivered, ticked, told_by, came_by, happens, run}
use Rattle.ua_conn.specs.BothEnds.{IsSetup, IsSchedule}
use Rattle.ua_conn.specs.declared.schedule.Step.{Step}
use Rattle.ua_conn.specs.declared.schedule.Step.TheVariants as steps
use Rattle.ua_conn.specs.declared.client.fault.ClientFault.{ClientFault}
use Rattle.ua_conn.specs.declared.client.fault.ClientFault.TheVariants.{Broken}
use Rattle.ua_conn.specs.declared.client.ask_fault.AskFault.{AskFault}
use Rattle.ua_conn.specs.declared.client.ask_fault.AskFault.TheVariants.{Ended, NotOpen}
use Rattle.ua_conn.proofs.ServerEnd.GreetingLemmas.{frame_fits}
use Rattle.ua_conn.proofs.ClientEnd.BehindLemmas.{IsCall, behind, plainly, later, call_stands, stream_behind, sent_behind, asks_behind, moved}
use Rattle.ua_conn.proofs.BothEnds.FaithfulLemmas.{nothing_said}
use Rattle.ua_conn.proofs.BothEnds.PlainForms.{IsPlain}
use Rattle.ua_conn.proofs.BothEnds.StoryBaseLemmas.{ticked_timely}

-- ---- what the server says first

pub record Calls (s : Setup) : Type 0 where
  pub hello : ReverseHello
  pub named : first_url_of s.site.settings.endpoints ≡ Some hello.endpoint_url
  pub says : greeting true s.site.settings ≡ reverse_hello_frame hello
  pub frame : IsFrameOf (reverse_hello_frame hello) (record { kind = kinds.ReverseHello; flag = 70; fields = reverse_hello_layout.canon hello })
  pub read : reverse_hello_of (fields_of (reverse_hello_frame hello)) ≡ Some hello
  pub passes : header_fault 8192 (reverse_hello_frame hello) ≡ None
  pub short : is_long hello.endpoint_url ≡ false
  pub text : string.IsValue hello.endpoint_url

not_long : (url : Option (List ℕ)) → IsShort url → is_long url ≡ false
not_long None h = refl
not_long (Some url) h = le-ltb 4095 (length url) h

first_one : (es : List Endpoint) (url : Option (List ℕ)) → first_url_of es ≡ Some url → AllByRecursion IsEndpoint es → AllByRecursion IsEndpointValue es → (is_long url ≡ false) × string.IsValue url
first_one [] url e h k = absurd (cc e)
first_one (x ∷ es) url e h k =
    let same : x.url ≡ url = cc e in
    (subst (λ u. is_long u ≡ false) same (not_long x.url h.0.url), subst (λ u. string.IsValue u) same k.0.url)

none_wrong : (s : Setup) → reverse_fault s.site.settings ≡ None → first_url_of s.site.settings.endpoints ≡ None → ⊥
none_wrong s h e = let wrong : reverse_fault_at s.site.settings None ≡ None = ap (reverse_fault_at s.site.settings) (sym e) ∙ h in cc wrong

pub calls_of : (s : Setup) → IsSetup s → s.asker.reverse ≡ true → Calls s
unfolding reverse_hello_layout
calls_of s h own = by (first_url_of settings.endpoints) refl
  where
    settings : Configuration
    settings = s.site.settings

    by : (o : Option (Option (List ℕ))) → first_url_of settings.endpoints ≡ o → Calls s
    by None e = absurd (none_wrong s (h.opens own) e)
    by (Some url) e =
        let hello = reverse_hello_by settings url in
        let fits = frame_fits settings url e (h.opens own) in
        let values = h.site.settings in
        let first = first_one settings.endpoints url e values.bounds.endpoints values.endpoints in
        let frame = reverse_hello_frame_is hello (omega (arith, fits)) in
        record {
          hello = hello;
          named = e;
          says = ap (greeting_at settings) e;
          frame = frame;
          read = reverse_hello_frame_read hello (omega (arith, fits)) ((first_of_all IsApplicationValue settings.applications values.bounds.some values.applications).uri, first.1);
          passes = header_passes 8192 (reverse_hello_frame hello) _ frame refl fits;
          short = first.0;
          text = first.1;
        }

abbrev pub called : {s : Setup} → Calls s → List ℕ
called k = reverse_hello_frame k.hello

-- the other setup, with a clock that begins then
abbrev pub turned : (s : Setup) → Calls s → ℤ → Setup
turned s k start = record { site = s.site; asker = plainly s.asker k.hello.endpoint_url; start = start }

pub turned_plain : (s : Setup) → IsSetup s → (k : Calls s) (start : ℤ) → moment_of start < 2 ^ 63 → IsPlain (turned s k start)
turned_plain s h k start lt = record {
  site = h.site;
  asker = record { config = h.asker.config; url = λ _. k.short; text = k.text; first_least = h.asker.first_least; first_most = h.asker.first_most };
  start = lt;
  plain = refl;
}

-- ---- the ReverseHello as it came

pub record Came (s : Setup) (k : Calls s) (call : List TimedByte) : Type 0 where
  pub bytes : plain call ≡ called k

pub came_frame : (s : Setup) (k : Calls s) (call : List TimedByte) → Came s k call → IsFrame (plain call)
came_frame s k call c = subst IsFrame (sym c.bytes) k.frame.there

came_read : (s : Setup) (k : Calls s) (call : List TimedByte) → Came s k call → reverse_in (frame_by call) ≡ Some k.hello
came_read s k call c = ap (λ bytes. reverse_hello_of (fields_of bytes)) c.bytes ∙ k.read

pub came_call : (s : Setup) (k : Calls s) (call : List TimedByte) → Came s k call → IsCall (frame_by call)
came_call s k call c = record { kind = ap kind_of c.bytes ∙ k.frame.kind; layout = ap is_some (came_read s k call c) }

pub came_stands : (s : Setup) (k : Calls s) (cmds : Commands) (call : List TimedByte) → s.asker.reverse ≡ true → Came s k call → client_fault_at s.asker cmds [] (frame_by call) ≡ None
came_stands s k cmds call own c =
    call_stands s.asker cmds (frame_by call) k.hello own (ap kind_of c.bytes ∙ k.frame.kind) (ap (header_fault 8192) c.bytes ∙ k.passes) (came_read s k call c) k.short

-- ---- the world behind it

abbrev pub image : List TimedByte → World → World
image call w = record { clock = w.clock; cmds = later (length (plain call)) w.cmds; up = w.up; down = call ++ w.down; settled = call ++ w.settled }

pub reads_image : (s : Setup) (k : Calls s) (start : ℤ) (call v : List TimedByte) (cmds : Commands) → s.asker.reverse ≡ true → Came s k call →
    client_reading_of s.asker (later (length (plain call)) cmds) (call ++ v) ≡ moved (frame_by call) (client_reading_of (turned s k start).asker cmds v)
reads_image s k start call v cmds own c =
    stream_behind s.asker k.hello.endpoint_url cmds call v (came_frame s k call c) (came_call s k call c) (came_stands s k (later (length (plain call)) cmds) call own c)

pub sends_image : (s : Setup) (k : Calls s) (start : ℤ) (call : List TimedByte) (w : World) → s.asker.reverse ≡ true → Came s k call → client_stream s (image call w) ≡ client_stream (turned s k start) w
sends_image s k start call w own c =
    let first = s.asker.first_sequence in
    let past = (client_reading_of (turned s k start).asker w.cmds w.down).past in
    ap (λ (R : ClientReading). sent_all first 0 (sent_by s.asker (later (length (plain call)) w.cmds) R.past)) (reads_image s k start call w.down w.cmds own c)
    ∙ ap (sent_all first 0) (sent_behind s.asker k.hello.endpoint_url w.cmds (frame_by call) (came_call s k call c) past own (ap url_named (came_read s k call c)))

-- the server's stream behind it
pub says_image : (s : Setup) (k : Calls s) (start : ℤ) (call : List TimedByte) (w : World) → s.asker.reverse ≡ true → Came s k call → server_stream s (image call w) ≡ plain call ++ server_stream (turned s k start) w
says_image s k start call w own c =
    let answers = answering_bytes s.site w.up in
    ap (λ b. greeting b s.site.settings ++ answers) own ∙ ap (λ l. l ++ answers) (k.says ∙ sym c.bytes)

-- ---- each step

drop_behind : (xs ys : List ℕ) (n : ℕ) → drop (length xs + n) (xs ++ ys) ≡ drop n ys
drop_behind xs ys n = sym (drop-drop n (length xs) (xs ++ ys)) ∙ ap (drop n) (drop_at xs ys (length xs) refl)

delivered_image : (clock : ℤ) (call v : List TimedByte) (n : ℕ) (stream : List ℕ) → delivered clock (call ++ v) n (plain call ++ stream) ≡ call ++ delivered clock v n stream
delivered_image clock call v n stream =
    let place : length (call ++ v) ≡ length (plain call) + length v = omega (arith, length-append call v, length_plain call) in
    let more : ℕ → List TimedByte = λ m. map (at (moment_of clock)) (take n (drop m (plain call ++ stream))) in
    ap (λ m. (call ++ v) ++ more m) place
    ∙ ap (λ l. (call ++ v) ++ map (at (moment_of clock)) (take n l)) (drop_behind (plain call) stream (length v))
    ∙ append_assoc call v (map (at (moment_of clock)) (take n (drop (length v) stream)))

told_image : (call : List TimedByte) (w : World) (act : Act) (o : Option AskFault) → told_by (image call w) act o ≡ image call (told_by w act o)
told_image call w act (Some fault) = refl
told_image call w act None =
    let seen : length (call ++ w.down) ≡ length w.down + length (plain call) = omega (arith, length-append call w.down, length_plain call) in
    λ i. record (image call w) { cmds = record { act = act; moment = moment_of w.clock; seen = seen i } ∷ later (length (plain call)) w.cmds }

came_image : (call v : List TimedByte) (w : World) (o : Option ClientFault) → came_by (image call w) (call ++ v) o ≡ image call (came_by w v o)
came_image call v w (Some fault) = refl
came_image call v w None = refl

asks_image : (s : Setup) (k : Calls s) (start : ℤ) (call : List TimedByte) (w : World) (act : Act) → s.asker.reverse ≡ true → Came s k call →
    told_by (image call w) act (ask_fault s.asker (later (length (plain call)) w.cmds) (call ++ w.down) act) ≡ image call (told_by w act (ask_fault (turned s k start).asker w.cmds w.down act))
asks_image s k start call w act own c =
    ap (told_by (image call w) act) (asks_behind s.asker k.hello.endpoint_url w.cmds call w.down act (came_frame s k call c) (came_call s k call c) (came_stands s k (later (length (plain call)) w.cmds) call own c))
    ∙ told_image call w act (ask_fault (turned s k start).asker w.cmds w.down act)

happens_image : (s : Setup) (k : Calls s) (start : ℤ) (call : List TimedByte) (w : World) (e : Step) → s.asker.reverse ≡ true → Came s k call → happens s (image call w) e ≡ image call (happens (turned s k start) w e)
happens_image s k start call w (steps.Ask request part) own c = asks_image s k start call w (Ask request part) own c
happens_image s k start call w steps.Renew own c = asks_image s k start call w Renew own c
happens_image s k start call w steps.Close own c = asks_image s k start call w Close own c
happens_image s k start call w (steps.Tick n) own c = refl
happens_image s k start call w (steps.Up n) own c = ap (λ l. record (image call w) { up = delivered w.clock w.up n l }) (sends_image s k start call w own c)
happens_image s k start call w (steps.Down n) own c =
    let cmds = later (length (plain call)) w.cmds in
    let v = delivered w.clock w.down n (server_stream (turned s k start) w) in
    let come : delivered w.clock (call ++ w.down) n (server_stream s (image call w)) ≡ call ++ v =
    ap (delivered w.clock (call ++ w.down) n) (says_image s k start call w own c) ∙ delivered_image w.clock call w.down n (server_stream (turned s k start) w) in
    ap (λ x. came_by (image call w) x (client_fault s.asker cmds x)) come
    ∙ ap (λ (R : ClientReading). came_by (image call w) (call ++ v) R.fault) (reads_image s k start call v w.cmds own c)
    ∙ came_image call v w (client_fault (turned s k start).asker w.cmds v)

pub run_image : (s : Setup) (k : Calls s) (start : ℤ) (call : List TimedByte) (es : List Step) (w : World) → s.asker.reverse ≡ true → Came s k call → run s (image call w) es ≡ image call (run (turned s k start) w es)
run_image s k start call [] w own c = refl
run_image s k start call (e ∷ es) w own c = ap (λ w. run s w es) (happens_image s k start call w e own c) ∙ run_image s k start call es (happens (turned s k start) w e) own c

-- ---- before it

abbrev pub still : ℤ → List TimedByte → World
still clock down = record { clock = clock; cmds = []; up = []; down = down; settled = down }

-- a part of it came
pub record Waits (s : Setup) (k : Calls s) (down : List TimedByte) : Type 0 where
  pub left : List ℕ
  pub whole : plain down ++ left ≡ called k
  pub some : 0 < length left

no_bytes : (fs : List Frame) → bytes_of fs ≡ [] → fs ≡ []
no_bytes [] e = refl
no_bytes (f ∷ fs) e = absurd (cc e)

-- so no frame did
none_yet : (s : Setup) (k : Calls s) (down : List TimedByte) → Waits s k down → (frames_of down ≡ []) × IsPart (plain (rest_of down)) (called k ∷ [])
none_yet s k down w = by (begins (called k ∷ []) down w.left (k.frame.there, tt) (w.whole ∙ sym (append-nil (called k))))
  where
    by : Begins down (called k ∷ []) → (frames_of down ≡ []) × IsPart (plain (rest_of down)) (called k ∷ [])
    by b = cases b.front b.back b.whole b.frames b.part
      where
        cases : (front back : List (List ℕ)) → front ++ back ≡ called k ∷ [] → bytes_of (frames_of down) ≡ front → IsPart (plain (rest_of down)) back → (frames_of down ≡ []) × IsPart (plain (rest_of down)) (called k ∷ [])
        cases [] back whole frames part = (no_bytes (frames_of down) frames, subst (IsPart (plain (rest_of down))) whole part)
        cases (f ∷ front) back whole frames part =
            let one : f ≡ called k = cc whole in
            absurd (omega (
              arith,
              frames_fill down,
              ap (λ fs. length (joined fs)) frames,
              length-append f (joined front),
              ap length one,
              ap length w.whole,
              length-append (plain down) w.left,
              length_plain down,
              w.some,
            ))

-- and the client waits for it
pub waits_reading : (s : Setup) (k : Calls s) (down : List TimedByte) → Waits s k down → client_reading_of s.asker [] down ≡ record { past = []; fault = None }
unfolding client_fault_in_rest client_known
waits_reading s k down w =
    let none = none_yet s k down w in
    ap (λ fs. client_reading s.asker [] [] fs (plain (rest_of down))) none.0
    ∙ (λ i. record { past = []; fault = option_map Broken (rest_passes 8192 (plain (rest_of down)) (called k ∷ []) none.1 k.passes i) })

waits_told : (s : Setup) (k : Calls s) (clock : ℤ) (down : List TimedByte) (act : Act) → Waits s k down → told_by (still clock down) act (ask_fault s.asker [] down act) ≡ still clock down
unfolding client_known
waits_told s k clock down act w =
    let rows : ClientReading → Option AskFault = λ r. first_row ((is_some r.fault, Ended) ∷ (not (standing [] r.past).channel_open, NotOpen) ∷ act_rows (standing [] r.past) act) in
    ap (λ r. told_by (still clock down) act (rows r)) (waits_reading s k down w)

pub waits_sends : (s : Setup) (k : Calls s) (down : List TimedByte) → s.asker.reverse ≡ true → Waits s k down → client_bytes s.asker [] down ≡ []
waits_sends s k down own w =
    let first = s.asker.first_sequence in
    ap (λ (R : ClientReading). sent_all first 0 (sent_by s.asker [] R.past)) (waits_reading s k down w)
    ∙ ap (sent_all first 0) (nothing_said s.asker (ap (λ b. awaits_reverse b []) own))

-- nor does it say anything of nothing
nothing_wrong : (a : Asker) → client_fault a [] [] ≡ None
unfolding cuts_within rest_within client_fault_in_rest
nothing_wrong a = refl

take_none : (n : ℕ) → take {A = ℕ} n [] ≡ []
take_none n = take_all n [] (omega arith)

-- the server answers nothing yet
quiet : (s : Setup) → answering_bytes s.site [] ≡ []
unfolding cuts_within rest_within fault_in_rest
quiet s = refl

pub first_stream : (s : Setup) (k : Calls s) → s.asker.reverse ≡ true → reply_bytes s.asker.reverse s.site [] ≡ called k
first_stream s k own = ap (λ b. greeting b s.site.settings ++ answering_bytes s.site []) own ∙ (λ i. k.says i ++ quiet s i) ∙ append-nil (called k)

-- ---- where a story stands

-- what a schedule makes of this world: a part of the ReverseHello came, or its first steps brought all of it
pub data Mirrors (s : Setup) (k : Calls s) (from : World) (schedule : List Step) : Type 0 where
  waits : (clock : ℤ) (down : List TimedByte) → moment_of clock < 2 ^ 63 → Waits s k down → run s from schedule ≡ still clock down → Mirrors s k from schedule
  goes : (start : ℤ) (call : List TimedByte) (before es : List Step) → moment_of start < 2 ^ 63 → Came s k call → IsSchedule es → schedule ≡ before ++ es →
      run s from before ≡ image call (begun (turned s k start)) → run s from schedule ≡ image call (final (turned s k start) es) → Mirrors s k from schedule

-- behind one more step
behind_step : (s : Setup) (k : Calls s) (from then : World) (e : Step) (es : List Step) → happens s from e ≡ then → Mirrors s k then es → Mirrors s k from (e ∷ es)
behind_step s k from then e es h (waits clock down lt w is) = waits clock down lt w (ap (λ x. run s x es) h ∙ is)
behind_step s k from then e es h (goes start call before more lt c is cut came all) =
    goes start call (e ∷ before) more lt c is (ap (λ l. e ∷ l) cut) (ap (λ x. run s x before) h ∙ came) (ap (λ x. run s x es) h ∙ all)

pub mirrors : (s : Setup) (k : Calls s) → s.asker.reverse ≡ true → (es : List Step) (clock : ℤ) (down : List TimedByte) → moment_of clock < 2 ^ 63 → Waits s k down → IsSchedule es → Mirrors s k (still clock down) es
mirrors s k own [] clock down lt w is = waits clock down lt w refl
mirrors s k own (steps.Ask request part ∷ es) clock down lt w is =
    behind_step s k _ _ (steps.Ask request part) es (waits_told s k clock down (Ask request part) w) (mirrors s k own es clock down lt w is.1)
mirrors s k own (steps.Renew ∷ es) clock down lt w is = behind_step s k _ _ steps.Renew es (waits_told s k clock down Renew w) (mirrors s k own es clock down lt w is.1)
mirrors s k own (steps.Close ∷ es) clock down lt w is = behind_step s k _ _ steps.Close es (waits_told s k clock down Close w) (mirrors s k own es clock down lt w is.1)
mirrors s k own (steps.Tick n ∷ es) clock down lt w is =
    behind_step s k _ _ (steps.Tick n) es refl (mirrors s k own es (ticked (clock +ℤ pos n)) down (ticked_timely (clock +ℤ pos n)) w is.1)
mirrors s k own (steps.Up n ∷ es) clock down lt w is =
    let none : delivered clock [] n (client_bytes s.asker [] down) ≡ [] = ap (delivered clock [] n) (waits_sends s k down own w) ∙ ap (map (at (moment_of clock))) (take_none n) in
    behind_step s k _ _ (steps.Up n) es (ap (λ u. record (still clock down) { up = u }) none) (mirrors s k own es clock down lt w is.1)
mirrors s k own (steps.Down n ∷ es) clock down lt w is = by (drop n w.left) refl (λ down w. mirrors s k own es clock down lt w is.1)
  where
    come : List TimedByte
    come = map (at (moment_of clock)) (take n w.left)

    more : List TimedByte
    more = down ++ come

    rest_left : drop (length down) (called k) ≡ w.left
    rest_left = ap (drop (length down)) (sym w.whole) ∙ drop_at (plain down) w.left (length down) (length_plain down)

    next : delivered clock down n (server_stream s (still clock down)) ≡ more
    next = ap (delivered clock down n) (first_stream s k own) ∙ ap (λ l. down ++ map (at (moment_of clock)) (take n l)) rest_left

    whole : plain more ++ drop n w.left ≡ called k
    whole =
        ap (λ l. l ++ drop n w.left) (plain_append down come ∙ ap (λ l. plain down ++ l) (plain_at (moment_of clock) (take n w.left)))
        ∙ append_assoc (plain down) (take n w.left) (drop n w.left) ∙ ap (λ l. plain down ++ l) (take-append-drop n w.left) ∙ w.whole

    -- the world then, by the fault of the client
    then : World
    then = came_by (still clock down) more (client_fault s.asker [] more)

    happened : happens s (still clock down) (steps.Down n) ≡ then
    happened = ap (λ v. came_by (still clock down) v (client_fault s.asker [] v)) next

    settled : (R : ClientReading) → R.fault ≡ None → came_by (still clock down) more R.fault ≡ still clock more
    settled R none = ap (came_by (still clock down) more) none

    by : (rest : List ℕ) → drop n w.left ≡ rest → ((down : List TimedByte) → Waits s k down → Mirrors s k (still clock down) es) → Mirrors s k (still clock down) (steps.Down n ∷ es)
    by (b ∷ rest) e on =
        let waits_on : Waits s k more = record { left = b ∷ rest; whole = ap (λ l. plain more ++ l) (sym e) ∙ whole; some = omega arith } in
        let fine = ap (λ (R : ClientReading). R.fault) (waits_reading s k more waits_on) in
        behind_step s k _ _ (steps.Down n) es (happened ∙ settled (client_reading_of s.asker [] more) fine) (on more waits_on)
    by [] e on =
        let c : Came s k more = record { bytes = sym (append-nil (plain more)) ∙ ap (λ l. plain more ++ l) (sym e) ∙ whole } in
        let reads = reads_image s k clock more [] [] own c in
        let fine : client_fault s.asker [] more ≡ None = ap (client_fault s.asker []) (sym (append-nil more)) ∙ ap (λ (R : ClientReading). R.fault) reads ∙ nothing_wrong (turned s k clock).asker in
        let there : still clock more ≡ image more (begun (turned s k clock)) = λ i. record { clock = clock; cmds = []; up = []; down = sym (append-nil more) i; settled = sym (append-nil more) i } in
        let all = happened ∙ settled (client_reading_of s.asker [] more) fine ∙ there in
        behind_step s k _ _ (steps.Down n) es all (goes clock more [] es lt c is.1 refl refl (run_image s k clock more es (begun (turned s k clock)) own c))

pub mirrored : (s : Setup) → IsSetup s → (k : Calls s) → s.asker.reverse ≡ true → (schedule : List Step) → IsSchedule schedule → Mirrors s k (begun s) schedule
mirrored s h k own schedule is =
    mirrors s k own schedule s.start [] h.start (record { left = called k; whole = refl; some = omega (arith, k.frame.there.header) }) is
