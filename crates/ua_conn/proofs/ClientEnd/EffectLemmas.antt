-- What a frame of each type does to a client, put together from the steps that take it.
use Rattle.std.proofs.Common.{◌≡◌, ℕ, Bool, true, false, cond, ◌==◌, List, [], ◌∷◌, ◌++◌, Option, Some, None, refl, sym, ap, subst, ◌∙◌}
use Rattle.std.specs.Prelude.{not, is_some, option_map}
use Rattle.std.proofs.lemmas.Bool.{eq-eqb, eqb-true, not-false}
use Rattle.std.proofs.lemmas.List.{append-nil}
use Rattle.ua_frame.specs.Rows.{Row, first_row}
use Rattle.ua_frame.specs.Hello.{hello_frame}
use Rattle.ua_frame.specs.declared.acknowledge.Ack.{Ack}
use Rattle.ua_frame.specs.declared.reverse_hello.ReverseHello.{ReverseHello}
use Rattle.ua_chunk.specs.Layout.{OpenChunk}
use Rattle.ua_chunk.specs.Half.{Half}
use Rattle.ua_chunk.specs.Numbers.{number_after}
use Rattle.ua_chunk.specs.Written.{open_frame}
use Rattle.ua_channel.specs.Token.{two_newest}
use Rattle.ua_channel.specs.Channel.{Channel, Shown, numbered}
use Rattle.ua_channel.specs.ClientChannel.{admit_response_rows, opened_as}
use Rattle.ua_service.specs.declared.channel.OpenResponse.{OpenResponse}
use Rattle.ua_service.specs.declared.request.Request.{Request}
use Rattle.ua_service.specs.ChannelMessages.{open_response_of}
use Rattle.ua_conn.specs.client.Asker.{hello_to}
use Rattle.ua_conn.specs.client.Past.{granted_by}
use Rattle.ua_conn.specs.client.Faults.{broken, is_id, reverse_rows, acknowledge_rows, response_rows, opened_rows}
use Rattle.ua_conn.specs.client.Questions.{open_asked_body}
use Rattle.ua_conn.specs.client.Sending.{sent_bytes}
use Rattle.ua_conn.specs.client.Machine.{Awaiting, unless_id}
use Rattle.ua_conn.specs.client.Taking.{ClientRunning}
use Rattle.ua_conn.specs.client.Telling.{numbered_to}
use Rattle.ua_conn.specs.client.Ranges.{client_known_of, client_running_of}
use Rattle.ua_conn.specs.client.Effects.{asker_with, reverse_effect, acknowledge_effect, opening_effect, Given, Acts}
use Rattle.ua_conn.specs.declared.client.config.ClientConfig.{ClientConfig}
use Rattle.ua_conn.specs.declared.client.answer.Answer.{Answer}
use Rattle.ua_conn.specs.declared.client.fault.ClientFault.TheVariants.{Broken}
use Rattle.ua_conn.proofs.TableLemmas.{join_none, first_passes}

-- ---- tables

-- rows of statuses, as rows of faults
pub broken_first : (rows : List Row) → first_row (broken rows) ≡ option_map Broken (first_row rows)
broken_first [] = refl
broken_first (row ∷ rows) = by row.0 (broken_first rows)
  where
    by : (b : Bool) → first_row (broken rows) ≡ option_map Broken (first_row rows) → cond b (Some (Broken row.1)) (first_row (broken rows)) ≡ option_map Broken (cond b (Some row.1) (first_row rows))
    by true h = refl
    by false h = h

pub unbroken : (o : Option ℕ) → option_map Broken o ≡ None → o ≡ None
unbroken None h = refl
unbroken (Some status) h = absurd (cc)

pub broken_none : (rows : List Row) → first_row (broken rows) ≡ None → first_row rows ≡ None
broken_none rows h = unbroken (first_row rows) (sym (broken_first rows) ∙ h)

abbrev pub given : List ℕ → List Answer → Given
given bytes answers = record { bytes = bytes; answers = answers }

abbrev pub waits_of : Bool → Option Ack → Shown → Option Half → List (ℕ × Request) → Option ℕ → Awaiting
waits_of reverse ack channel half pending due = record { reverse = reverse; known = client_known_of ack channel half; pending = pending; due = due }

-- ---- an OPN

abbrev pub admitting_rows : Channel → Option Half → Option ℕ → OpenChunk → List Row
admitting_rows c half due opening = admit_response_rows c opening ++ (is_some half, 0x807E0000) ∷ (not (is_id due opening.request_id), 0x80090000) ∷ []

-- what the rows of its response say counts for the whole table
pub response_decides : (reverse : Bool) (ack : Option Ack) (channel : Shown) (half : Option Half) (pending : List (ℕ × Request)) (due : Option ℕ) (now : ℕ) (o : Option OpenChunk) (opening : OpenChunk) →
    o ≡ Some opening → first_row (admitting_rows channel.channel half due opening) ≡ None →
    first_row (opening_effect (waits_of reverse ack channel half pending due) now o).rows ≡ first_row (response_rows opening.channel (open_response_of opening.body))
response_decides reverse ack channel half pending due now o opening e h =
    ap (λ o. first_row (opened_rows (client_known_of ack channel half) due o)) e
    ∙ join_none (broken (admitting_rows channel.channel half due opening)) (response_rows opening.channel (open_response_of opening.body)) (broken_first (admitting_rows channel.channel half due opening) ∙ ap (option_map Broken) h)

answered_due : (due : Option ℕ) (id : ℕ) → not (is_id due id) ≡ false → unless_id due id ≡ None
answered_due None id h = absurd (cc)
answered_due (Some n) id h = ap (λ b. cond b None (Some n)) (eq-eqb id n (sym (eqb-true n id (not-false (n == id) h))))

-- the open request that is pending is answered
due_then : (c : Channel) (half : Option Half) (due : Option ℕ) (opening : OpenChunk) → first_row (admitting_rows c half due opening) ≡ None → unless_id due opening.request_id ≡ None
due_then c half due opening h =
    let behind : List Row = (is_some half, 0x807E0000) ∷ (not (is_id due opening.request_id), 0x80090000) ∷ [] in
    let last = sym (join_none (admit_response_rows c opening) behind (all_pass (admit_response_rows c opening) behind h)) ∙ h in
    answered_due due opening.request_id (first_passes _ _ _ (first_passes _ _ _ last).1).0
  where
    all_pass : (rows more : List Row) → first_row (rows ++ more) ≡ None → first_row rows ≡ None
    all_pass [] more h = refl
    all_pass (row ∷ rows) more h = by row.0 (all_pass rows more) h
      where
        by : (b : Bool) → (first_row (rows ++ more) ≡ None → first_row rows ≡ None) → cond b (Some row.1) (first_row (rows ++ more)) ≡ None → cond b (Some row.1) (first_row rows) ≡ None
        by true g h = h
        by false g h = g h

pub opening_acts : (config : ClientConfig) (reverse : Bool) (ack : Option Ack) (channel heard new : Shown) (half : Option Half) (pending : List (ℕ × Request)) (due : Option ℕ) (next now : ℕ) (o : Option OpenChunk) (opening : OpenChunk) (response : OpenResponse) (bytes : List ℕ) (answers : List Answer) →
    o ≡ Some opening → first_row (admitting_rows channel.channel half due opening) ≡ None → heard ≡ record { channel = numbered channel.channel opening.sequence; moment = channel.moment } →
    first_row (response_rows opening.channel (open_response_of opening.body)) ≡ None → open_response_of opening.body ≡ Some response →
    new ≡ record { channel = opened_as opening.channel heard.channel response now; moment = now } →
    Acts (opening_effect (waits_of reverse ack channel half pending due) now o) (client_running_of config reverse ack channel half pending due next) (client_running_of config reverse ack new half pending None next) (given bytes answers) (given bytes answers)
opening_acts config reverse ack channel heard new half pending due next now o opening response bytes answers e admitted h rows reads n =
    subst (λ o. Acts (opening_effect (waits_of reverse ack channel half pending due) now o) (client_running_of config reverse ack channel half pending due next) (client_running_of config reverse ack new half pending None next) (given bytes answers) (given bytes answers)) (sym e)
    (record {
      fine = response_decides reverse ack channel half pending due now (Some opening) opening refl admitted ∙ rows;
      config = refl;
      waits = ap (λ (x : Shown). waits_of reverse ack x half pending None) n
          ∙ (λ i. record (waits_of reverse ack channel half pending due) {
            known = record (client_known_of ack channel half) {
              channel = opening.channel;
              tokens = two_newest (granted_by (sym reads i) now ∷ (h i).channel.tokens);
              last = (h i).channel.last;
            };
            due = sym (due_then channel.channel half due opening admitted) i;
          });
      number = refl;
      said = sym (append-nil bytes);
      given = sym (append-nil answers);
    })

-- ---- an RHE

pub reverse_acts : (config : ClientConfig) (reverse : Bool) (ack : Option Ack) (channel : Shown) (half : Option Half) (pending : List (ℕ × Request)) (due : Option ℕ) (next : ℕ) (o : Option ReverseHello) (hello : ReverseHello) (out out' : List ℕ) (answers : List Answer) →
    first_row (broken (reverse_rows o)) ≡ None → o ≡ Some hello → out' ≡ out ++ hello_frame (hello_to config hello.endpoint_url) →
    Acts (reverse_effect config (waits_of reverse ack channel half pending due) o) (client_running_of config reverse ack channel half pending due next) (client_running_of config false ack channel half pending due next) (given out answers) (given out' answers)
unfolding sent_bytes
reverse_acts config reverse ack channel half pending due next o hello out out' answers h e w =
    subst (λ o. Acts (reverse_effect config (waits_of reverse ack channel half pending due) o) (client_running_of config reverse ack channel half pending due next) (client_running_of config false ack channel half pending due next) (given out answers) (given out' answers)) (sym e)
    (record {
      fine = ap (λ o. first_row (broken (reverse_rows o))) (sym e) ∙ h;
      config = refl;
      waits = refl;
      number = refl;
      said = w ∙ ap (λ b. out ++ b) (sym (append-nil (hello_frame (hello_to config hello.endpoint_url))));
      given = sym (append-nil answers);
    })

-- ---- an ACK

pub acknowledge_acts : (config : ClientConfig) (reverse : Bool) (before : Option Ack) (channel : Shown) (half : Option Half) (pending : List (ℕ × Request)) (due : Option ℕ) (next now : ℕ) (o : Option Ack) (ack : Ack) (new : ClientRunning) (out out' : List ℕ) (answers : List Answer) →
    first_row (broken (acknowledge_rows (asker_with config) o)) ≡ None → o ≡ Some ack → out' ≡ out ++ open_frame 0 next 1 (open_asked_body now 1 0 config.lifetime) →
    new ≡ numbered_to (client_running_of config reverse (Some ack) channel half pending due next) (number_after next 1) →
    Acts (acknowledge_effect config (waits_of reverse before channel half pending due) now o) (client_running_of config reverse before channel half pending due next) new (given out answers) (given out' answers)
unfolding sent_bytes
acknowledge_acts config reverse before channel half pending due next now o ack new out out' answers h e w n =
    subst (λ o. Acts (acknowledge_effect config (waits_of reverse before channel half pending due) now o) (client_running_of config reverse before channel half pending due next) new (given out answers) (given out' answers)) (sym e)
    (record {
      fine = ap (λ o. first_row (broken (acknowledge_rows (asker_with config) o))) (sym e) ∙ h;
      config = ap (λ (r : ClientRunning). r.config) n;
      waits = ap (λ (r : ClientRunning). r.waits) n;
      number = ap (λ (r : ClientRunning). r.next) n;
      said = w ∙ ap (λ b. out ++ b) (sym (append-nil (open_frame 0 next 1 (open_asked_body now 1 0 config.lifetime))));
      given = sym (append-nil answers);
    })
