-- What a frame of each type does, put together from the steps that take it.
use Rattle.std.proofs.Common.{◌≡◌, ℕ, List, [], ◌∷◌, ◌++◌, Option, Some, None, is_some, refl, sym, ap, subst, ◌∙◌}
use Rattle.std.specs.Prelude.{option_map}
use Rattle.std.proofs.lemmas.List.{append-nil}
use Rattle.ua_frame.specs.Rows.{first_row}
use Rattle.ua_frame.specs.Hello.{hello_rows, acknowledge_frame}
use Rattle.ua_frame.specs.declared.hello.Hello.{Hello}
use Rattle.ua_chunk.specs.Layout.{OpenChunk}
use Rattle.ua_chunk.specs.Half.{Half}
use Rattle.ua_chunk.specs.Numbers.{number_after}
use Rattle.ua_chunk.specs.Written.{open_frame}
use Rattle.ua_channel.specs.Token.{next_token}
use Rattle.ua_channel.specs.Channel.{Channel, Shown, numbered, heard}
use Rattle.ua_channel.specs.Admission.{admit_open_rows}
use Rattle.ua_service.specs.declared.channel.OpenRequest.{OpenRequest}
use Rattle.ua_service.specs.declared.request.Request.{Request}
use Rattle.ua_service.specs.ChannelMessages.{open_of}
use Rattle.ua_disco.specs.Configuration.{Configuration}
use Rattle.ua_conn.specs.server.Site.{Site}
use Rattle.ua_conn.specs.Past.{Agreed, Known, agreed_by}
use Rattle.ua_conn.specs.server.Faults.{channel_of, open_rows, request_rows}
use Rattle.ua_conn.specs.server.Answers.{opened_body}
use Rattle.ua_conn.specs.server.Taking.{Gained}
use Rattle.ua_conn.specs.server.Ranges.{known_of, running_of}
use Rattle.ua_conn.specs.server.Opening.{asked_rows, Grants}
use Rattle.ua_conn.specs.server.Effects.{Acts, hello_effect, open_effect, open_by}
use Rattle.ua_conn.specs.declared.server.connection.opening.Granted.{Granted}
use Rattle.ua_conn.proofs.TableLemmas.{join_none}
use Rattle.ua_conn.proofs.ServerEnd.ReplyLemmas.{one_acknowledge, one_opened}

abbrev gains : List ℕ → List Request → Gained
gains bytes asked = record { bytes = bytes; asked = asked }

-- ---- a Hello

pub hello_acts : (settings : Configuration) (id : ℕ) (before : Option Agreed) (channel : Shown) (half : Option Half) (next : ℕ) (o : Option Hello) (a : Agreed) (out new : List ℕ) (asked : List Request) →
    first_row (hello_rows o) ≡ None → option_map (agreed_by settings.limits) o ≡ Some a → new ≡ out ++ acknowledge_frame a.ack →
    Acts (hello_effect (record { settings = settings; channel = id }) (known_of before channel half) o) (running_of settings id before channel half next) (running_of settings id (Some a) channel half next) (gains out asked) (gains new asked)
hello_acts settings id before channel half next None a out new asked h e w = absurd (cc)
hello_acts settings id before channel half next (Some hello) a out new asked h e w =
    let site : Site = record { settings = settings; channel = id } in
    let same : agreed_by settings.limits hello ≡ a = cc in
    record {
      fine = h;
      site = refl;
      known = λ i. known_of (sym e i) channel half;
      number = refl;
      said = w ∙ ap (λ (a : Agreed). out ++ acknowledge_frame a.ack) (sym same) ∙ ap (λ bytes. out ++ bytes) (sym (one_acknowledge site next (agreed_by settings.limits hello).ack));
      handed = sym (append-nil asked);
    }

-- ---- the channel

pub channel_is : (settings : Configuration) (id : ℕ) (agreed : Option Agreed) (channel : Shown) (half : Option Half) → channel.channel.id ≡ id →
    channel.channel ≡ channel_of (record { settings = settings; channel = id }) (known_of agreed channel half)
channel_is settings id agreed channel half e = λ i. record { id = e i; tokens = channel.channel.tokens; last = channel.channel.last; used = channel.channel.used }

-- ---- an OPN

pub asked_same : (site : Site) (k : Known) (c : Channel) (sequence : ℕ) (o : Option OpenRequest) → c ≡ channel_of site k → first_row (asked_rows (numbered c sequence) o) ≡ first_row (request_rows site k o)
asked_same site k c sequence None e = refl
asked_same site k c sequence (Some request) e = ap (λ c. first_row (asked_rows (numbered c sequence) (Some request))) e

pub open_rows_are : (site : Site) (k : Known) (c : Channel) (opening : OpenChunk) → c ≡ channel_of site k →
    first_row (admit_open_rows c opening ++ (is_some k.half, 0x807E0000) ∷ []) ≡ None →
    first_row (open_rows site k (Some opening)) ≡ first_row (request_rows site k (open_of opening.body))
open_rows_are site k c opening e h =
    join_none (admit_open_rows (channel_of site k) opening ++ (is_some k.half, 0x807E0000) ∷ []) (request_rows site k (open_of opening.body))
    (ap (λ c. first_row (admit_open_rows c opening ++ (is_some k.half, 0x807E0000) ∷ [])) (sym e) ∙ h)

opened_by_token : (settings : Configuration) (id : ℕ) (agreed : Option Agreed) (channel new : Shown) (half : Option Half) (next now : ℕ) (opening : OpenChunk) (o : Option OpenRequest) (granted : Granted) (out said : List ℕ) (asked : List Request) →
    (let site : Site = record { settings = settings; channel = id } in
    first_row (open_rows site (known_of agreed channel half) (Some opening)) ≡ None →
    Grants (record { channel = numbered channel.channel opening.sequence; moment = channel.moment }) new now o granted →
    said ≡ out ++ open_frame id next opening.request_id (opened_body granted.handle now id (record { id = granted.token; issued = now; lifetime = granted.lifetime })) →
    Acts (open_by site (known_of agreed channel half) now (Some opening) o) (running_of settings id agreed channel half next) (running_of settings id agreed new half (number_after next 1)) (gains out asked) (gains said asked))
opened_by_token settings id agreed channel new half next now opening None granted out said asked h g w = absurd g
opened_by_token settings id agreed channel new half next now opening (Some request) granted out said asked h g w =
    let site : Site = record { settings = settings; channel = id } in
    let token = next_token channel.channel.tokens now request.requested_lifetime in
    record {
      fine = h;
      site = refl;
      known = ap (λ c. known_of agreed c half) g.channel;
      number = refl;
      said = w
          ∙ (λ i. out ++ open_frame id next opening.request_id (opened_body (g.handle i) now id (record { id = g.token i; issued = now; lifetime = g.lifetime i })))
          ∙ ap (λ bytes. out ++ bytes) (sym (one_opened site next opening.request_id (opened_body request.header.request_handle now id token)));
      handed = sym (append-nil asked);
    }

pub open_acts : (settings : Configuration) (id : ℕ) (agreed : Option Agreed) (channel heard new : Shown) (half : Option Half) (next now : ℕ) (o : Option OpenChunk) (opening : OpenChunk) (granted : Granted) (out said : List ℕ) (asked : List Request) →
    channel.channel.id ≡ id → o ≡ Some opening →
    first_row (admit_open_rows channel.channel opening ++ (is_some half, 0x807E0000) ∷ []) ≡ None →
    heard ≡ record { channel = numbered channel.channel opening.sequence; moment = channel.moment } →
    first_row (asked_rows heard.channel (open_of opening.body)) ≡ None →
    Grants heard new now (open_of opening.body) granted →
    said ≡ out ++ open_frame id next opening.request_id (opened_body granted.handle now id (record { id = granted.token; issued = now; lifetime = granted.lifetime })) →
    Acts (open_effect (record { settings = settings; channel = id }) (known_of agreed channel half) now o) (running_of settings id agreed channel half next) (running_of settings id agreed new half (number_after next 1)) (gains out asked) (gains said asked)
open_acts settings id agreed channel heard new half next now o opening granted out said asked e layout admitted numbered_is issued grants w =
    let site : Site = record { settings = settings; channel = id } in
    let k = known_of agreed channel half in
    let c = channel_is settings id agreed channel half e in
    let fine : first_row (open_rows site k (Some opening)) ≡ None =
    open_rows_are site k channel.channel opening c admitted
    ∙ sym (asked_same site k channel.channel opening.sequence (open_of opening.body) c)
    ∙ ap (λ (h : Shown). first_row (asked_rows h.channel (open_of opening.body))) (sym numbered_is)
    ∙ issued in
    subst (λ x. Acts (open_effect site k now x) (running_of settings id agreed channel half next) (running_of settings id agreed new half (number_after next 1)) (gains out asked) (gains said asked)) (sym layout)
    (opened_by_token settings id agreed channel new half next now opening (open_of opening.body) granted out said asked fine
    (subst (λ h. Grants h new now (open_of opening.body) granted) numbered_is grants) w)
