-- What a MSG and a CLO do, put together from the steps that take them.
use Rattle.std.proofs.Common.{◌≡◌, ℕ, false, cond, ◌&&◌, ◌==◌, List, [], ◌∷◌, ◌++◌, map, length, Option, Some, None, is_none, refl, sym, ap, subst, ◌∙◌}
use Rattle.std.proofs.lemmas.List.{append-nil}
use Rattle.ua_frame.specs.Rows.{first_row}
use Rattle.ua_frame.specs.declared.kind.Kind.{Kind}
use Rattle.ua_chunk.specs.Layout.{Chunk, FlaggedChunk, with_flag}
use Rattle.ua_chunk.specs.Half.{Half, body_of, part_rows, half_after}
use Rattle.ua_chunk.specs.Gathered.{Gathered}
use Rattle.ua_chunk.specs.Numbers.{number_after}
use Rattle.ua_chunk.specs.NumberLaws.{IsNumber}
use Rattle.ua_chunk.specs.Written.{message_frames}
use Rattle.ua_channel.specs.Channel.{Shown, heard, most}
use Rattle.ua_service.specs.declared.request.Request.{Request}
use Rattle.ua_service.specs.ChannelMessages.{close_of}
use Rattle.ua_service.specs.Requests.{request_of}
use Rattle.ua_disco.specs.Configuration.{Configuration}
use Rattle.ua_conn.specs.server.Site.{Site}
use Rattle.ua_conn.specs.Past.{Agreed, Known, or_empty}
use Rattle.ua_conn.specs.server.Faults.{channel_of, message_rows, close_rows}
use Rattle.ua_conn.specs.server.Replies.{Answer, answer_parts, to_list}
use Rattle.ua_conn.specs.server.Answers.{answer_body}
use Rattle.ua_conn.specs.server.Machine.{spelled_next, next_after}
use Rattle.ua_conn.specs.server.Taking.{Gained}
use Rattle.ua_conn.specs.server.Ranges.{known_of, running_of, IsBetween}
use Rattle.ua_conn.specs.server.Parts.{gathered_rows, Gathers, whole_with}
use Rattle.ua_conn.specs.server.Effects.{Acts, message_effect, close_effect, admitted_rows, heard_in, answers}
use Rattle.ua_conn.proofs.TableLemmas.{join_none}
use Rattle.ua_conn.proofs.ServerEnd.ReplyLemmas.{answer_frames, answer_next}
use Rattle.ua_conn.proofs.ServerEnd.EffectLemmas.{channel_is}

-- a chunk with the flag of its frame
pub record IsChunkOf (kind : Kind) (flag : ℕ) (o : Option Chunk) (c : FlaggedChunk) : Type 0 where
  pub chunk : o ≡ Some c.chunk
  pub flag_is : c.flag ≡ flag
  pub kind_is : c.kind ≡ kind

pub chunk_of_flagged : (kind : Kind) (flag : ℕ) (o : Option Chunk) (c : FlaggedChunk) → with_flag kind flag o ≡ Some c → IsChunkOf kind flag o c
chunk_of_flagged kind flag None c e = absurd (cc)
chunk_of_flagged kind flag (Some chunk) c e =
    let f : FlaggedChunk = record { kind = kind; flag = flag; chunk = chunk } in
    let same : f ≡ c = cc in
    record { chunk = ap (λ (c : FlaggedChunk). Some c.chunk) same; flag_is = ap (λ (c : FlaggedChunk). c.flag) (sym same); kind_is = ap (λ (c : FlaggedChunk). c.kind) (sym same) }

abbrev pub site_of : Configuration → ℕ → Site
site_of settings id = record { settings = settings; channel = id }

abbrev pub gains : List ℕ → List Request → Gained
gains bytes asked = record { bytes = bytes; asked = asked }

-- the rows of the channel, as the whole table has them
pub admitted_are : (settings : Configuration) (id : ℕ) (agreed : Option Agreed) (channel : Shown) (half : Option Half) (now : ℕ) (o : Option Chunk) (v : Option ℕ) → channel.channel.id ≡ id →
    first_row (admitted_rows channel.channel now o) ≡ v → first_row (admitted_rows (channel_of (site_of settings id) (known_of agreed channel half)) now o) ≡ v
admitted_are settings id agreed channel half now o v e h = ap (λ c. first_row (admitted_rows c now o)) (sym (channel_is settings id agreed channel half e)) ∙ h

-- the rows of a part, as the whole table has them
pub gathered_are : (site : Site) (k : Known) (g : Gathered) (c : FlaggedChunk) (flag : ℕ) → IsBetween site.settings.limits g → g.half ≡ k.half → c.flag ≡ flag →
    gathered_rows g c ≡ message_rows site k flag c.chunk
gathered_are site k g c flag b h q = λ i.
    part_rows (b.max_message i) (b.max_chunks i) (h i) (q i) c.chunk.request_id c.chunk.body
    ++ (q i == 70 && is_none (request_of (body_of (h i) ++ c.chunk.body)), 0x80070000)
    ∷ []

-- ---- a CLO

pub close_acts : (settings : Configuration) (id : ℕ) (agreed : Option Agreed) (channel new : Shown) (half : Option Half) (next now : ℕ) (o : Option Chunk) (chunk : Chunk) (out : List ℕ) (asked : List Request) →
    channel.channel.id ≡ id → o ≡ Some chunk → first_row (admitted_rows channel.channel now o) ≡ None → new ≡ record { channel = heard channel.channel chunk.token chunk.sequence; moment = now } →
    is_none (close_of chunk.body) ≡ false →
    Acts (close_effect (site_of settings id) (known_of agreed channel half) now o) (running_of settings id agreed channel half next) (running_of settings id agreed new half next) (gains out asked) (gains out asked)
close_acts settings id agreed channel new half next now o chunk out asked e there admitted h body = record {
  fine = join_none (admitted_rows (channel_of (site_of settings id) (known_of agreed channel half)) now o) (close_rows (or_empty o)) (admitted_are settings id agreed channel half now o None e admitted)
      ∙ ap (λ o. first_row (close_rows (or_empty o))) there
      ∙ ap (λ b. cond b (Some 0x80070000) None) body;
  site = refl;
  known = ap (λ c. known_of agreed c half) h ∙ ap (λ o. heard_in (known_of agreed channel half) (or_empty o)) (sym there);
  number = refl;
  said = sym (append-nil out);
  handed = sym (append-nil asked);
}

-- ---- a MSG

-- what the rows of the part say counts for the whole table
pub message_rows_are : (settings : Configuration) (id : ℕ) (agreed : Option Agreed) (channel : Shown) (g : Gathered) (now flag : ℕ) (o : Option Chunk) (c : FlaggedChunk) (kind : Kind) (v : Option ℕ) →
    channel.channel.id ≡ id → IsBetween settings.limits g → IsChunkOf kind flag o c → first_row (admitted_rows channel.channel now o) ≡ None → first_row (gathered_rows g c) ≡ v →
    first_row (message_effect (site_of settings id) (known_of agreed channel g.half) now flag o).rows ≡ v
message_rows_are settings id agreed channel g now flag o c kind v e b is admitted h =
    let site = site_of settings id in
    let k = known_of agreed channel g.half in
    join_none (admitted_rows (channel_of site k) now o) (message_rows site k flag (or_empty o)) (admitted_are settings id agreed channel g.half now o None e admitted)
    ∙ ap (λ o. first_row (message_rows site k flag (or_empty o))) is.chunk
    ∙ ap first_row (sym (gathered_are site k g c flag b refl is.flag_is))
    ∙ h

-- how the answer to the whole request is said, if there is one
pub record Answers (site : Site) (agreed : Option Agreed) (token id next now : ℕ) (request : Option Request) (next' : ℕ) (had has : Gained) : Type 0 where
  pub number : next' ≡ next_after next (answers site now token id agreed request)
  pub said : has.bytes ≡ had.bytes ++ spelled_next site next (answers site now token id agreed request)
  pub handed : has.asked ≡ had.asked ++ to_list request

no_replies : (site : Site) (agreed : Option Agreed) (token id now : ℕ) → answers site now token id agreed None ≡ []
no_replies site None token id now = refl
no_replies site (Some agreed) token id now = refl

pub no_answer : (site : Site) (agreed : Option Agreed) (token id next now : ℕ) (had : Gained) → Answers site agreed token id next now None next had had
no_answer site agreed token id next now had = record {
  number = ap (next_after next) (sym (no_replies site agreed token id now));
  said = sym (append-nil had.bytes) ∙ ap (λ rs. had.bytes ++ spelled_next site next rs) (sym (no_replies site agreed token id now));
  handed = sym (append-nil had.asked);
}

-- before a Hello nothing can be said
pub silent : (site : Site) (token id next now : ℕ) (request : Request) (bytes : List ℕ) (asked asked' : List Request) → asked' ≡ asked ++ request ∷ [] →
    Answers site None token id next now (Some request) next (gains bytes asked) (gains bytes asked')
silent site token id next now request bytes asked asked' e = record { number = refl; said = sym (append-nil bytes); handed = e }

pub answered : (site : Site) (agreed : Agreed) (token used id next now : ℕ) (request : Request) (body : List ℕ) (next' : ℕ) (bytes bytes' : List ℕ) (asked asked' : List Request) →
    IsNumber next → used ≡ token → body ≡ answer_body site.settings request now →
    bytes' ≡ bytes ++ message_frames site.channel used next 0 (answer_parts agreed id body) → next' ≡ number_after next (length (answer_parts agreed id body)) → asked' ≡ asked ++ request ∷ [] →
    Answers site (Some agreed) token id next now (Some request) next' (gains bytes asked) (gains bytes' asked')
answered site agreed token used id next now request body next' bytes bytes' asked asked' h u b said number handed = record {
  number = number ∙ answer_next token next (answer_parts agreed id body) h ∙ ap (λ b. next_after next (map (Answer token) (answer_parts agreed id b))) b;
  said = said
      ∙ ap (λ used. bytes ++ message_frames site.channel used next 0 (answer_parts agreed id body)) u
      ∙ ap (λ frames. bytes ++ frames) (answer_frames site token next (answer_parts agreed id body) h)
      ∙ ap (λ b. bytes ++ spelled_next site next (map (Answer token) (answer_parts agreed id b))) b;
  handed = handed;
}

pub message_acts : (settings : Configuration) (id : ℕ) (agreed : Option Agreed) (channel new : Shown) (g g' : Gathered) (next next' now flag : ℕ) (o : Option Chunk) (c : FlaggedChunk) (kind : Kind) (request : Option Request) (had has : Gained) →
    channel.channel.id ≡ id → IsBetween settings.limits g → IsChunkOf kind flag o c →
    first_row (admitted_rows channel.channel now o) ≡ None → new ≡ record { channel = heard channel.channel c.chunk.token c.chunk.sequence; moment = now } →
    first_row (gathered_rows g c) ≡ None → Gathers g g' c request →
    Answers (site_of settings id) agreed (most channel.channel.used c.chunk.token) c.chunk.request_id next now request next' had has →
    Acts (message_effect (site_of settings id) (known_of agreed channel g.half) now flag o) (running_of settings id agreed channel g.half next) (running_of settings id agreed new g'.half next') had has
message_acts settings id agreed channel new g g' next next' now flag o c kind request had has e b is admitted h rows gathers says =
    let site = site_of settings id in
    let k = known_of agreed channel g.half in
    let whole : request ≡ whole_with g.half flag c.chunk.body = gathers.whole ∙ ap (λ flag. whole_with g.half flag c.chunk.body) is.flag_is in
    subst (λ o. Acts (message_effect site k now flag o) (running_of settings id agreed channel g.half next) (running_of settings id agreed new g'.half next') had has) (sym is.chunk)
    (record {
      fine = ap (λ o. first_row (message_effect site k now flag o).rows) (sym is.chunk) ∙ message_rows_are settings id agreed channel g now flag o c kind None e b is admitted rows;
      site = refl;
      known = (λ i. known_of agreed (h i) (gathers.half i)) ∙ ap (λ flag. record (heard_in k c.chunk) { half = half_after k.half flag c.chunk.request_id c.chunk.body }) is.flag_is;
      number = says.number ∙ ap (λ r. next_after next (answers site now (most k.used c.chunk.token) c.chunk.request_id agreed r)) whole;
      said = says.said ∙ ap (λ r. had.bytes ++ spelled_next site next (answers site now (most k.used c.chunk.token) c.chunk.request_id agreed r)) whole;
      handed = says.handed ∙ ap (λ r. had.asked ++ to_list r) whole;
    })

-- the one token that there is
pub token_is : (o : Option ℕ) (n m : ℕ) → o ≡ Some n → o ≡ Some m → n ≡ m
token_is None n m e q = absurd (cc)
token_is (Some k) n m e q = let one : k ≡ n = cc in let other : k ≡ m = cc in sym one ∙ other
