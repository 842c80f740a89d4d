-- What the definitions say of a frame of each type, by its parts.
use Rattle.std.proofs.Common.{◌≡◌, ℕ, cond, ◌&&◌, ◌==◌, List, ◌∷◌, ◌++◌, Option, Some, None, refl, ap, ◌∙◌}
use Rattle.std.specs.Prelude.{option_map}
use Rattle.ua_frame.specs.Rows.{first_row}
use Rattle.ua_frame.specs.Layout.{Frame, Parts, IsFrameOf, kind_of, flag_of}
use Rattle.ua_frame.specs.Hello.{hello_of, hello_rows}
use Rattle.ua_frame.specs.declared.kind.Kind.{Kind}
use Rattle.ua_frame.specs.declared.kind.Kind.TheVariants as kinds
use Rattle.ua_chunk.specs.Layout.{open_chunk_of, chunk_of}
use Rattle.ua_chunk.specs.Half.{body_of, half_after}
use Rattle.ua_channel.specs.Token.{two_newest}
use Rattle.ua_channel.specs.Channel.{most}
use Rattle.ua_service.specs.declared.request.Request.{Request}
use Rattle.ua_service.specs.Requests.{request_of}
use Rattle.ua_conn.specs.server.Site.{Site}
use Rattle.ua_conn.specs.Past.{Agreed, Known, is_hello, is_open, is_message, has_token, has_number, agreed, carried, open_in, limits_of, sequence_of}
use Rattle.ua_conn.specs.server.Faults.{type_rows}
use Rattle.ua_conn.specs.server.Replies.{reply_by, reply_to, handed_at, answer_to, acknowledged, to_list}
use Rattle.ua_conn.specs.server.Machine.{known_after, token_after}
use Rattle.ua_conn.specs.server.Effects.{Effect, hello_effect, open_effect, message_effect, close_effect, answers}
use Rattle.ua_conn.specs.server.Parts.{whole_with}

-- the effect is that of the frame
pub record IsEffect (e : Effect) (site : Site) (k : Known) (f : Frame) : Type 0 where
  pub rows : first_row (type_rows site k f (flag_of f.bytes) (kind_of f.bytes)) ≡ first_row e.rows
  pub known : known_after site k f ≡ e.known
  pub says : reply_to site k f ≡ e.says
  pub asks : handed_at k f ≡ e.asks

abbrev number_at : Frame → Option Kind → ℕ
number_at f kind = cond (is_open kind) (sequence_of (open_in f)) (carried f).sequence

abbrev known_at : Site → Known → Frame → ℕ → Option Kind → Known
known_at site k f flag kind = record {
  limits = cond (is_hello kind) (limits_of site f) k.limits;
  tokens = cond (is_open kind) (two_newest (token_after k.tokens f ∷ k.tokens)) k.tokens;
  last = cond (has_number kind) (Some (number_at f kind)) k.last;
  half = cond (is_message kind) (half_after k.half flag (carried f).request_id (carried f).body) k.half;
  used = cond (has_token kind) (Some (most k.used (carried f).token)) k.used;
}

known_by : (site : Site) (k : Known) (f : Frame) (flag : ℕ) (kind : Option Kind) → flag_of f.bytes ≡ flag → kind_of f.bytes ≡ kind → known_after site k f ≡ known_at site k f flag kind
unfolding known_after
known_by site k f flag kind q e = λ i. known_at site k f (q i) (e i)

abbrev whole_at : Known → Frame → ℕ → Option Kind → Option Request
whole_at k f flag kind = cond (is_message kind && flag == 70) (request_of (body_of k.half ++ (carried f).body)) None

asks_by : (k : Known) (f : Frame) (flag : ℕ) (kind : Option Kind) → flag_of f.bytes ≡ flag → kind_of f.bytes ≡ kind → handed_at k f ≡ to_list (whole_at k f flag kind)
unfolding handed_at
asks_by k f flag kind q e = λ i. to_list (whole_at k f (q i) (e i))

says_by : (site : Site) (k : Known) (f : Frame) (kind : Option Kind) → kind_of f.bytes ≡ kind → reply_to site k f ≡ reply_by site k f kind
unfolding reply_to
says_by site k f kind e = ap (reply_by site k f) e

answers_same : (site : Site) (k : Known) (f : Frame) (l : Option Agreed) (r : Option Request) → answer_to site k f l r ≡ answers site f.moment (most k.used (carried f).token) (carried f).request_id l r
answers_same site k f (Some agreed) (Some request) = refl
answers_same site k f (Some agreed) None = refl
answers_same site k f None (Some request) = refl
answers_same site k f None None = refl

pub by_hello : (site : Site) (k : Known) (f : Frame) (parts : Parts) → IsFrameOf f.bytes parts → parts.kind ≡ kinds.Hello → IsEffect (hello_effect site k (hello_of parts.fields)) site k f
by_hello site k f parts is e =
    let kind : kind_of f.bytes ≡ Some kinds.Hello = is.kind ∙ ap Some e in
    record {
      rows = ap (λ κ. first_row (type_rows site k f (flag_of f.bytes) κ)) kind ∙ ap (λ x. first_row (hello_rows (hello_of x))) is.fields;
      known = known_by site k f _ _ refl kind ∙ ap (λ x. record k { limits = option_map (agreed site) (hello_of x) }) is.fields;
      says = says_by site k f _ kind ∙ ap (λ x. acknowledged site (hello_of x)) is.fields;
      asks = asks_by k f _ _ refl kind;
    }

pub by_open : (site : Site) (k : Known) (f : Frame) (parts : Parts) → IsFrameOf f.bytes parts → parts.kind ≡ kinds.Open → IsEffect (open_effect site k f.moment (open_chunk_of parts.fields)) site k f
by_open site k f parts is e =
    let kind : kind_of f.bytes ≡ Some kinds.Open = is.kind ∙ ap Some e in
    let E : List ℕ → Effect = λ x. open_effect site k f.moment (open_chunk_of x) in
    record {
      rows = ap (λ κ. first_row (type_rows site k f (flag_of f.bytes) κ)) kind ∙ ap (λ x. first_row (E x).rows) is.fields;
      known = known_by site k f _ _ refl kind ∙ ap (λ x. (E x).known) is.fields;
      says = says_by site k f _ kind ∙ ap (λ x. (E x).says) is.fields;
      asks = asks_by k f _ _ refl kind;
    }

pub by_message : (site : Site) (k : Known) (f : Frame) (parts : Parts) → IsFrameOf f.bytes parts → parts.kind ≡ kinds.Message → IsEffect (message_effect site k f.moment parts.flag (chunk_of parts.fields)) site k f
by_message site k f parts is e =
    let kind : kind_of f.bytes ≡ Some kinds.Message = is.kind ∙ ap Some e in
    let E : List ℕ → Effect = λ x. message_effect site k f.moment parts.flag (chunk_of x) in
    let whole : handed_at k f ≡ to_list (whole_with k.half parts.flag (carried f).body) = asks_by k f _ _ is.flag kind in
    record {
      rows = (λ i. first_row (type_rows site k f (is.flag i) (kind i))) ∙ ap (λ x. first_row (E x).rows) is.fields;
      known = known_by site k f _ _ is.flag kind ∙ ap (λ x. (E x).known) is.fields;
      says = says_by site k f _ kind
          ∙ (λ i. answer_to site k f k.limits (whole_at k f (is.flag i) (kind i)))
          ∙ answers_same site k f k.limits (whole_with k.half parts.flag (carried f).body)
          ∙ ap (λ x. (E x).says) is.fields;
      asks = whole ∙ ap (λ x. (E x).asks) is.fields;
    }

pub by_close : (site : Site) (k : Known) (f : Frame) (parts : Parts) → IsFrameOf f.bytes parts → parts.kind ≡ kinds.Close → IsEffect (close_effect site k f.moment (chunk_of parts.fields)) site k f
by_close site k f parts is e =
    let kind : kind_of f.bytes ≡ Some kinds.Close = is.kind ∙ ap Some e in
    let E : List ℕ → Effect = λ x. close_effect site k f.moment (chunk_of x) in
    record {
      rows = ap (λ κ. first_row (type_rows site k f (flag_of f.bytes) κ)) kind ∙ ap (λ x. first_row (E x).rows) is.fields;
      known = known_by site k f _ _ refl kind ∙ ap (λ x. (E x).known) is.fields;
      says = says_by site k f _ kind;
      asks = asks_by k f _ _ refl kind;
    }
