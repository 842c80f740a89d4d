-- No row of the table holds in a list exactly where it is a beginning of a legal one.
use Rattle.std.proofs.Common.{◌≡◌, ℕ, ◌+◌, ◌≤◌, Bool, true, false, cond, ◌||◌, ◌==◌, List, [], ◌∷◌, ◌++◌, length, Option, Some, None, is_some, is_none, refl, sym, ap, subst, ◌∙◌, arith, append_assoc}
use Rattle.std.proofs.lemmas.List.{append-nil, length-append}
use Rattle.std.proofs.lemmas.List.Concat.{flat_map-append}
use Rattle.std.proofs.lemmas.Bool.{eqb-true, not-false}
use Rattle.ua_frame.specs.Layout.{Frame, kind_of, flag_of}
use Rattle.ua_frame.specs.declared.kind.Kind.{Kind}
use Rattle.ua_frame.specs.declared.kind.Kind.TheVariants as kinds
use Rattle.std.specs.Prelude.{pos, option_map}
use Rattle.ua_frame.specs.declared.hello.Hello.{Hello}
use Rattle.ua_channel.specs.Token.{two_newest}
use Rattle.ua_chunk.specs.Half.{Half, ends_message, body_of, parts_of, may_have_id}
use Rattle.ua_conn.specs.server.Site.{Site}
use Rattle.ua_conn.specs.Past.{Past, Known, known, agreed, is_hello, is_open, is_message, is_close, has_number, carried, hello_in, limits_of, tokens_by, half_by, until}
use Rattle.ua_conn.specs.server.Faults.{is_allowed, greatest_frame}
use Rattle.ua_conn.specs.server.Held.{newest_first}
use Rattle.ua_conn.specs.server.Legal.{joined_body, IsChunk, IsOpening, IsHello, AreParts, FitTheLimits, Turn, Renewal, Message, Dropped, turn_frames, IsTurn, AreTurns, IsMessage, IsDropped, all_frames, Tail, NoTail, Close, tail_frames, IsClose, IsTail, IsLegal, IsBeginning, HasRoom, Opens, BeginsLegal}
use Rattle.ua_conn.proofs.KindLemmas.{is_hello_tells, is_open_tells}
use Rattle.ua_conn.proofs.ServerEnd.RowLemmas.{Fine, AreFine, fine_all, faultless_all, tells, fine_by, Admits, Part, part_rows, close_rows_no, OpenAt, open_tells, open_rows_no, HelloAt, hello_tells, hello_rows_no}
use Rattle.ua_conn.proofs.ServerEnd.ReadyLemmas.{half_of, Ready, newest_last, half_bodies, half_counts, half_ids, allowed_ready, part_ready, last_ready, opn_ready, newest_append}
use Rattle.ua_conn.proofs.ServerEnd.GrammarLemmas.{build, start_at}
use Rattle.ua_service.specs.Requests.{request_of}

-- before the HEL, and behind it
at_first : (site : Site) → is_none (known site []).limits ≡ true
unfolding known
at_first site = refl

pub record Greeted (k : Known) : Type 0 where
  pub limits : is_none k.limits ≡ false
  pub tokens : (length k.tokens == 0) ≡ true
  pub half : k.half ≡ None

at_second : (site : Site) (h : Frame) (hello : Hello) → kind_of h.bytes ≡ Some kinds.Hello → hello_in h ≡ Some hello → Greeted (known site (h ∷ []))
unfolding known
at_second site h hello e q = record {
  limits = ap (λ κ. is_none (cond (is_hello κ) (limits_of site h) None)) e ∙ ap (λ o. is_none (option_map (agreed site) o)) q;
  tokens = ap (λ κ. length (two_newest (tokens_by (cond (is_open κ) (h ∷ []) []))) == 0) e;
  half = ap (λ κ. half_by (until (λ f. ends_message (flag_of f.bytes)) (cond (is_message κ) (h ∷ []) []))) e;
}

hello_from : (site : Site) (h : Frame) → Fine site (known site []) h → IsHello site h
hello_from site h n =
    let all = tells site (known site []) h (kind_of h.bytes) (flag_of h.bytes) refl refl n in
    let e : kind_of h.bytes ≡ Some kinds.Hello = is_hello_tells (kind_of h.bytes) (ap (λ b. cond b (is_hello (kind_of h.bytes)) (cond (length (known site []).tokens == 0) (is_open (kind_of h.bytes)) (has_number (kind_of h.bytes)))) (sym (at_first site)) ∙ not-false _ all.1.1.1.1.0) in
    let all' = tells site (known site []) h (Some kinds.Hello) (flag_of h.bytes) e refl n in
    let p = hello_tells site (known site []) h (flag_of h.bytes) n.whole all' in
    record { kind = e; flag = eqb-true _ _ (not-false _ all'.1.0); size = p.size; hello = p.hello; layout = p.layout; url = p.url; receive = p.receive; send = p.send }

opening_from : (site : Site) (h o : Frame) → IsHello site h → Fine site (known site (h ∷ [])) o → IsOpening site (h ∷ []) 0 0 o
opening_from site h o i n =
    let k = known site (h ∷ []) in
    let g = at_second site h i.hello i.kind i.layout in
    let all = tells site k o (kind_of o.bytes) (flag_of o.bytes) refl refl n in
    let allowed : is_allowed k (kind_of o.bytes) ≡ is_open (kind_of o.bytes) = λ j. cond (g.limits j) (is_hello (kind_of o.bytes)) (cond (g.tokens j) (is_open (kind_of o.bytes)) (has_number (kind_of o.bytes))) in
    let e : kind_of o.bytes ≡ Some kinds.Open = is_open_tells (kind_of o.bytes) (sym allowed ∙ not-false _ all.1.1.1.1.0) in
    let all' = tells site k o (Some kinds.Open) (flag_of o.bytes) e refl n in
    let p = open_tells site k o (flag_of o.bytes) n.whole all' in
    record {
      kind = e;
      flag = eqb-true _ _ (not-false _ all'.1.0);
      size = p.size;
      opening = p.opening;
      layout = p.layout;
      channel_id = p.channel_id ∙ ap (λ b. cond b 0 site.channel) g.tokens;
      policy = p.policy;
      number = p.number;
      request = p.request;
      body = p.body;
      request_type = p.request_type ∙ ap (λ b. pos (cond b 0 1)) g.tokens;
      mode = p.mode;
      unspent = p.unspent;
    }

-- both sizes are at least 8192, so is the lesser
pub room_second : (site : Site) (h : Frame) → 8192 ≤ site.settings.limits.receive → IsHello site h → 8192 ≤ greatest_frame (known site (h ∷ [])).limits
unfolding known
room_second site h v i =
    let e : cond (is_hello (kind_of h.bytes)) (limits_of site h) None ≡ Some (agreed site i.hello) = ap (λ κ. cond (is_hello κ) (limits_of site h) None) i.kind ∙ ap (option_map (agreed site)) i.layout in
    subst (λ l. 8192 ≤ greatest_frame l) (sym e) (let b = i.send in omega (arith, v, b))

opened : (site : Site) (h o : Frame) → 8192 ≤ site.settings.limits.receive → IsHello site h → IsOpening site (h ∷ []) 0 0 o → Ready (known site (o ∷ h ∷ [])) None
opened site h o v i p = let g = at_second site h i.hello i.kind i.layout in opn_ready site (h ∷ []) o p.kind g.limits (room_second site h v i) g.half

-- what is faultless begins a legal list
pub beginning : (site : Site) → HasRoom site → Opens site → (fs : List Frame) → AreFine site [] fs → IsBeginning site fs
beginning site room comp [] h =
    let a = comp.hello in let b = comp.opening a.0 a.1 in
    (a.0 ∷ b.0 ∷ [], record { hello = a.0; opening = b.0; turns = []; tail = NoTail; frames = refl; hello_is = a.1; opening_is = b.1; turns_are = tt; tail_is = tt })
beginning site room comp (f ∷ []) h =
    let a = hello_from site f h.0 in let b = comp.opening f a in
    (b.0 ∷ [], record { hello = f; opening = b.0; turns = []; tail = NoTail; frames = refl; hello_is = a; opening_is = b.1; turns_are = tt; tail_is = tt })
beginning site room comp (f ∷ g ∷ fs) h =
    let a = hello_from site f h.0 in
    let b = opening_from site f g a h.2.0 in
    let w = build site fs (g ∷ f ∷ []) [] 0 (start_at site (g ∷ f ∷ []) (opened site f g room a b)) h.2.2 in
    (w.more, record { hello = f; opening = g; turns = w.turns; tail = w.tail; frames = ap (λ l. f ∷ g ∷ l) w.frames; hello_is = a; opening_is = b; turns_are = w.turns_are; tail_is = w.tail_is })

-- and back: a beginning of a faultless list is faultless
cut : (site : Site) (past : Past) (fs more : List Frame) → AreFine site past (fs ++ more) → AreFine site past fs
cut site past [] more h = tt
cut site past (f ∷ fs) more h = (h.0, (λ e. none_left fs more (h.1 e)), cut site (f ∷ past) fs more h.2)
  where
    none_left : (fs more : List Frame) → fs ++ more ≡ [] → fs ≡ []
    none_left [] more e = refl
    none_left (f ∷ fs) more e = absurd (cc)

not_clo : (f : Frame) (fs : List Frame) (kind : Option Kind) → kind_of f.bytes ≡ kind → is_close kind ≡ false → is_close (kind_of f.bytes) ≡ true → fs ≡ []
not_clo f fs kind e q h = absurd (let x : true ≡ false = sym h ∙ ap is_close e ∙ q in cc)

admits_by : {site : Site} {past : Past} {kind : Kind} {flag : ℕ} {f : Frame} → IsChunk site past kind flag f → Admits site (known site past) f
admits_by c = record { size = c.size; layout = c.layout; channel = c.channel; token = c.token; number = c.number }

allowed_by : (site : Site) (past : Past) (h : Option Half) (kind : Option Kind) → Ready (known site past) h → has_number kind ≡ true → is_allowed (known site past) kind ≡ true
allowed_by site past h kind r e = allowed_ready (known site past) h kind r ∙ e

-- the sizes of a part, out of those of the whole
sizes : (site : Site) (k : Known) (id : ℕ) (done : List Frame) (p : Frame) (ps : List Frame) → k.half ≡ half_of id done → FitTheLimits site (done ++ p ∷ ps) →
    (parts_of k.half + 1 ≤ site.settings.limits.max_chunks) × (length (body_of k.half) + length (carried p).body ≤ site.settings.limits.max_message)
sizes site k id done p ps e h =
    let bodies : length (joined_body (done ++ p ∷ ps)) ≡ length (body_of k.half) + length ((carried p).body ++ joined_body ps) =
    ap length (flat_map-append (λ p. (carried p).body) done (p ∷ ps)) ∙ length-append (joined_body done) (joined_body (p ∷ ps)) ∙ ap (λ b. length b + length (joined_body (p ∷ ps))) (sym (ap body_of e ∙ half_bodies id done)) in
    let counts : parts_of k.half ≡ length done = ap parts_of e ∙ half_counts id done in (
      omega (arith, h.0, counts, length-append done (p ∷ ps)),
      omega (arith, h.1, bodies, length-append (carried p).body (joined_body ps)),
    )

-- parts are faultless, and what follows them
parts_then : (site : Site) (past : Past) (id : ℕ) (done parts ys : List Frame) → Ready (known site past) (half_of id done) → AreParts site past id parts → FitTheLimits site (done ++ parts) →
    (Ready (known site (newest_first parts past)) (half_of id (done ++ parts)) → AreFine site (newest_first parts past) ys) → AreFine site past (parts ++ ys)
parts_then site past id done [] ys r h l then = then (subst (λ d. Ready (known site past) (half_of id d)) (sym (append-nil done)) r)
parts_then site past id done (p ∷ ps) ys r h l then =
    let c = h.0 in
    let size = sizes site (known site past) id done p ps r.half l in
    let part : Part site (known site past) 67 p = record {
      admits = admits_by c;
      opened = allowed_by site past (half_of id done) (Some kinds.Message) r refl;
      id = ap (λ o. may_have_id o (carried p).request_id) r.half ∙ ap (λ i. may_have_id (half_of id done) i) h.1 ∙ half_ids id done;
      count = λ _. size.0;
      bytes = λ _. size.1;
      abort = λ e. absurd (cc);
      request = λ e. absurd (cc);
    } in
    let more : done ++ p ∷ ps ≡ (done ++ p ∷ []) ++ ps = sym (append_assoc done (p ∷ []) ps) in (
      fine_by site (known site past) p (Some kinds.Message) 67 c.size.whole c.kind_is c.flag_is (part_rows site (known site past) p 67 refl part),
      not_clo p (ps ++ ys) (Some kinds.Message) c.kind_is refl,
      parts_then site (p ∷ past) id (done ++ p ∷ []) ps ys (part_ready site past p id done c.kind_is c.flag_is h.1 r) h.2 (subst (FitTheLimits site) more l)
          (λ r. then (subst (λ d. Ready (known site (newest_first ps (p ∷ past))) (half_of id d)) (sym more) r)),
    )

fit_front : (site : Site) (parts : List Frame) (f : Frame) → FitTheLimits site (parts ++ f ∷ []) → FitTheLimits site parts
fit_front site parts f h = (
  omega (arith, h.0, length-append parts (f ∷ [])),
  omega (arith, h.1, ap length (flat_map-append (λ p. (carried p).body) parts (f ∷ [])), length-append (joined_body parts) (joined_body (f ∷ []))),
)

-- an open request as it is awaited: at first to channel 0 and to issue, and later to the channel and to renew
opening_at : (site : Site) (past : Past) (f : Frame) (first : Bool) → is_allowed (known site past) (Some kinds.Open) ≡ true → (length (known site past).tokens == 0) ≡ first → (known site past).half ≡ None →
    IsOpening site past (cond first 0 site.channel) (cond first 0 1) f → OpenAt site (known site past) f
opening_at site past f first allowed tokens half o = record {
  size = o.size;
  allowed = allowed;
  opening = o.opening;
  layout = o.layout;
  channel_id = o.channel_id ∙ ap (λ b. cond b 0 site.channel) (sym tokens);
  policy = o.policy;
  number = o.number;
  half = ap is_some half;
  request = o.request;
  body = o.body;
  request_type = o.request_type ∙ ap (λ b. pos (cond b 0 1)) (sym tokens);
  mode = o.mode;
  unspent = o.unspent;
}

open_at : (site : Site) (past : Past) (f : Frame) → Ready (known site past) None → IsOpening site past site.channel 1 f → OpenAt site (known site past) f
open_at site past f r o = opening_at site past f false (allowed_by site past None (Some kinds.Open) r refl) r.tokens r.half o

last_fine : (site : Site) (past : Past) (id : ℕ) (parts : List Frame) (f : Frame) → Ready (known site (newest_first parts past)) (half_of id parts) → IsMessage site past parts f → id ≡ (carried f).request_id → Fine site (known site (newest_first parts past)) f
last_fine site past id parts f r m e =
    let k = known site (newest_first parts past) in
    let c = m.last_is in
    let size = sizes site k id parts f [] r.half m.limits in
    let body : body_of k.half ++ (carried f).body ≡ joined_body (parts ++ f ∷ []) =
    ap (λ o. body_of o ++ (carried f).body) r.half ∙ (λ i. half_bodies id parts i ++ sym (append-nil (carried f).body) i) ∙ sym (flat_map-append (λ p. (carried p).body) parts (f ∷ [])) in
    fine_by site k f (Some kinds.Message) 70 c.size.whole c.kind_is c.flag_is (part_rows site k f 70 refl (record {
      admits = admits_by c;
      opened = allowed_by site (newest_first parts past) (half_of id parts) (Some kinds.Message) r refl;
      id = ap (λ o. may_have_id o (carried f).request_id) r.half ∙ ap (λ i. may_have_id (half_of id parts) i) (sym e) ∙ half_ids id parts;
      count = λ _. size.0;
      bytes = λ _. size.1;
      abort = λ e. absurd (cc);
      request = λ _. ap (λ b. is_some (request_of b)) body ∙ m.request;
    }))

abort_fine : (site : Site) (past : Past) (id : ℕ) (parts : List Frame) (f : Frame) → Ready (known site (newest_first parts past)) (half_of id parts) → IsDropped site past parts f → id ≡ (carried f).request_id → Fine site (known site (newest_first parts past)) f
abort_fine site past id parts f r m e =
    let k = known site (newest_first parts past) in
    let c = m.last_is in
    fine_by site k f (Some kinds.Message) 65 c.size.whole c.kind_is c.flag_is (part_rows site k f 65 refl (record {
      admits = admits_by c;
      opened = allowed_by site (newest_first parts past) (half_of id parts) (Some kinds.Message) r refl;
      id = ap (λ o. may_have_id o (carried f).request_id) r.half ∙ ap (λ i. may_have_id (half_of id parts) i) (sym e) ∙ half_ids id parts;
      count = λ e. absurd (cc);
      bytes = λ e. absurd (cc);
      abort = λ _. m.abort;
      request = λ e. absurd (cc);
    }))

close_fine : (site : Site) (past : Past) (parts : List Frame) (f : Frame) (h : IsClose site past parts f) → Ready (known site (newest_first parts past)) (half_of h.id parts) → Fine site (known site (newest_first parts past)) f
close_fine site past parts f h r =
    fine_by site (known site (newest_first parts past)) f (Some kinds.Close) 70 h.close_is.size.whole h.close_is.kind_is h.close_is.flag_is (close_rows_no site (known site (newest_first parts past)) f (record {
      admits = admits_by h.close_is;
      opened = allowed_by site (newest_first parts past) (half_of h.id parts) (Some kinds.Close) r refl;
      close = h.body;
    }))

-- a last MSG behind parts, and what follows it
behind_last : (site : Site) (past : Past) (parts : List Frame) (f : Frame) (flag : ℕ) (ys : List Frame) → AreParts site past (carried f).request_id parts → FitTheLimits site parts → kind_of f.bytes ≡ Some kinds.Message → flag_of f.bytes ≡ flag → (flag == 70 || flag == 65) ≡ true →
    Ready (known site past) None → (Ready (known site (newest_first parts past)) (half_of (carried f).request_id parts) → Fine site (known site (newest_first parts past)) f) →
    (Ready (known site (newest_first (parts ++ f ∷ []) past)) None → AreFine site (newest_first (parts ++ f ∷ []) past) ys) → AreFine site past ((parts ++ f ∷ []) ++ ys)
behind_last site past parts f flag ys h l kind q n r fine then =
    subst (AreFine site past) (sym (append_assoc parts (f ∷ []) ys))
    (parts_then site past (carried f).request_id [] parts (f ∷ ys) r h l (λ r. (
      fine r,
      not_clo f ys (Some kinds.Message) kind refl,
      subst (λ p. AreFine site p ys) (newest_last parts f past)
          (then (subst (λ p. Ready (known site p) None) (sym (newest_last parts f past)) (last_ready site (newest_first parts past) f flag (half_of (carried f).request_id parts) kind q n r))),
    )))

turn_first : (site : Site) (past : Past) (t : Turn) (ys : List Frame) → Ready (known site past) None → IsTurn site past t →
    (Ready (known site (newest_first (turn_frames t) past)) None → AreFine site (newest_first (turn_frames t) past) ys) → AreFine site past (turn_frames t ++ ys)
turn_first site past (Renewal f) ys r h then = (
  fine_by site (known site past) f (Some kinds.Open) 70 h.size.whole h.kind h.flag (open_rows_no site (known site past) f (open_at site past f r h)),
  not_clo f ys (Some kinds.Open) h.kind refl,
  then (opn_ready site past f h.kind r.limits r.room r.half),
)
turn_first site past (Message parts f) ys r h then =
    behind_last site past parts f 70 ys h.parts_are (fit_front site parts f h.limits) h.last_is.kind_is h.last_is.flag_is refl r (λ r. last_fine site past (carried f).request_id parts f r h refl) then
turn_first site past (Dropped parts f) ys r h then =
    behind_last site past parts f 65 ys h.parts_are h.limits h.last_is.kind_is h.last_is.flag_is refl r (λ r. abort_fine site past (carried f).request_id parts f r h refl) then

tail_fine : (site : Site) (past : Past) (tail : Tail) → Ready (known site past) None → IsTail site past tail → AreFine site past (tail_frames tail)
tail_fine site past NoTail r h = tt
tail_fine site past (Close parts f) r h = parts_then site past h.id [] parts (f ∷ []) r h.parts_are h.limits (λ r. (close_fine site past parts f h r, λ _. refl, tt))

turns_fine : (site : Site) (past : Past) (ts : List Turn) (tail : Tail) → Ready (known site past) None → AreTurns site past ts → IsTail site (newest_first (all_frames ts) past) tail → AreFine site past (all_frames ts ++ tail_frames tail)
turns_fine site past [] tail r h k = tail_fine site past tail r k
turns_fine site past (t ∷ ts) tail r h k =
    subst (AreFine site past) (sym (append_assoc (turn_frames t) (all_frames ts) (tail_frames tail)))
    (turn_first site past t (all_frames ts ++ tail_frames tail) r h.0
    (λ r. turns_fine site (newest_first (turn_frames t) past) ts tail r h.1 (subst (λ p. IsTail site p tail) (newest_append (turn_frames t) (all_frames ts) past) k)))

hello_at : (site : Site) (f : Frame) → IsHello site f → HelloAt site (known site []) f
hello_at site f i = record {
  size = i.size;
  allowed = ap (λ b. cond b true (cond (length (known site []).tokens == 0) false false)) (at_first site);
  hello = i.hello;
  layout = i.layout;
  url = i.url;
  receive = i.receive;
  send = i.send;
}

first_open_at : (site : Site) (h o : Frame) → IsHello site h → IsOpening site (h ∷ []) 0 0 o → OpenAt site (known site (h ∷ [])) o
first_open_at site h f i o =
    let g = at_second site h i.hello i.kind i.layout in
    opening_at site (h ∷ []) f true (λ j. cond (g.limits j) false (cond (g.tokens j) true true)) g.tokens g.half o

-- a legal list has no fault
pub legal_fine : (site : Site) → 8192 ≤ site.settings.limits.receive → (fs : List Frame) → IsLegal site fs → AreFine site [] fs
legal_fine site v fs l =
    subst (AreFine site []) (sym l.frames) (
      fine_by site (known site []) l.hello (Some kinds.Hello) 70 l.hello_is.size.whole l.hello_is.kind l.hello_is.flag (hello_rows_no site (known site []) l.hello (hello_at site l.hello l.hello_is)),
      not_clo l.hello _ (Some kinds.Hello) l.hello_is.kind refl,
      (
        fine_by site (known site (l.hello ∷ [])) l.opening (Some kinds.Open) 70 l.opening_is.size.whole l.opening_is.kind l.opening_is.flag (open_rows_no site (known site (l.hello ∷ [])) l.opening (first_open_at site l.hello l.opening l.hello_is l.opening_is)),
        not_clo l.opening _ (Some kinds.Open) l.opening_is.kind refl,
        turns_fine site (l.opening ∷ l.hello ∷ []) l.turns l.tail (opened site l.hello l.opening v l.hello_is l.opening_is) l.turns_are l.tail_is,
      ),
    )

pub legal_law : (site : Site) → HasRoom site → Opens site → BeginsLegal site
legal_law site room comp fs whole = (
  (λ h. beginning site room comp fs (fine_all site [] fs whole h)),
  (λ b. faultless_all site [] fs (cut site [] fs b.0 (legal_fine site room (fs ++ b.0) b.1))),
)
