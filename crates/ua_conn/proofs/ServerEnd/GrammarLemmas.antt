-- A list of frames without a fault is a beginning of a legal one.
use Rattle.std.proofs.Common.{◌≡◌, ℕ, ◌+◌, ◌≤◌, Bool, true, false, cond, not, ◌||◌, ◌==◌, List, [], ◌∷◌, ◌++◌, length, Option, Some, None, is_some, refl, sym, ap, subst, ◌∙◌, arith, append_assoc, ◌⊎◌, inl, inr}
use Rattle.std.proofs.lemmas.List.{append-nil, length-append}
use Rattle.std.proofs.lemmas.List.Concat.{flat_map-append}
use Rattle.std.proofs.lemmas.Bool.{eqb-true, not-false}
use Rattle.ua_frame.specs.Layout.{Frame, kind_of, flag_of}
use Rattle.ua_frame.specs.declared.kind.Kind.{Kind}
use Rattle.ua_frame.specs.declared.kind.Kind.TheVariants as kinds
use Rattle.ua_chunk.specs.Half.{Half, body_of, parts_of, may_have_id}
use Rattle.std.specs.Prelude.{pos}
use Rattle.ua_conn.specs.server.Site.{Site}
use Rattle.ua_conn.specs.Past.{Past, Known, known, has_number, is_close, carried}
use Rattle.ua_conn.specs.server.Held.{newest_first}
use Rattle.ua_conn.specs.server.Legal.{joined_body, IsChunk, IsOpening, AreParts, FitTheLimits, Turn, Renewal, Message, Dropped, turn_frames, IsTurn, AreTurns, all_frames, Tail, NoTail, Close, tail_frames, IsTail, CanDrop}
use Rattle.ua_conn.proofs.ServerEnd.RowLemmas.{Fine, AreFine, tells, Admits, Part, part_tells, close_tells, OpenAt, open_tells}
use Rattle.ua_conn.proofs.ServerEnd.AbortLemmas.{can_drop}
use Rattle.ua_conn.proofs.ServerEnd.ReadyLemmas.{half_of, Ready, newest_last, half_bodies, half_counts, allowed_ready, part_ready, last_ready, opn_ready, newest_append}
use Rattle.ua_service.specs.ChannelMessages.{close_of}
use Rattle.ua_service.specs.Requests.{request_of}

-- what follows past0 is a beginning of turns and a tail
pub record Grown (site : Site) (past : Past) (fs : List Frame) : Type 0 where
  pub more : List Frame
  pub turns : List Turn
  pub tail : Tail
  pub frames : fs ++ more ≡ all_frames turns ++ tail_frames tail
  pub turns_are : AreTurns site past turns
  pub tail_is : IsTail site (newest_first (all_frames turns) past) tail

chunk_by : (site : Site) (past : Past) (kind : Kind) (flag : ℕ) (f : Frame) → kind_of f.bytes ≡ Some kind → flag_of f.bytes ≡ flag → Admits site (known site past) f → IsChunk site past kind flag f
chunk_by site past kind flag f e q a = record { kind_is = e; flag_is = q; size = a.size; layout = a.layout; channel = a.channel; token = a.token; number = a.number }

pub parts_more : (site : Site) (past : Past) (id : ℕ) (parts : List Frame) (f : Frame) → AreParts site past id parts → IsChunk site (newest_first parts past) kinds.Message 67 f → (carried f).request_id ≡ id → AreParts site past id (parts ++ f ∷ [])
parts_more site past id [] f h c e = (c, e, tt)
parts_more site past id (p ∷ ps) f h c e = (h.0, h.1, parts_more site (p ∷ past) id ps f h.2 c e)

-- a part with another id cannot come
same_id : (site : Site) (past : Past) (id x : ℕ) (parts : List Frame) → may_have_id (half_of id parts) x ≡ true → AreParts site past id parts → AreParts site past x parts × (half_of id parts ≡ half_of x parts)
same_id site past id x [] h k = (tt, refl)
same_id site past id x (p ∷ ps) h k = let e : id ≡ x = eqb-true _ _ h in (subst (λ i. AreParts site past i (p ∷ ps)) e k, ap (λ i. half_of i (p ∷ ps)) e)

fit_more : (site : Site) (id : ℕ) (parts : List Frame) (f : Frame) → parts_of (half_of id parts) + 1 ≤ site.settings.limits.max_chunks → length (body_of (half_of id parts)) + length (carried f).body ≤ site.settings.limits.max_message → FitTheLimits site (parts ++ f ∷ [])
fit_more site id parts f h k = (
  omega (arith, h, half_counts id parts, length-append parts (f ∷ [])),
  subst (λ n. n ≤ site.settings.limits.max_message) (sym bodies) k,
)
  where
    bodies : length (joined_body (parts ++ f ∷ [])) ≡ length (body_of (half_of id parts)) + length (carried f).body
    bodies = ap length (flat_map-append (λ p. (carried p).body) parts (f ∷ []) ∙ (λ i. sym (half_bodies id parts) i ++ append-nil (carried f).body i)) ∙ length-append (body_of (half_of id parts)) (carried f).body

fit_none : (site : Site) → FitTheLimits site []
fit_none site = (omega arith, omega arith)

flags : (flag : ℕ) → (flag == 67 || flag == 70 || flag == 65) ≡ true → (flag ≡ 67) ⊎ ((flag ≡ 70) ⊎ (flag ≡ 65))
flags flag h = by_tests (flag == 67) (flag == 70) (flag == 65) refl refl refl h
  where
    by_tests : (a b c : Bool) → (flag == 67) ≡ a → (flag == 70) ≡ b → (flag == 65) ≡ c → (a || b || c) ≡ true → (flag ≡ 67) ⊎ ((flag ≡ 70) ⊎ (flag ≡ 65))
    by_tests true b c p q r h = inl (eqb-true _ _ p)
    by_tests false true c p q r h = inr (inl (eqb-true _ _ q))
    by_tests false false true p q r h = inr (inr (eqb-true _ _ r))
    by_tests false false false p q r h = absurd (cc)

no_parts : (id : ℕ) (parts : List Frame) → is_some (half_of id parts) ≡ false → parts ≡ []
no_parts id [] h = refl
no_parts id (p ∷ ps) h = absurd (cc)

-- what build is given at each place
pub record At (site : Site) (past : Past) (parts : List Frame) (id : ℕ) : Type 0 where
  pub ready : Ready (known site (newest_first parts past)) (half_of id parts)
  pub parts_are : AreParts site past id parts
  pub limits : FitTheLimits site parts
  pub can_drop : (parts ≡ []) ⊎ CanDrop site (newest_first parts past) id

-- nothing more came
stop_here : (site : Site) (past : Past) (parts : List Frame) (id : ℕ) → At site past parts id → (parts ≡ []) ⊎ CanDrop site (newest_first parts past) id → Grown site past (parts ++ [])
stop_here site past parts id at (inl e) = record { more = []; turns = []; tail = NoTail; frames = ap (λ ps. (ps ++ []) ++ []) e; turns_are = tt; tail_is = tt }
stop_here site past parts id at (inr (a, chunk, same, abort)) = record {
  more = a ∷ [];
  turns = Dropped parts a ∷ [];
  tail = NoTail;
  frames = ap (λ ps. ps ++ a ∷ []) (append-nil parts) ∙ sym (append-nil (parts ++ a ∷ [])) ∙ sym (append-nil ((parts ++ a ∷ []) ++ []));
  turns_are = (record { parts_are = subst (λ i. AreParts site past i parts) (sym same) at.parts_are; last_is = chunk; limits = at.limits; abort = abort }, tt);
  tail_is = tt;
}

-- a turn is whole
pub turn_then : (site : Site) (past : Past) (t : Turn) (fs : List Frame) → IsTurn site past t → Grown site (newest_first (turn_frames t) past) fs → Grown site past (turn_frames t ++ fs)
turn_then site past t fs h g = record {
  more = g.more;
  turns = t ∷ g.turns;
  tail = g.tail;
  frames = append_assoc (turn_frames t) fs g.more ∙ ap (λ l. turn_frames t ++ l) g.frames ∙ sym (append_assoc (turn_frames t) (all_frames g.turns) (tail_frames g.tail));
  turns_are = (h, g.turns_are);
  tail_is = subst (λ p. IsTail site p g.tail) (sym (newest_append (turn_frames t) (all_frames g.turns) past)) g.tail_is;
}

-- a CLO came
close_here : (site : Site) (past : Past) (parts : List Frame) (id : ℕ) (f : Frame) → At site past parts id → IsChunk site (newest_first parts past) kinds.Close 70 f → is_some (close_of (carried f).body) ≡ true → Grown site past (parts ++ f ∷ [])
close_here site past parts id f at c b = record {
  more = [];
  turns = [];
  tail = Close parts f;
  frames = append-nil (parts ++ f ∷ []);
  turns_are = tt;
  tail_is = record { id = id; parts_are = at.parts_are; limits = at.limits; close_is = c; body = b };
}

abbrev pub Build : Site → List Frame → Type 0
Build site fs = (past : Past) (parts : List Frame) (id : ℕ) → At site past parts id → AreFine site (newest_first parts past) fs → Grown site past (parts ++ fs)

-- behind a whole message nothing is half received
pub start_at : (site : Site) (past : Past) → Ready (known site past) None → At site past [] 0
start_at site past r = record { ready = r; parts_are = tt; limits = fit_none site; can_drop = inl refl }

last_turn : (site : Site) (fs : List Frame) → Build site fs → (past : Past) (parts : List Frame) (id flag : ℕ) (f : Frame) (t : Turn) → turn_frames t ≡ parts ++ f ∷ [] → IsTurn site past t →
    At site past parts id → kind_of f.bytes ≡ Some kinds.Message → flag_of f.bytes ≡ flag → (flag == 70 || flag == 65) ≡ true → AreFine site (f ∷ newest_first parts past) fs → Grown site past (parts ++ f ∷ fs)
last_turn site fs rec past parts id flag f t e h at kind q n rest =
    let behind : newest_first (turn_frames t) past ≡ f ∷ newest_first parts past = ap (λ l. newest_first l past) e ∙ newest_last parts f past in
    let ready : Ready (known site (newest_first (turn_frames t) past)) None = subst (λ p. Ready (known site p) None) (sym behind) (last_ready site (newest_first parts past) f flag (half_of id parts) kind q n at.ready) in
    let g = turn_then site past t fs h (rec (newest_first (turn_frames t) past) [] 0 (start_at site _ ready) (subst (λ p. AreFine site p fs) (sym behind) rest)) in
    subst (Grown site past) (ap (λ l. l ++ fs) e ∙ append_assoc parts (f ∷ []) fs) g

id_at : (site : Site) (past : Past) (parts : List Frame) (id x : ℕ) → At site past parts id → may_have_id (known site (newest_first parts past)).half x ≡ true →
    AreParts site past x parts × Ready (known site (newest_first parts past)) (half_of x parts)
id_at site past parts id x at h =
    let s = same_id site past id x parts (ap (λ o. may_have_id o x) (sym at.ready.half) ∙ h) at.parts_are in
    (s.0, record { limits = at.ready.limits; room = at.ready.room; tokens = at.ready.tokens; half = at.ready.half ∙ s.1 })

limits_at : (site : Site) (past : Past) (parts : List Frame) (x flag : ℕ) (f : Frame) → Ready (known site (newest_first parts past)) (half_of x parts) → not (flag == 65) ≡ true → Part site (known site (newest_first parts past)) flag f → FitTheLimits site (parts ++ f ∷ [])
limits_at site past parts x flag f r n p =
    fit_more site x parts f (subst (λ o. parts_of o + 1 ≤ site.settings.limits.max_chunks) r.half (p.count n)) (subst (λ o. length (body_of o) + length (carried f).body ≤ site.settings.limits.max_message) r.half (p.bytes n))

build_part : (site : Site) → (fs : List Frame) → Build site fs → (past : Past) (parts : List Frame) (id : ℕ) (f : Frame) → At site past parts id → kind_of f.bytes ≡ Some kinds.Message → flag_of f.bytes ≡ 67 →
    Part site (known site (newest_first parts past)) 67 f → AreFine site (f ∷ newest_first parts past) fs → Grown site past (parts ++ f ∷ fs)
build_part site fs rec past parts id f at kind q p rest =
    let x = (carried f).request_id in
    let s = id_at site past parts id x at p.id in
    let c = chunk_by site (newest_first parts past) kinds.Message 67 f kind q p.admits in
    let behind = newest_last parts f past in
    let next : At site past (parts ++ f ∷ []) x = record {
      ready = subst (λ p. Ready (known site p) (half_of x (parts ++ f ∷ []))) (sym behind) (part_ready site (newest_first parts past) f x parts kind q refl s.1);
      parts_are = parts_more site past x parts f s.0 c refl;
      limits = limits_at site past parts x 67 f s.1 refl p;
      can_drop = inr (subst (λ p. CanDrop site p x) (sym behind) (can_drop site (newest_first parts past) f at.ready.room c));
    } in
    subst (Grown site past) (append_assoc parts (f ∷ []) fs) (rec past (parts ++ f ∷ []) x next (subst (λ p. AreFine site p fs) (sym behind) rest))

build_last : (site : Site) (fs : List Frame) → Build site fs → (past : Past) (parts : List Frame) (id : ℕ) (f : Frame) → At site past parts id → kind_of f.bytes ≡ Some kinds.Message → flag_of f.bytes ≡ 70 →
    Part site (known site (newest_first parts past)) 70 f → AreFine site (f ∷ newest_first parts past) fs → Grown site past (parts ++ f ∷ fs)
build_last site fs rec past parts id f at kind q p rest =
    let x = (carried f).request_id in
    let s = id_at site past parts id x at p.id in
    let body : body_of (known site (newest_first parts past)).half ++ (carried f).body ≡ joined_body (parts ++ f ∷ []) =
    ap (λ o. body_of o ++ (carried f).body) s.1.half ∙ (λ i. half_bodies x parts i ++ sym (append-nil (carried f).body) i) ∙ sym (flat_map-append (λ p. (carried p).body) parts (f ∷ [])) in
    last_turn site fs rec past parts id 70 f (Message parts f) refl
    (record {
      parts_are = s.0;
      last_is = chunk_by site (newest_first parts past) kinds.Message 70 f kind q p.admits;
      limits = limits_at site past parts x 70 f s.1 refl p;
      request = ap (λ b. is_some (request_of b)) (sym body) ∙ p.request refl;
    })
    at kind q refl rest

build_abort : (site : Site) (fs : List Frame) → Build site fs → (past : Past) (parts : List Frame) (id : ℕ) (f : Frame) → At site past parts id → kind_of f.bytes ≡ Some kinds.Message → flag_of f.bytes ≡ 65 →
    Part site (known site (newest_first parts past)) 65 f → AreFine site (f ∷ newest_first parts past) fs → Grown site past (parts ++ f ∷ fs)
build_abort site fs rec past parts id f at kind q p rest =
    let x = (carried f).request_id in
    let s = id_at site past parts id x at p.id in
    last_turn site fs rec past parts id 65 f (Dropped parts f) refl
    (record { parts_are = s.0; last_is = chunk_by site (newest_first parts past) kinds.Message 65 f kind q p.admits; limits = at.limits; abort = p.abort refl })
    at kind q refl rest

build_msg : (site : Site) → (fs : List Frame) → Build site fs → (past : Past) (parts : List Frame) (id : ℕ) (f : Frame) → At site past parts id → kind_of f.bytes ≡ Some kinds.Message →
    Fine site (known site (newest_first parts past)) f → AreFine site (f ∷ newest_first parts past) fs → Grown site past (parts ++ f ∷ fs)
build_msg site fs rec past parts id f at kind h rest =
    let k = known site (newest_first parts past) in
    elim (flags (flag_of f.bytes) (not-false _ (tells site k f (Some kinds.Message) (flag_of f.bytes) kind refl h).1.0)) [
      | inl q ↦ build_part site fs rec past parts id f at kind q (part_tells site k f 67 h.whole (tells site k f (Some kinds.Message) 67 kind q h)) rest
      | inr (inl q) ↦ build_last site fs rec past parts id f at kind q (part_tells site k f 70 h.whole (tells site k f (Some kinds.Message) 70 kind q h)) rest
      | inr (inr q) ↦ build_abort site fs rec past parts id f at kind q (part_tells site k f 65 h.whole (tells site k f (Some kinds.Message) 65 kind q h)) rest
    ]

opening_by : (site : Site) (past : Past) (f : Frame) → kind_of f.bytes ≡ Some kinds.Open → flag_of f.bytes ≡ 70 → (length (known site past).tokens == 0) ≡ false → OpenAt site (known site past) f → IsOpening site past site.channel 1 f
opening_by site past f e q t o = record {
  kind = e;
  flag = q;
  size = o.size;
  opening = o.opening;
  layout = o.layout;
  channel_id = o.channel_id ∙ ap (λ b. cond b 0 site.channel) t;
  policy = o.policy;
  number = o.number;
  request = o.request;
  body = o.body;
  request_type = o.request_type ∙ ap (λ b. pos (cond b 0 1)) t;
  mode = o.mode;
  unspent = o.unspent;
}

build_opn : (site : Site) (fs : List Frame) → Build site fs → (past : Past) (parts : List Frame) (id : ℕ) (f : Frame) → At site past parts id → kind_of f.bytes ≡ Some kinds.Open →
    Fine site (known site (newest_first parts past)) f → AreFine site (f ∷ newest_first parts past) fs → Grown site past (parts ++ f ∷ fs)
build_opn site fs rec past parts id f at kind h rest =
    let k = known site (newest_first parts past) in
    let all = tells site k f (Some kinds.Open) (flag_of f.bytes) kind refl h in
    let o = open_tells site k f (flag_of f.bytes) h.whole all in
    let none : parts ≡ [] = no_parts id parts (ap is_some (sym at.ready.half) ∙ o.half) in
    let P : List Frame → Type 0 = λ ps. Ready (known site (newest_first ps past)) (half_of id ps) → OpenAt site (known site (newest_first ps past)) f → AreFine site (f ∷ newest_first ps past) fs → Grown site past (ps ++ f ∷ fs) in
    let at_none : P [] = λ r o rest. turn_then site past (Renewal f) fs (opening_by site past f kind (eqb-true _ _ (not-false _ all.1.0)) r.tokens o)
    (rec (f ∷ past) [] 0 (start_at site (f ∷ past) (opn_ready site past f kind r.limits r.room r.half)) rest) in
    subst P (sym none) at_none at.ready o rest

build_clo : (site : Site) (fs : List Frame) (past : Past) (parts : List Frame) (id : ℕ) (f : Frame) → At site past parts id → kind_of f.bytes ≡ Some kinds.Close →
    Fine site (known site (newest_first parts past)) f → fs ≡ [] → Grown site past (parts ++ f ∷ fs)
build_clo site fs past parts id f at kind h e =
    let k = known site (newest_first parts past) in
    let all = tells site k f (Some kinds.Close) (flag_of f.bytes) kind refl h in
    let c = close_tells site k f (flag_of f.bytes) h.whole all in
    subst (λ l. Grown site past (parts ++ f ∷ l)) (sym e)
    (close_here site past parts id f at (chunk_by site (newest_first parts past) kinds.Close 70 f kind (eqb-true _ _ (not-false _ all.1.0)) c.admits) c.close)

has_no_number : (site : Site) (k : Known) (h : Option Half) (f : Frame) (kind : Option Kind) → Ready k h → kind_of f.bytes ≡ kind → Fine site k f → has_number kind ≡ true
has_no_number site k h f kind r e n = sym (allowed_ready k h kind r) ∙ not-false _ (tells site k f kind (flag_of f.bytes) e refl n).1.1.1.1.0

by_kind : (site : Site) → (fs : List Frame) → Build site fs → (past : Past) (parts : List Frame) (id : ℕ) (f : Frame) → At site past parts id → (kind : Option Kind) → kind_of f.bytes ≡ kind →
    Fine site (known site (newest_first parts past)) f → (is_close (kind_of f.bytes) ≡ true → fs ≡ []) → AreFine site (f ∷ newest_first parts past) fs → Grown site past (parts ++ f ∷ fs)
by_kind site fs rec past parts id f at (Some kinds.Message) e h c rest = build_msg site fs rec past parts id f at e h rest
by_kind site fs rec past parts id f at (Some kinds.Open) e h c rest = build_opn site fs rec past parts id f at e h rest
by_kind site fs rec past parts id f at (Some kinds.Close) e h c rest = build_clo site fs past parts id f at e h (c (ap is_close e))
by_kind site fs rec past parts id f at (Some kinds.Hello) e h c rest = absurd (let x : false ≡ true = has_no_number site _ _ f (Some kinds.Hello) at.ready e h in cc)
by_kind site fs rec past parts id f at (Some kinds.Acknowledge) e h c rest = absurd (let x : false ≡ true = has_no_number site _ _ f (Some kinds.Acknowledge) at.ready e h in cc)
by_kind site fs rec past parts id f at (Some kinds.Error) e h c rest = absurd (let x : false ≡ true = has_no_number site _ _ f (Some kinds.Error) at.ready e h in cc)
by_kind site fs rec past parts id f at (Some kinds.ReverseHello) e h c rest = absurd (let x : false ≡ true = has_no_number site _ _ f (Some kinds.ReverseHello) at.ready e h in cc)
by_kind site fs rec past parts id f at None e h c rest = absurd (let x : false ≡ true = has_no_number site _ _ f None at.ready e h in cc)

pub build : (site : Site) → (fs : List Frame) → Build site fs
build site [] past parts id at h = stop_here site past parts id at at.can_drop
build site (f ∷ fs) past parts id at h = by_kind site fs (build site fs) past parts id f at (kind_of f.bytes) refl h.0 h.1 h.2
