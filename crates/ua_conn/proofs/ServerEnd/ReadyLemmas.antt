-- What is known behind an opening, and behind the parts of a half received message.
use Rattle.std.proofs.Common.{◌≡◌, ℕ, suc, ◌+◌, ◌≤◌, true, false, cond, ◌||◌, ◌==◌, List, [], ◌∷◌, ◌++◌, length, take, Option, Some, None, is_none, refl, sym, ap, subst, ◌∙◌, arith, inl, inr}
use Rattle.std.proofs.lemmas.List.{append-nil, length-append}
use Rattle.std.proofs.lemmas.List.Concat.{flat_map-append}
use Rattle.std.proofs.lemmas.Bool.Decides.{eqb_tells}
use Rattle.std.proofs.lemmas.Bool.{eq-eqb}
use Rattle.ua_frame.specs.Layout.{Frame, kind_of, flag_of}
use Rattle.ua_frame.specs.declared.kind.Kind.{Kind}
use Rattle.ua_frame.specs.declared.kind.Kind.TheVariants as kinds
use Rattle.ua_chunk.specs.Half.{Half, with_part, body_of, parts_of, may_have_id}
use Rattle.ua_conn.specs.server.Site.{Site}
use Rattle.ua_conn.specs.Past.{Past, Known, known, is_hello, is_open, is_message, has_number, carried, limits_of}
use Rattle.ua_conn.specs.server.Faults.{is_allowed, greatest_frame}
use Rattle.ua_conn.specs.server.Held.{newest_first}
use Rattle.ua_conn.specs.server.Legal.{joined_body}
use Rattle.ua_conn.specs.server.Machine.{known_after, token_after, half_then}
use Rattle.ua_conn.proofs.ServerEnd.KnownLemmas.{known_step}

-- the half received message of these parts
abbrev pub half_of : ℕ → List Frame → Option Half
half_of id [] = None
half_of id (p ∷ ps) = Some (record { id = id; body = joined_body (p ∷ ps); parts = length (p ∷ ps) })

pub record Ready (k : Known) (h : Option Half) : Type 0 where
  pub limits : is_none k.limits ≡ false
  pub room : 8192 ≤ greatest_frame k.limits
  pub tokens : (length k.tokens == 0) ≡ false
  pub half : k.half ≡ h

pub newest_append : (xs ys : List Frame) (past : Past) → newest_first (xs ++ ys) past ≡ newest_first ys (newest_first xs past)
newest_append [] ys past = refl
newest_append (x ∷ xs) ys past = newest_append xs ys (x ∷ past)

pub newest_last : (parts : List Frame) (f : Frame) (past : Past) → newest_first (parts ++ f ∷ []) past ≡ f ∷ newest_first parts past
newest_last parts f past = newest_append parts (f ∷ []) past

pub half_more : (id : ℕ) (parts : List Frame) (p : Frame) → (carried p).request_id ≡ id → Some (with_part (half_of id parts) (carried p).request_id (carried p).body) ≡ half_of id (parts ++ p ∷ [])
half_more id [] p e = λ i. Some (record { id = e i; body = sym (append-nil (carried p).body) i; parts = 1 })
half_more id (q ∷ ps) p e = λ i. Some (record { id = id; body = bodies i; parts = count i })
  where
    bodies : joined_body (q ∷ ps) ++ (carried p).body ≡ joined_body (q ∷ (ps ++ p ∷ []))
    bodies = ap (λ b. joined_body (q ∷ ps) ++ b) (sym (append-nil (carried p).body)) ∙ sym (flat_map-append (λ f. (carried f).body) (q ∷ ps) (p ∷ []))

    count : length (q ∷ ps) + 1 ≡ length (q ∷ (ps ++ p ∷ []))
    count = omega (arith, length-append ps (p ∷ []))

pub half_bodies : (id : ℕ) (parts : List Frame) → body_of (half_of id parts) ≡ joined_body parts
half_bodies id [] = refl
half_bodies id (p ∷ ps) = refl

pub half_counts : (id : ℕ) (parts : List Frame) → parts_of (half_of id parts) ≡ length parts
half_counts id [] = refl
half_counts id (p ∷ ps) = refl

pub half_ids : (id : ℕ) (parts : List Frame) → may_have_id (half_of id parts) id ≡ true
half_ids id [] = refl
half_ids id (p ∷ ps) = eq-eqb id id refl

pub allowed_ready : (k : Known) (h : Option Half) (kind : Option Kind) → Ready k h → is_allowed k kind ≡ has_number kind
allowed_ready k h kind r = λ i. cond (r.limits i) (is_hello kind) (cond (r.tokens i) (is_open kind) (has_number kind))

-- one frame more
pub msg_limits : (site : Site) (past : Past) (f : Frame) → kind_of f.bytes ≡ Some kinds.Message → (known site (f ∷ past)).limits ≡ (known site past).limits
unfolding known_after
msg_limits site past f e = ap (λ (k : Known). k.limits) (known_step site f past) ∙ ap (λ κ. cond (is_hello κ) (limits_of site f) (known site past).limits) e

pub msg_tokens : (site : Site) (past : Past) (f : Frame) → kind_of f.bytes ≡ Some kinds.Message → (known site (f ∷ past)).tokens ≡ (known site past).tokens
unfolding known_after
msg_tokens site past f e = ap (λ (k : Known). k.tokens) (known_step site f past) ∙ ap (λ κ. cond (is_open κ) (take 2 (token_after (known site past).tokens f ∷ (known site past).tokens)) (known site past).tokens) e

msg_half : (site : Site) (past : Past) (f : Frame) (flag : ℕ) → kind_of f.bytes ≡ Some kinds.Message → flag_of f.bytes ≡ flag →
    (known site (f ∷ past)).half ≡ cond (flag == 70 || flag == 65) None (Some (with_part (known site past).half (carried f).request_id (carried f).body))
unfolding known_after
msg_half site past f flag e q = ap (λ (k : Known). k.half) (known_step site f past)
    ∙ (λ i. cond (is_message (e i)) (cond (q i == 70 || q i == 65) None (Some (with_part (known site past).half (carried f).request_id (carried f).body))) (known site past).half)

pub part_ready : (site : Site) (past : Past) (f : Frame) (id : ℕ) (parts : List Frame) → kind_of f.bytes ≡ Some kinds.Message → flag_of f.bytes ≡ 67 → (carried f).request_id ≡ id →
    Ready (known site past) (half_of id parts) → Ready (known site (f ∷ past)) (half_of id (parts ++ f ∷ []))
part_ready site past f id parts e q n r = record {
  limits = ap is_none (msg_limits site past f e) ∙ r.limits;
  room = subst (λ l. 8192 ≤ greatest_frame l) (sym (msg_limits site past f e)) r.room;
  tokens = ap (λ ts. length ts == 0) (msg_tokens site past f e) ∙ r.tokens;
  half = msg_half site past f 67 e q ∙ ap (λ h. Some (with_part h (carried f).request_id (carried f).body)) r.half ∙ half_more id parts f n;
}

pub last_ready : (site : Site) (past : Past) (f : Frame) (flag : ℕ) (h : Option Half) → kind_of f.bytes ≡ Some kinds.Message → flag_of f.bytes ≡ flag → (flag == 70 || flag == 65) ≡ true →
    Ready (known site past) h → Ready (known site (f ∷ past)) None
last_ready site past f flag h e q n r = record {
  limits = ap is_none (msg_limits site past f e) ∙ r.limits;
  room = subst (λ l. 8192 ≤ greatest_frame l) (sym (msg_limits site past f e)) r.room;
  tokens = ap (λ ts. length ts == 0) (msg_tokens site past f e) ∙ r.tokens;
  half = msg_half site past f flag e q ∙ ap (λ v. cond v None (Some (with_part (known site past).half (carried f).request_id (carried f).body))) n;
}

not_zero : (n : ℕ) → (suc n == 0) ≡ false
not_zero n = elim (eqb_tells (suc n) 0) [ inl h ↦ absurd (omega (arith, h.1)) | inr h ↦ h.0 ]

opn_tokens : (site : Site) (past : Past) (f : Frame) → kind_of f.bytes ≡ Some kinds.Open → (length (known site (f ∷ past)).tokens == 0) ≡ false
unfolding known_after
opn_tokens site past f e = ap (λ (k : Known). length k.tokens == 0) (known_step site f past)
    ∙ ap (λ κ. length (cond (is_open κ) (take 2 (token_after (known site past).tokens f ∷ (known site past).tokens)) (known site past).tokens) == 0) e
    ∙ not_zero (length (take 1 (known site past).tokens))

pub opn_ready : (site : Site) (past : Past) (f : Frame) → kind_of f.bytes ≡ Some kinds.Open → is_none (known site past).limits ≡ false → 8192 ≤ greatest_frame (known site past).limits → (known site past).half ≡ None → Ready (known site (f ∷ past)) None
unfolding known_after
opn_ready site past f e l room h = record {
  limits = ap (λ (k : Known). is_none k.limits) (known_step site f past) ∙ ap (λ κ. is_none (cond (is_hello κ) (limits_of site f) (known site past).limits)) e ∙ l;
  room = subst (λ l. 8192 ≤ greatest_frame l) (sym (ap (λ (k : Known). k.limits) (known_step site f past) ∙ ap (λ κ. cond (is_hello κ) (limits_of site f) (known site past).limits) e)) room;
  tokens = opn_tokens site past f e;
  half = ap (λ (k : Known). k.half) (known_step site f past)
      ∙ ap (λ κ. cond (is_message κ) (half_then (known site past).half f) (known site past).half) e ∙ h;
}
