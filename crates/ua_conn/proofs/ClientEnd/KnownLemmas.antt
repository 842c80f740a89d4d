-- One more frame moves what a client knows by one step.
use Rattle.std.proofs.Common.{◌≡◌, ℕ, Bool, true, false, cond, List, [], ◌∷◌, map, take, Option, Some, None, refl, sym, ap, ◌∙◌}
use Rattle.std.specs.Prelude.{◌&&◌, is_some}
use Rattle.std.specs.List.{filter, find}
use Rattle.ua_frame.specs.Layout.{Frame, kind_of}
use Rattle.ua_frame.specs.declared.acknowledge.Ack.{Ack}
use Rattle.ua_chunk.specs.Half.{Half}
use Rattle.ua_channel.specs.declared.token.Token.{Token}
use Rattle.ua_conn.specs.Past.{Past, is_open, is_message, has_number, open_in}
use Rattle.ua_conn.specs.client.Past.{ClientKnown, client_known, is_acknowledge, is_acknowledge_frame, acknowledge_in, acknowledge_frame_in, or_frame, ack_by, ack_in, response_in, granted_by, channel_by, channel_named}
use Rattle.ua_conn.specs.client.Machine.{client_known_after, or_ack}
use Rattle.ua_conn.proofs.ServerEnd.KnownLemmas.{take_twice, last_by_test, half_by_test}

same_known : {a a' : Option Ack} {b b' : ℕ} {c c' : List Token} {d d' : Option ℕ} {e e' : Option Half} → a ≡ a' → b ≡ b' → c ≡ c' → d ≡ d' → e ≡ e' →
    (let k : ClientKnown = record { ack = a; channel = b; tokens = c; last = d; half = e } in let k' : ClientKnown = record { ack = a'; channel = b'; tokens = c'; last = d'; half = e' } in k ≡ k')
same_known p q r s t = λ i. record { ack = p i; channel = q i; tokens = r i; last = s i; half = t i }

-- the frame that was found has the layout of an Acknowledge
pub found : (past : Past) (f : Frame) → acknowledge_frame_in past ≡ Some f → (ack : Ack) × (acknowledge_in f ≡ Some ack)
found [] f e = absurd (cc e)
found (g ∷ past) f e = by (acknowledge_frame_in past) refl (found past f)
  where
    layout : (b : Bool) (o : Option Ack) → (b && is_some o) ≡ true → (ack : Ack) × (o ≡ Some ack)
    layout true (Some ack) h = (ack, refl)
    layout true None h = absurd (cc h)
    layout false o h = absurd (cc h)

    at_end : (b : Bool) → is_acknowledge_frame g ≡ b → cond b (Some g) None ≡ Some f → (ack : Ack) × (acknowledge_in f ≡ Some ack)
    at_end true h k =
        let same : g ≡ f = cc k in
        let l = layout (is_acknowledge (kind_of g.bytes)) (acknowledge_in g) h in
        (l.0, ap acknowledge_in (sym same) ∙ l.1)
    at_end false h k = absurd (cc k)

    by : (o : Option Frame) → acknowledge_frame_in past ≡ o → (acknowledge_frame_in past ≡ Some f → (ack : Ack) × (acknowledge_in f ≡ Some ack)) → (ack : Ack) × (acknowledge_in f ≡ Some ack)
    by (Some h) k rec = rec (k ∙ sym (ap (λ o. or_frame o (is_acknowledge_frame g) g) k) ∙ e)
    by None k rec = at_end (is_acknowledge_frame g) refl (sym (ap (λ o. or_frame o (is_acknowledge_frame g) g) k) ∙ e)

ack_step : (past : Past) (f : Frame) → ack_in (f ∷ past) ≡ or_ack (ack_in past) (is_acknowledge_frame f) (acknowledge_in f)
ack_step past f = by (acknowledge_frame_in past) refl
  where
    test : (b : Bool) → ack_by (cond b (Some f) None) ≡ cond b (acknowledge_in f) None
    test true = refl
    test false = refl

    by : (o : Option Frame) → acknowledge_frame_in past ≡ o → ack_by (or_frame (acknowledge_frame_in past) (is_acknowledge_frame f) f) ≡ or_ack (ack_by (acknowledge_frame_in past)) (is_acknowledge_frame f) (acknowledge_in f)
    by None e = ap (λ o. ack_by (or_frame o (is_acknowledge_frame f) f)) e ∙ test (is_acknowledge_frame f) ∙ ap (λ o. or_ack (ack_by o) (is_acknowledge_frame f) (acknowledge_in f)) (sym e)
    by (Some g) e =
        let a = found past g e in
        ap (λ o. ack_by (or_frame o (is_acknowledge_frame f) f)) e ∙ a.1
        ∙ ap (λ o. or_ack o (is_acknowledge_frame f) (acknowledge_in f)) (sym a.1)
        ∙ ap (λ o. or_ack (ack_by o) (is_acknowledge_frame f) (acknowledge_in f)) (sym e)

channel_by_test : (b : Bool) (f : Frame) (o : Option Frame) → channel_by (cond b (Some f) o) ≡ cond b (channel_named (open_in f)) (channel_by o)
channel_by_test true f o = refl
channel_by_test false f o = refl

tokens_by_test : (b : Bool) (f : Frame) (opens : List Frame) →
    take 2 (map (λ g. granted_by (response_in g) g.moment) (cond b (f ∷ opens) opens)) ≡ cond b (take 2 (granted_by (response_in f) f.moment ∷ take 2 (map (λ g. granted_by (response_in g) g.moment) opens))) (take 2 (map (λ g. granted_by (response_in g) g.moment) opens))
tokens_by_test true f opens = sym (take_twice (granted_by (response_in f) f.moment) (map (λ g. granted_by (response_in g) g.moment) opens))
tokens_by_test false f opens = refl

pub client_known_step : (f : Frame) (past : Past) → client_known (f ∷ past) ≡ client_known_after (client_known past) f
unfolding client_known client_known_after
client_known_step f past = same_known
    (ack_step past f)
    (channel_by_test (is_open (kind_of f.bytes)) f (find (λ g. is_open (kind_of g.bytes)) past))
    (tokens_by_test (is_open (kind_of f.bytes)) f (filter (λ g. is_open (kind_of g.bytes)) past))
    (last_by_test (has_number (kind_of f.bytes)) f (find (λ g. has_number (kind_of g.bytes)) past))
    (half_by_test (is_message (kind_of f.bytes)) f (filter (λ g. is_message (kind_of g.bytes)) past))
