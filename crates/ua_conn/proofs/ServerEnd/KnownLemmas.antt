-- One more frame moves what is known by one step.
use Rattle.std.proofs.Common.{◌≡◌, ℕ, ◌+◌, Bool, true, false, cond, List, [], ◌∷◌, ◌++◌, map, take, length, Option, Some, None, refl, sym, ap, ◌∙◌, add-one}
use Rattle.std.specs.List.{filter, find}
use Rattle.std.specs.Prelude.{option_map}
use Rattle.ua_frame.specs.Layout.{Frame, kind_of, flag_of}
use Rattle.ua_channel.specs.declared.token.Token.{Token}
use Rattle.ua_channel.specs.Token.{newest_id}
use Rattle.ua_channel.specs.Channel.{most}
use Rattle.ua_conn.specs.server.Site.{Site}
use Rattle.ua_conn.specs.Past.{Past, Known, Agreed, known, is_open, is_message, has_token, has_number, carried, tokens_by, number_of, half_by, joined, oldest, until, greatest}
use Rattle.ua_chunk.specs.Half.{Half, with_part, ends_message}
use Rattle.ua_conn.specs.server.Machine.{known_after, token_after, half_then}

pub same_known : {a a' : Option Agreed} {b b' : List Token} {c c' : Option ℕ} {d d' : Option Half} {e e' : Option ℕ} → a ≡ a' → b ≡ b' → c ≡ c' → d ≡ d' → e ≡ e' →
    (let k : Known = record { limits = a; tokens = b; last = c; half = d; used = e } in let k' : Known = record { limits = a'; tokens = b'; last = c'; half = d'; used = e' } in k ≡ k')
same_known p q r s t = λ i. record { limits = p i; tokens = q i; last = r i; half = s i; used = t i }

pub newest : (site : Site) (opens : List Frame) → newest_id (take 2 (tokens_by opens)) ≡ length opens
newest site [] = refl
newest site (f ∷ opens) = add-one (length opens)

pub take_twice : (t : Token) (ts : List Token) → take 2 (t ∷ take 2 ts) ≡ take 2 (t ∷ ts)
take_twice t [] = refl
take_twice t (u ∷ []) = refl
take_twice t (u ∷ v ∷ ts) = refl

tokens_step : (site : Site) (f : Frame) (opens : List Frame) → take 2 (tokens_by (f ∷ opens)) ≡ take 2 (token_after (take 2 (tokens_by opens)) f ∷ take 2 (tokens_by opens))
tokens_step site f opens = ap (λ n. take 2 (record (token_after (take 2 (tokens_by opens)) f) { id = n + 1 } ∷ tokens_by opens)) (sym (newest site opens))
    ∙ sym (take_twice (token_after (take 2 (tokens_by opens)) f) (tokens_by opens))

half_step : (f : Frame) (parts : List Frame) → half_by (f ∷ parts) ≡ Some (with_part (half_by parts) (carried f).request_id (carried f).body)
half_step f [] = refl
half_step f (g ∷ parts) = λ i. Some (record { id = (carried (oldest g parts)).request_id; body = joined (g ∷ parts) ++ (carried f).body; parts = sym (add-one (length (g ∷ parts))) i })

-- each field by the test that its filter makes
tokens_by_test : (b : Bool) (site : Site) (f : Frame) (opens : List Frame) → take 2 (tokens_by (cond b (f ∷ opens) opens)) ≡ cond b (take 2 (token_after (take 2 (tokens_by opens)) f ∷ take 2 (tokens_by opens))) (take 2 (tokens_by opens))
tokens_by_test true site f opens = tokens_step site f opens
tokens_by_test false site f opens = refl

pub last_by_test : (b : Bool) (f : Frame) (o : Option Frame) → option_map (number_of) (cond b (Some f) o) ≡ cond b (Some (number_of f)) (option_map (number_of) o)
last_by_test true f o = refl
last_by_test false f o = refl

half_by_end : (b : Bool) (f : Frame) (parts : List Frame) → half_by (cond b [] (f ∷ parts)) ≡ cond b None (Some (with_part (half_by parts) (carried f).request_id (carried f).body))
half_by_end true f parts = refl
half_by_end false f parts = half_step f parts

pub half_by_test : (b : Bool) (f : Frame) (msgs : List Frame) → half_by (until (λ f. ends_message (flag_of f.bytes)) (cond b (f ∷ msgs) msgs)) ≡ cond b (half_then (half_by (until (λ f. ends_message (flag_of f.bytes)) msgs)) f) (half_by (until (λ f. ends_message (flag_of f.bytes)) msgs))
half_by_test true f msgs = half_by_end (ends_message (flag_of f.bytes)) f (until (λ f. ends_message (flag_of f.bytes)) msgs)
half_by_test false f msgs = refl

used_by_test : (b : Bool) (f : Frame) (fs : List Frame) → greatest (map (λ f. (carried f).token) (cond b (f ∷ fs) fs)) ≡ cond b (Some (most (greatest (map (λ f. (carried f).token) fs)) (carried f).token)) (greatest (map (λ f. (carried f).token) fs))
used_by_test true f fs = refl
used_by_test false f fs = refl

pub known_step : (site : Site) (f : Frame) (past : Past) → known site (f ∷ past) ≡ known_after site (known site past) f
unfolding known known_after
known_step site f past = same_known
    refl
    (tokens_by_test (is_open (kind_of f.bytes)) site f (filter (λ f. is_open (kind_of f.bytes)) past))
    (last_by_test (has_number (kind_of f.bytes)) f (find (λ f. has_number (kind_of f.bytes)) past))
    (half_by_test (is_message (kind_of f.bytes)) f (filter (λ f. is_message (kind_of f.bytes)) past))
    (used_by_test (has_token (kind_of f.bytes)) f (filter (λ f. has_token (kind_of f.bytes)) past))
