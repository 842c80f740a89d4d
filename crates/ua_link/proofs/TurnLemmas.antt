-- What a server makes of the bytes of a read.
use Rattle.std.proofs.Common.{arith, ◌≡◌, ℕ, ℤ, ◌==◌, true, false, length, List, [], ◌∷◌, ◌++◌, take, Option, Some, None, refl, sym, ap, subst, ◌∙◌, ◌⊎◌, inl, inr, ◌+◌, ◌≤◌, length-take-le}
use Rattle.std.proofs.lemmas.Bool.Decides.{nat_tests}
use Rattle.std.specs.Option.{is_some}
use Rattle.std.specs.Io.KnownBytes.{Appends}
use Rattle.ua_frame.specs.Streams.{Piece, timed}
use Rattle.ua_service.specs.declared.request.Request.{Request}
use Rattle.ua_conn.specs.server.Site.{Site}
use Rattle.ua_conn.specs.server.Replies.{reply_bytes, handed, ended, end_of}
use Rattle.ua_conn.specs.server.Held.{stop}
use Rattle.ua_conn.specs.server.Feeding.{Shown, Feeds}
use Rattle.ua_conn.specs.declared.outcome.End.{End}
use Rattle.ua_conn.specs.declared.outcome.End.TheVariants.{Closed, InputEnded, Truncated, Refused, LinkFailed, TurnsSpent, NoMemory}
use Rattle.ua_link.specs.Reads.{piece_at}
use Rattle.ua_link.specs.Turns.{Seen, more, ending_at, ended_with, SentWhole, SentPart, Heard, Unheard, HearsAll}
use Rattle.ua_link.specs.declared.turn.Turn.{Turn}
use Rattle.ua_link.proofs.EndLemmas.{input_ends}

-- an end to which a server comes by itself is the end
pub stop_is : (ending e : End) → stop ending ≡ Some e → e ≡ ending
stop_is Closed e h = cc
stop_is InputEnded e h = absurd (cc)
stop_is Truncated e h = absurd (cc)
stop_is (Refused status) e h = cc
stop_is LinkFailed e h = absurd (cc)
stop_is TurnsSpent e h = absurd (cc)
stop_is NoMemory e h = absurd (cc)

-- bytes came, or the server came to an end by itself
pub stops_so : (bytes : List ℕ) (ending : End) (came : Option End) → came ≡ stop ending → (bytes ≡ [] → came ≡ None → ⊥) → came ≡ ending_at bytes ending
stops_so [] ending None e h = absurd (h refl refl)
stops_so [] ending (Some end) e h = ap Some (stop_is ending end (sym e))
stops_so (b ∷ bytes) ending came e h = e

-- no byte came, and the server goes on
pub ends_so : (site : Site) (ps : List Piece) (now : ℤ) (bytes out said : List ℕ) (asked : List Request) (came : Option End) (new : Shown) (end : End) →
    Feeds site ps (piece_at now bytes) out said asked came new → came ≡ None → bytes ≡ [] → end ≡ ended None new.held.rest → Some end ≡ ending_at bytes (end_of site (timed (more ps now bytes)))
ends_so site ps now bytes out said asked came new end f goes none e =
    let is : end ≡ end_of site (timed (more ps now bytes)) =
    e ∙ ap (λ (v : Shown). ended None v.held.rest) (f.shows goes) ∙ input_ends site (more ps now bytes) (sym f.came_is ∙ goes) in
    ap Some is ∙ ap (λ b. ending_at b (end_of site (timed (more ps now bytes)))) (sym none)

-- the end that a read brings to a server that heard it so
pub ending_so : (site : Site) (ps : List Piece) (now : ℤ) (bytes out said : List ℕ) (asked : List Request) (came : Option End) (new : Shown) →
    Feeds site ps (piece_at now bytes) out said asked came new → ended_with came bytes (ended None new.held.rest) ≡ ending_at bytes (end_of site (timed (more ps now bytes)))
ending_so site ps now [] out said asked (Some came) new f = ap Some (stop_is _ came (sym f.came_is))
ending_so site ps now (b ∷ bytes) out said asked (Some came) new f = f.came_is
ending_so site ps now [] out said asked None new f = ends_so site ps now [] out said asked None new _ f refl refl refl
ending_so site ps now (b ∷ bytes) out said asked None new f = f.came_is

pub heard : (site : Site) (ps : List Piece) (now : ℤ) (bytes out said : List ℕ) (asked : List Request) (came : Option End) (new : Shown) (before after : Seen) (turn : Turn) →
    Feeds site ps (piece_at now bytes) out said asked came new → out ≡ [] → turn.requests.items ≡ asked → Appends before.output after.output (take turn.written said) →
    SentWhole said (ending_at bytes (end_of site (timed (more ps now bytes)))) before after turn ⊎ SentPart said before after turn → Heard site ps now bytes new before after turn
heard site ps now bytes out said asked came new before after turn f none hands sent outcome = record {
  said = said;
  replied = λ reverse. f.replied reverse ∙ ap (λ l. reply_bytes reverse site (timed ps) ++ l) (sym (f.out_is ∙ ap (λ o. o ++ f.added) none));
  hands = f.hands ∙ ap (λ l. handed site (timed ps) ++ l) (sym hands);
  shows = λ goes. f.shows (f.came_is ∙ goes);
  sent = sent;
  outcome = outcome;
}

pub no_byte : (bytes : List ℕ) → (length bytes == 0) ≡ true → bytes ≡ []
no_byte [] e = refl
no_byte (b ∷ bytes) e = absurd (grind (arith, nat_tests, e))

pub some_byte : (bytes : List ℕ) → (length bytes == 0) ≡ false → bytes ≡ [] → ⊥
some_byte bytes e none = absurd (let t = ap (λ (l : List ℕ). length l == 0) none in cc)

pub none_came : (came : Option End) → is_some came ≡ false → came ≡ None
none_came None e = refl
none_came (Some end) e = absurd (cc)

pub some_came : (came : Option End) → is_some came ≡ true → came ≡ None → ⊥
some_came None e h = absurd (cc)
some_came (Some end) e h = absurd (cc)

whole_since : (said : List ℕ) (came : Option End) (old before after : Seen) (turn : Turn) → before.faults ≡ old.faults → SentWhole said came before after turn → SentWhole said came old after turn
whole_since said came old before after turn e s = record { written = s.written; ending = s.ending; counted = s.counted ∙ e }

part_since : (said : List ℕ) (old before after : Seen) (turn : Turn) → before.faults ≡ old.faults → SentPart said before after turn → SentPart said old after turn
part_since said old before after turn e s = record { written = s.written; ending = s.ending; counted = s.counted ∙ ap (λ n. n + 1) e }

sent_since : (said : List ℕ) (came : Option End) (old before after : Seen) (turn : Turn) → before.faults ≡ old.faults →
    SentWhole said came before after turn ⊎ SentPart said before after turn → SentWhole said came old after turn ⊎ SentPart said old after turn
sent_since said came old before after turn e (inl s) = inl (whole_since said came old before after turn e s)
sent_since said came old before after turn e (inr s) = inr (part_since said old before after turn e s)

either_since : (site : Site) (ps : List Piece) (now : ℤ) (bytes : List ℕ) (new : Shown) (old before after : Seen) (turn : Turn) → before.output ≡ old.output → before.faults ≡ old.faults →
    Heard site ps now bytes new before after turn ⊎ Unheard new before after turn → Heard site ps now bytes new old after turn ⊎ Unheard new old after turn
either_since site ps now bytes new old before after turn o e (inl h) = inl (record {
  said = h.said;
  replied = h.replied;
  hands = h.hands;
  shows = h.shows;
  sent = subst (λ out. Appends out after.output (take turn.written h.said)) o h.sent;
  outcome = sent_since h.said _ old before after turn e h.outcome;
})
either_since site ps now bytes new old before after turn o e (inr u) = inr (record {
  ending = u.ending;
  written = u.written;
  hands = u.hands;
  output = u.output ∙ o;
  counted = u.counted ∙ e;
  failed = u.failed;
})

-- a read changes nothing of what was sent and counted
pub heard_since : (server new : Shown) (now : ℤ) (bytes : List ℕ) (old before after : Seen) (turn : Turn) → before.output ≡ old.output → before.faults ≡ old.faults →
    HearsAll server new now bytes before after turn → HearsAll server new now bytes old after turn
heard_since server new now bytes old before after turn o e f = λ ps h k. either_since server.site ps now bytes new old before after turn o e (f ps h k)

-- a read of which nothing is kept gave no byte
pub none_read : (n : ℕ) (buf : List ℕ) → n ≤ length buf → take n buf ≡ [] → n ≡ 0
none_read n buf l e = omega (arith, sym (length-take-le n buf l) ∙ ap length e)
