-- A connection over a link, turn after turn.
use Rattle.std.proofs.Common.{Bool, arith, ◌≡◌, ℕ, ◌+◌, ◌<◌, ◌≤◌, ℤ, false, List, [], ◌∷◌, ◌++◌, length, take, Option, Some, None, refl, sym, ap, subst, ◌∙◌, ◌⊎◌, inl, inr, take_all, length-append}
use lib.Seq.{take-append-add}
use Rattle.std.proofs.lemmas.List.{append-nil}
use Rattle.std.specs.Io.KnownBytes.{Appends, Consumes, IsAtEnd}
use Rattle.std.proofs.KnownBytes.{Appends-nil, Appends-trans, Consumes-nil, Consumes-trans, Consumes-kept}
use Rattle.ua_frame.specs.Streams.{Piece, timed, cuts_within, rest_within, rest_of, plain}
use Rattle.ua_frame.specs.Layout.{Frame, frames_of}
use Rattle.ua_conn.specs.Past.{Past}
use Rattle.ua_conn.specs.server.Site.{Site}
use Rattle.ua_conn.specs.server.Faults.{fault_in_rest}
use Rattle.ua_conn.specs.server.Greeting.{greeting}
use Rattle.ua_conn.specs.server.Replies.{Reading, reply_bytes, ended, end_of}
use Rattle.ua_conn.specs.server.Held.{held, stop, GoesOn}
use Rattle.ua_conn.specs.server.Feeding.{Shown}
use Rattle.ua_conn.specs.server.FirstFault.{Stops, at_fault, at_close, at_rest}
use Rattle.ua_conn.specs.declared.outcome.End.{End}
use Rattle.ua_conn.specs.declared.outcome.End.TheVariants.{Closed, InputEnded, Truncated, Refused, LinkFailed, TurnsSpent, NoMemory}
use Rattle.ua_conn.proofs.ServerEnd.FirstFaultLemmas.{first}
use Rattle.ua_conn.proofs.ServerEnd.RecordLemmas.{by_record}
use Rattle.ua_link.specs.Reads.{Cut, piece_at, total, pieces_by, NoneEmpty, LastEmpty}
use Rattle.ua_link.specs.Turns.{Seen, more, ending_at, SentWhole, SentPart, Heard, Unheard, Unread, HearsAll, Turns}
use Rattle.ua_link.specs.Reports.{faults_by, Tells, Served, Serving, cuts_with}
use Rattle.ua_link.specs.declared.turn.Turn.{Turn}
use Rattle.ua_link.proofs.ReadLemmas.{total_more, pieces_more, none_empty_more}
use Rattle.ua_link.proofs.EndLemmas.{nothing_yet}
use Rattle.ua_link.proofs.TurnLemmas.{stop_is}

-- ---- nothing was read

pub nothing_said : (reverse : Bool) (site : Site) → reply_bytes reverse site (timed []) ≡ greeting reverse site.settings
unfolding fault_in_rest cuts_within rest_within
nothing_said reverse site = append-nil (greeting reverse site.settings)

same_input : (before after : Seen) → after.input ≡ before.input → Consumes before.input after.input []
same_input before after e = subst (λ i. Consumes before.input i []) (sym e) (Consumes-nil before.input)

-- What a server says first was sent, n bytes.
pub start : (reverse : Bool) (site : Site) (server : Shown) (n : ℕ) (before after : Seen) → server ≡ record { site = site; held = held site []; failed = false } → n ≡ length (greeting reverse site.settings)
    → after.input ≡ before.input → Appends before.output after.output (greeting reverse site.settings) → after.faults ≡ before.faults → Serving reverse site server [] n before after
start reverse site server n before after e len input sent faults = record {
  read = [];
  input = same_input before after input;
  lengths = refl;
  goes_on = nothing_yet site;
  shows = e;
  sent = subst (Appends before.output after.output) (sym (nothing_said reverse site)) sent;
  written = len ∙ sym (ap length (nothing_said reverse site));
  filled = tt;
  counted = faults;
}

-- The link failed before all of that was sent.
pub ungreeted : (reverse : Bool) (site : Site) (n turns : ℕ) (before after : Seen) → n ≤ length (greeting reverse site.settings) → after.input ≡ before.input
    → Appends before.output after.output (take n (greeting reverse site.settings)) → after.faults ≡ before.faults + 1 → Served reverse site turns before after LinkFailed [] n
ungreeted reverse site n turns before after within input sent faults = record {
  read = [];
  input = same_input before after input;
  lengths = refl;
  sent = subst (λ b. Appends before.output after.output (take n b)) (sym (nothing_said reverse site)) sent;
  within = subst (λ b. n ≤ length b) (sym (nothing_said reverse site)) within;
  tells = tt;
  counted = faults;
}

-- ---- the connection ends between two turns

pub starved : (reverse : Bool) (site : Site) (server : Shown) (cuts : List Cut) (n turns : ℕ) (before after : Seen) → Serving reverse site server cuts n before after → Served reverse site turns before after NoMemory cuts n
starved reverse site server cuts n turns before after s = record {
  read = s.read;
  input = s.input;
  lengths = s.lengths;
  sent = subst (Appends before.output after.output) (sym (take_all n _ (omega (arith, s.written)))) s.sent;
  within = omega (arith, s.written);
  tells = tt;
  counted = s.counted;
}

pub spent : (reverse : Bool) (site : Site) (server : Shown) (cuts : List Cut) (n turns : ℕ) (before after : Seen) → length cuts ≡ turns → Serving reverse site server cuts n before after → Served reverse site turns before after TurnsSpent cuts n
spent reverse site server cuts n turns before after all s = record {
  read = s.read;
  input = s.input;
  lengths = s.lengths;
  sent = subst (Appends before.output after.output) (sym (take_all n _ (omega (arith, s.written)))) s.sent;
  within = omega (arith, s.written);
  tells = (s.written, all, s.filled, s.goes_on);
  counted = s.counted;
}

-- Before the first turn there is no server.
pub unstarted : (reverse : Bool) (site : Site) (cuts : List Cut) (turns : ℕ) (s : Seen) → cuts ≡ [] → Served reverse site turns s s NoMemory cuts 0
unstarted reverse site cuts turns s none = subst (λ cs. Served reverse site turns s s NoMemory cs 0) (sym none) (record {
  read = [];
  input = Consumes-nil s.input;
  lengths = refl;
  sent = Appends-nil s.output;
  within = omega arith;
  tells = tt;
  counted = refl;
})

pub unread : (reverse : Bool) (site : Site) (server new : Shown) (cuts : List Cut) (n turns : ℕ) (before mid after : Seen) (turn : Turn) → Serving reverse site server cuts n before mid → Unread server new mid after turn →
    Served reverse site turns before after LinkFailed cuts (n + turn.written)
unread reverse site server new cuts n turns before mid after turn s u =
    let all = reply_bytes reverse site (timed (pieces_by cuts s.read)) in
    let within : n + turn.written ≤ length all = omega (arith, s.written, u.written) in
    let past : length all ≤ n + turn.written = omega (arith, s.written, u.written) in
    record {
      read = s.read;
      input = Consumes-kept before.input mid.input after.input s.read s.input u.input;
      lengths = s.lengths;
      sent = subst (Appends before.output after.output) (sym (take_all (n + turn.written) all past)) (subst (λ o. Appends before.output o all) (sym u.output) s.sent);
      within = within;
      tells = tt;
      counted = u.counted ∙ ap (λ k. k + 1) s.counted;
    }

-- ---- a read

-- what is read, sent and counted with it
pub record Partly (reverse : Bool) (site : Site) (before after : Seen) (ps : List Piece) (now : ℤ) (bytes : List ℕ) (cuts : List Cut) (n : ℕ) : Type 0 where
  pub read : List ℕ
  pub input : Consumes before.input after.input read
  pub lengths : length read ≡ total cuts
  pub pieces : pieces_by cuts read ≡ more ps now bytes
  pub sent : Appends before.output after.output (take n (reply_bytes reverse site (timed (more ps now bytes))))
  pub within : n ≤ length (reply_bytes reverse site (timed (more ps now bytes)))

took : (a b c : Option (List ℕ)) (all said : List ℕ) (n w : ℕ) → n ≡ length all → Appends a b all → Appends b c (take w said) → Appends a c (take (n + w) (all ++ said))
took a b c all said n w e p q =
    subst (Appends a c) (sym (ap (λ k. take (k + w) (all ++ said)) e ∙ take-append-add all said w)) (Appends-trans a b c all (take w said) p q)

partly : (reverse : Bool) (site : Site) (server : Shown) (cuts : List Cut) (n w : ℕ) (before mid after : Seen) (now : ℤ) (bytes said : List ℕ) → (s : Serving reverse site server cuts n before mid) →
    Consumes mid.input after.input bytes → reply_bytes reverse site (timed (more (pieces_by cuts s.read) now bytes)) ≡ reply_bytes reverse site (timed (pieces_by cuts s.read)) ++ said →
    Appends mid.output after.output (take w said) → w ≤ length said →
    Partly reverse site before after (pieces_by cuts s.read) now bytes (cuts ++ (now, length bytes) ∷ []) (n + w)
partly reverse site server cuts n w before mid after now bytes said s came replied sent l =
    let ps = pieces_by cuts s.read in
    let all = reply_bytes reverse site (timed ps) in
    record {
      read = s.read ++ bytes;
      input = Consumes-trans before.input mid.input after.input s.read bytes s.input came;
      lengths = omega (arith, length-append s.read bytes, s.lengths, total_more cuts (now, length bytes));
      pieces = pieces_more cuts (now, length bytes) s.read bytes s.lengths refl;
      sent = subst (λ r. Appends before.output after.output (take (n + w) r)) (sym replied) (took before.output mid.output after.output all said n w s.written s.sent sent);
      within = omega (arith, ap length replied, length-append all said, s.written);
    }

served : (reverse : Bool) (site : Site) (turns : ℕ) (before after : Seen) (ps : List Piece) (now : ℤ) (bytes : List ℕ) (cuts : List Cut) (n : ℕ) (ending : End) → Partly reverse site before after ps now bytes cuts n →
    Tells ending (end_of site (timed (more ps now bytes))) n (length (reply_bytes reverse site (timed (more ps now bytes)))) turns cuts after → after.faults ≡ faults_by ending before.faults →
    Served reverse site turns before after ending cuts n
served reverse site turns before after ps now bytes cuts n ending p t counted =
    let e = sym p.pieces in
    record {
      read = p.read;
      input = p.input;
      lengths = p.lengths;
      sent = subst (λ qs. Appends before.output after.output (take n (reply_bytes reverse site (timed qs)))) e p.sent;
      within = subst (λ qs. n ≤ length (reply_bytes reverse site (timed qs))) e p.within;
      tells = subst (λ qs. Tells ending (end_of site (timed qs)) n (length (reply_bytes reverse site (timed qs))) turns cuts after) e t;
      counted = counted;
    }

-- ---- the end that it brings

-- an end to which a stream comes
pub data IsOwn : End → Type 0 where
  closed : IsOwn Closed
  refused : (status : ℕ) → IsOwn (Refused status)
  input_ended : IsOwn InputEnded
  truncated : IsOwn Truncated

own_ended : (o : Option ℕ) (rest : List ℕ) → IsOwn (ended o rest)
own_ended (Some status) rest = refused status
own_ended None [] = input_ended
own_ended None (b ∷ rest) = truncated

own_stop : {site : Site} {past : Past} {rest : List ℕ} {R : Reading} {fs : List Frame} → Stops site past rest R fs → IsOwn R.ending
own_stop (at_fault f more status fault is) = subst (λ (r : Reading). IsOwn r.ending) (sym is) (refused status)
own_stop (at_close f more fault close is) = subst (λ (r : Reading). IsOwn r.ending) (sym is) closed
own_stop (at_rest is) = subst (λ (r : Reading). IsOwn r.ending) (sym is) (own_ended _ _)

pub own : (site : Site) (ps : List Piece) → IsOwn (end_of site (timed ps))
own site ps = own_stop (first site [] (frames_of (timed ps)) (plain (rest_of (timed ps)))).stops

pub own_faults : {ending : End} (k : ℕ) → IsOwn ending → k ≡ faults_by ending k
own_faults k closed = refl
own_faults k (refused status) = refl
own_faults k input_ended = refl
own_faults k truncated = refl

pub ending_is : (bytes : List ℕ) (ending e : End) → ending_at bytes ending ≡ Some e → e ≡ ending
ending_is [] ending e h = cc
ending_is (b ∷ bytes) ending e h = stop_is ending e h

pub tells_own : {ending : End} (bytes : List ℕ) (n owed turns : ℕ) (cuts : List Cut) (after : Seen) → IsOwn ending → ending_at bytes ending ≡ Some ending → n ≡ owed →
    (bytes ≡ [] → LastEmpty cuts × IsAtEnd after.input) → Tells ending ending n owed turns cuts after
tells_own bytes n owed turns cuts after closed h e last = (e, refl)
tells_own bytes n owed turns cuts after (refused status) h e last = (e, refl)
tells_own [] n owed turns cuts after input_ended h e last = (e, refl, (last refl).0, (last refl).1)
tells_own (b ∷ bytes) n owed turns cuts after input_ended h e last = absurd (cc)
tells_own [] n owed turns cuts after truncated h e last = (e, refl, (last refl).0, (last refl).1)
tells_own (b ∷ bytes) n owed turns cuts after truncated h e last = absurd (cc)

pub last_empty : (cuts : List Cut) (now : ℤ) (bytes : List ℕ) → NoneEmpty cuts → bytes ≡ [] → LastEmpty (cuts ++ (now, length bytes) ∷ [])
last_empty cuts now bytes h none = record { before = cuts; now = now; is = ap (λ (b : List ℕ). cuts ++ (now, length b) ∷ []) none; filled = h }

pub goes_on_ending : (bytes : List ℕ) (ending : End) → ending_at bytes ending ≡ None → (0 < length bytes) × (stop ending ≡ None)
goes_on_ending [] ending h = absurd (cc)
goes_on_ending (b ∷ bytes) ending h = (omega arith, h)

-- ---- a turn

-- what the server makes of the bytes, behind the pieces that it was given
hears : (site : Site) (ps : List Piece) (server new : Shown) (now : ℤ) (bytes : List ℕ) (before after : Seen) (turn : Turn) →
    server ≡ record { site = site; held = held site ps; failed = false } → GoesOn site ps → HearsAll server new now bytes before after turn →
    Heard site ps now bytes new before after turn ⊎ Unheard new before after turn
hears site ps server new now bytes before after turn e g f =
    let h = subst (λ (s : Shown). HearsAll s new now bytes before after turn) e f in h ps g refl

written_within : (said : List ℕ) (came : Option End) (before after : Seen) (turn : Turn) → SentWhole said came before after turn ⊎ SentPart said before after turn → turn.written ≤ length said
written_within said came before after turn (inl w) = omega (arith, w.written)
written_within said came before after turn (inr p) = p.written

heard_partly : (reverse : Bool) (site : Site) (server new : Shown) (cuts : List Cut) (n : ℕ) (before mid after : Seen) (now : ℤ) (bytes : List ℕ) (turn : Turn) (s : Serving reverse site server cuts n before mid) →
    Consumes mid.input after.input bytes → Heard site (pieces_by cuts s.read) now bytes new mid after turn →
    Partly reverse site before after (pieces_by cuts s.read) now bytes (cuts ++ (now, length bytes) ∷ []) (n + turn.written)
heard_partly reverse site server new cuts n before mid after now bytes turn s came h =
    partly reverse site server cuts n turn.written before mid after now bytes h.said s came (h.replied reverse) h.sent (written_within h.said _ mid after turn h.outcome)

whole_length : (reverse : Bool) (site : Site) (server : Shown) (cuts : List Cut) (n w : ℕ) (before mid : Seen) (now : ℤ) (bytes said : List ℕ) (s : Serving reverse site server cuts n before mid) →
    reply_bytes reverse site (timed (more (pieces_by cuts s.read) now bytes)) ≡ reply_bytes reverse site (timed (pieces_by cuts s.read)) ++ said → w ≡ length said →
    n + w ≡ length (reply_bytes reverse site (timed (more (pieces_by cuts s.read) now bytes)))
whole_length reverse site server cuts n w before mid now bytes said s replied e =
    omega (arith, ap length replied, length-append (reply_bytes reverse site (timed (pieces_by cuts s.read))) said, s.written)

whole_goes_on : (reverse : Bool) (site : Site) (server new : Shown) (cuts : List Cut) (n : ℕ) (before mid after : Seen) (now : ℤ) (bytes : List ℕ) (turn : Turn) (s : Serving reverse site server cuts n before mid) →
    Consumes mid.input after.input bytes → (h : Heard site (pieces_by cuts s.read) now bytes new mid after turn) →
    SentWhole h.said (ending_at bytes (end_of site (timed (more (pieces_by cuts s.read) now bytes)))) mid after turn → turn.end ≡ None →
    Serving reverse site new (cuts ++ (now, length bytes) ∷ []) (n + turn.written) before after
whole_goes_on reverse site server new cuts n before mid after now bytes turn s came h w none =
    let ps = pieces_by cuts s.read in
    let p = heard_partly reverse site server new cuts n before mid after now bytes turn s came h in
    let goes = goes_on_ending bytes (end_of site (timed (more ps now bytes))) (sym w.ending ∙ none) in
    let len = whole_length reverse site server cuts n turn.written before mid now bytes h.said s (h.replied reverse) w.written in
    let e = sym p.pieces in
    record {
      read = p.read;
      input = p.input;
      lengths = p.lengths;
      goes_on = subst (GoesOn site) e goes.1;
      shows = subst (λ qs. new ≡ record { site = site; held = held site qs; failed = false }) e (h.shows goes.1);
      sent = subst (λ qs. Appends before.output after.output (reply_bytes reverse site (timed qs))) e
          (subst (Appends before.output after.output) (take_all (n + turn.written) (reply_bytes reverse site (timed (more ps now bytes))) (omega (arith, len))) p.sent);
      written = subst (λ qs. n + turn.written ≡ length (reply_bytes reverse site (timed qs))) e len;
      filled = none_empty_more cuts (now, length bytes) s.filled goes.0;
      counted = w.counted ∙ s.counted;
    }

heard_goes_on : (reverse : Bool) (site : Site) (server new : Shown) (cuts : List Cut) (n : ℕ) (before mid after : Seen) (now : ℤ) (bytes : List ℕ) (turn : Turn) (s : Serving reverse site server cuts n before mid) →
    Consumes mid.input after.input bytes → (h : Heard site (pieces_by cuts s.read) now bytes new mid after turn) →
    SentWhole h.said (ending_at bytes (end_of site (timed (more (pieces_by cuts s.read) now bytes)))) mid after turn ⊎ SentPart h.said mid after turn → turn.end ≡ None →
    Serving reverse site new (cuts ++ (now, length bytes) ∷ []) (n + turn.written) before after
heard_goes_on reverse site server new cuts n before mid after now bytes turn s came h (inl w) none = whole_goes_on reverse site server new cuts n before mid after now bytes turn s came h w none
heard_goes_on reverse site server new cuts n before mid after now bytes turn s came h (inr p) none = absurd (let k = sym p.ending ∙ none in cc)

whole_ends : (reverse : Bool) (site : Site) (server new : Shown) (cuts : List Cut) (n turns : ℕ) (before mid after : Seen) (now : ℤ) (bytes : List ℕ) (turn : Turn) (ending : End) (s : Serving reverse site server cuts n before mid) →
    Consumes mid.input after.input bytes → (bytes ≡ [] → IsAtEnd after.input) → (h : Heard site (pieces_by cuts s.read) now bytes new mid after turn) →
    SentWhole h.said (ending_at bytes (end_of site (timed (more (pieces_by cuts s.read) now bytes)))) mid after turn → turn.end ≡ Some ending →
    Served reverse site turns before after ending (cuts ++ (now, length bytes) ∷ []) (n + turn.written)
whole_ends reverse site server new cuts n turns before mid after now bytes turn ending s came at_end h w ends =
    let ps = pieces_by cuts s.read in
    let E = end_of site (timed (more ps now bytes)) in
    let all = cuts ++ (now, length bytes) ∷ [] in
    let comes : ending_at bytes E ≡ Some ending = sym w.ending ∙ ends in
    let is = ending_is bytes E ending comes in
    let len = whole_length reverse site server cuts n turn.written before mid now bytes h.said s (h.replied reverse) w.written in
    let tells = tells_own bytes (n + turn.written) (length (reply_bytes reverse site (timed (more ps now bytes)))) turns all after (own site (more ps now bytes)) (comes ∙ ap Some is) len
    (λ none. (last_empty cuts now bytes s.filled none, at_end none)) in
    subst (λ end. Served reverse site turns before after end all (n + turn.written)) (sym is)
    (served reverse site turns before after ps now bytes all (n + turn.written) E (heard_partly reverse site server new cuts n before mid after now bytes turn s came h) tells
    (w.counted ∙ s.counted ∙ own_faults before.faults (own site (more ps now bytes))))

heard_ends : (reverse : Bool) (site : Site) (server new : Shown) (cuts : List Cut) (n turns : ℕ) (before mid after : Seen) (now : ℤ) (bytes : List ℕ) (turn : Turn) (ending : End) (s : Serving reverse site server cuts n before mid) →
    Consumes mid.input after.input bytes → (bytes ≡ [] → IsAtEnd after.input) → (h : Heard site (pieces_by cuts s.read) now bytes new mid after turn) →
    SentWhole h.said (ending_at bytes (end_of site (timed (more (pieces_by cuts s.read) now bytes)))) mid after turn ⊎ SentPart h.said mid after turn → turn.end ≡ Some ending →
    Served reverse site turns before after ending (cuts ++ (now, length bytes) ∷ []) (n + turn.written)
heard_ends reverse site server new cuts n turns before mid after now bytes turn ending s came at_end h (inl w) ends =
    whole_ends reverse site server new cuts n turns before mid after now bytes turn ending s came at_end h w ends
heard_ends reverse site server new cuts n turns before mid after now bytes turn ending s came at_end h (inr p) ends =
    let all = cuts ++ (now, length bytes) ∷ [] in
    let is : ending ≡ LinkFailed = (let k = sym ends ∙ p.ending in cc) in
    subst (λ end. Served reverse site turns before after end all (n + turn.written)) (sym is)
    (served reverse site turns before after (pieces_by cuts s.read) now bytes all (n + turn.written) LinkFailed (heard_partly reverse site server new cuts n before mid after now bytes turn s came h) tt
    (p.counted ∙ ap (λ k. k + 1) s.counted))

unheard_ends : (reverse : Bool) (site : Site) (server new : Shown) (cuts : List Cut) (n turns : ℕ) (before mid after : Seen) (now : ℤ) (bytes : List ℕ) (turn : Turn) (ending : End) (s : Serving reverse site server cuts n before mid) →
    Consumes mid.input after.input bytes → Unheard new mid after turn → turn.end ≡ Some ending → Served reverse site turns before after ending (cuts ++ (now, length bytes) ∷ []) (n + turn.written)
unheard_ends reverse site server new cuts n turns before mid after now bytes turn ending s came u ends =
    let all = cuts ++ (now, length bytes) ∷ [] in
    let ps = pieces_by cuts s.read in
    let law = by_record site (held site ps) (piece_at now bytes) in
    let gained = law.1 ps s.goes_on refl in
    let is : ending ≡ NoMemory = (let k = sym ends ∙ u.ending in cc) in
    let none = subst (λ o. Appends mid.output o []) (sym u.output) (Appends-nil mid.output) in
    let p = partly reverse site server cuts n 0 before mid after now bytes law.0.bytes s came (gained.replied reverse) none (omega arith) in
    subst (λ end. Served reverse site turns before after end all (n + turn.written)) (sym is)
    (subst (λ w. Served reverse site turns before after NoMemory all (n + w)) (sym u.written) (served reverse site turns before after ps now bytes all (n + 0) NoMemory p tt (u.counted ∙ s.counted)))

either_ends : (reverse : Bool) (site : Site) (server new : Shown) (cuts : List Cut) (n turns : ℕ) (before mid after : Seen) (now : ℤ) (bytes : List ℕ) (turn : Turn) (ending : End) (s : Serving reverse site server cuts n before mid) →
    Consumes mid.input after.input bytes → (bytes ≡ [] → IsAtEnd after.input) → Heard site (pieces_by cuts s.read) now bytes new mid after turn ⊎ Unheard new mid after turn → turn.end ≡ Some ending →
    Served reverse site turns before after ending (cuts ++ (now, length bytes) ∷ []) (n + turn.written)
either_ends reverse site server new cuts n turns before mid after now bytes turn ending s came at_end (inl h) ends =
    heard_ends reverse site server new cuts n turns before mid after now bytes turn ending s came at_end h h.outcome ends
either_ends reverse site server new cuts n turns before mid after now bytes turn ending s came at_end (inr u) ends =
    unheard_ends reverse site server new cuts n turns before mid after now bytes turn ending s came u ends

either_goes_on : (reverse : Bool) (site : Site) (server new : Shown) (cuts : List Cut) (n : ℕ) (before mid after : Seen) (now : ℤ) (bytes : List ℕ) (turn : Turn) (s : Serving reverse site server cuts n before mid) →
    Consumes mid.input after.input bytes → Heard site (pieces_by cuts s.read) now bytes new mid after turn ⊎ Unheard new mid after turn → turn.end ≡ None →
    Serving reverse site new (cuts ++ (now, length bytes) ∷ []) (n + turn.written) before after
either_goes_on reverse site server new cuts n before mid after now bytes turn s came (inl h) none = heard_goes_on reverse site server new cuts n before mid after now bytes turn s came h h.outcome none
either_goes_on reverse site server new cuts n before mid after now bytes turn s came (inr u) none = absurd (let k = sym u.ending ∙ none in cc)

pub turn_goes_on : (reverse : Bool) (site : Site) (server new : Shown) (cuts : List Cut) (n : ℕ) (before mid after : Seen) (turn : Turn) → Serving reverse site server cuts n before mid → Turns server new mid after turn →
    turn.end ≡ None → Serving reverse site new (cuts_with turn.cut cuts) (n + turn.written) before after
turn_goes_on reverse site server new cuts n before mid after turn s (inl u) none = absurd (let k = sym u.ending ∙ none in cc)
turn_goes_on reverse site server new cuts n before mid after turn s (inr r) none =
    let h = hears site (pieces_by cuts s.read) server new r.now r.bytes mid after turn s.shows s.goes_on r.heard in
    subst (λ cut. Serving reverse site new (cuts_with cut cuts) (n + turn.written) before after) (sym r.cut)
    (either_goes_on reverse site server new cuts n before mid after r.now r.bytes turn s r.input h none)

pub turn_ends : (reverse : Bool) (site : Site) (server new : Shown) (cuts : List Cut) (n turns : ℕ) (before mid after : Seen) (turn : Turn) (ending : End) → Serving reverse site server cuts n before mid →
    Turns server new mid after turn → turn.end ≡ Some ending → Served reverse site turns before after ending (cuts_with turn.cut cuts) (n + turn.written)
turn_ends reverse site server new cuts n turns before mid after turn ending s (inl u) ends =
    let is : ending ≡ LinkFailed = (let k = sym ends ∙ u.ending in cc) in
    subst (λ cut. Served reverse site turns before after ending (cuts_with cut cuts) (n + turn.written)) (sym u.cut)
    (subst (λ end. Served reverse site turns before after end cuts (n + turn.written)) (sym is) (unread reverse site server new cuts n turns before mid after turn s u))
turn_ends reverse site server new cuts n turns before mid after turn ending s (inr r) ends =
    let h = hears site (pieces_by cuts s.read) server new r.now r.bytes mid after turn s.shows s.goes_on r.heard in
    subst (λ cut. Served reverse site turns before after ending (cuts_with cut cuts) (n + turn.written)) (sym r.cut)
    (either_ends reverse site server new cuts n turns before mid after r.now r.bytes turn ending s r.input r.at_end h ends)

-- one entry more at most
pub cut_counted : (server new : Shown) (cuts : List Cut) (before after : Seen) (turn : Turn) → Turns server new before after turn → turn.end ≡ None → length (cuts_with turn.cut cuts) ≡ length cuts + 1
cut_counted server new cuts before after turn (inl u) none = absurd (let k = sym u.ending ∙ none in cc)
cut_counted server new cuts before after turn (inr r) none = ap (λ cut. length (cuts_with cut cuts)) r.cut ∙ length-append cuts ((r.now, length r.bytes) ∷ [])
