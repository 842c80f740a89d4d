-- One of several connections, turn after turn.
use Rattle.std.proofs.Common.{arith, ◌≡◌, ℕ, zero, suc, ◌+◌, ◌-◌, ◌<◌, ◌≤◌, ◌==◌, ◌&&◌, nat_lt, nat_le, ℤ, pos, Bool, true, false, List, [], ◌∷◌, ◌++◌, length, take, drop, Option, Some, None, IfSome, is_none, refl, sym, ap, subst, ◌∙◌, ◌⊎◌, inl, inr, length-append, append_assoc}
use Rattle.std.proofs.lemmas.Bool.Decides.{nat_tests}
use Rattle.std.proofs.Math.Seq.{take-append_seam}
use Rattle.std.proofs.lemmas.List.{take-append-drop, length-take-le, length-drop}
use Rattle.std.specs.Io.KnownBytes.{Appends, Consumes, Keeps, IsAtEnd}
use Rattle.std.proofs.KnownBytes.{Appends-nil, Appends-trans, Appends-kept, Consumes-nil, Consumes-trans, Consumes-kept, Keeps-refl}
use Rattle.ua_frame.specs.Streams.{Piece, timed, rest_within}
use Rattle.ua_conn.specs.server.Site.{Site}
use Rattle.ua_conn.specs.server.Replies.{reply_bytes, end_of, ended}
use Rattle.ua_conn.specs.server.Held.{held, stop, GoesOn}
use Rattle.ua_conn.specs.server.Feeding.{Shown as Server}
use Rattle.ua_conn.specs.declared.outcome.End.{End}
use Rattle.ua_conn.specs.declared.outcome.End.TheVariants.{Closed, InputEnded, Truncated, Refused, LinkFailed, TurnsSpent, NoMemory}
use Rattle.ua_conn.proofs.ServerEnd.RecordLemmas.{by_record}
use Rattle.ua_conn.proofs.ServerEnd.StopLemmas.{stays}
use Rattle.ua_link.specs.Reads.{Cut, piece_at, pieces_by, NoneEmpty, LastEmpty}
use Rattle.ua_link.specs.Turns.{Seen, more}
use Rattle.ua_link.specs.Reports.{Tells, Served, faults_by, cuts_with}
use Rattle.ua_link.specs.Connections.{Shown, SameStream, behind, IsBounded, Takes, TakesAll, Hears, Reads, Going, Leaving, Stage, Stands, Standing, Dropped, Leaves, Judges, Fed, IsFed, ending_with, ending_at_read, is_read, is_heard, bytes_of}
use Rattle.ua_link.specs.declared.connection.Over.{Over}
use Rattle.ua_link.specs.declared.connection.Over.TheVariants.{Ended, TimedOut}
use Rattle.ua_link.proofs.ReadLemmas.{total_more, pieces_more, none_empty_more}
use Rattle.ua_link.proofs.EndLemmas.{nothing_yet, input_ends}
use Rattle.ua_link.proofs.StreamLemmas.{same, both, more_same, behind_same, behind_parted, behind_bytes, no_more}
use Rattle.ua_link.proofs.HearLemmas.{and_true, no_end, either_end}
use Rattle.ua_link.proofs.ReportLemmas.{nothing_said}

-- A server that heard nothing holds no byte.
pub first_rest : (site : Site) (rest : List ℕ) → rest ≡ (held site []).rest → rest ≡ []
unfolding held rest_within
first_rest site rest is = is

pub fresh : (site : Site) (turns : ℕ) (s : Seen) → 0 < turns →
    Stands site turns (record { site = site; held = held site []; failed = false }) [] (pos 0) [] turns None [] 0 s s
fresh site turns s some = record {
  read = [];
  input = Consumes-nil s.input;
  lengths = refl;
  out = [];
  sent = Appends-nil s.output;
  written = refl;
  counted = refl;
  stage = record { heard = []; stream = same []; replied = nothing_said false site; goes_on = nothing_yet site; shows = refl; filled = tt; some = λ none. some; spends = omega arith };
}

-- ---- what is written

-- What an end says of a connection does not change while the input stays as it is.
tells_still : (ending e : End) (n turns : ℕ) (cuts : List Cut) (before after : Seen) → after.input ≡ before.input → Tells ending e n n turns cuts before → Tells ending e n n turns cuts after
tells_still LinkFailed e n turns cuts before after same t = tt
tells_still NoMemory e n turns cuts before after same t = tt
tells_still TurnsSpent e n turns cuts before after same t = t
tells_still Closed e n turns cuts before after same t = t
tells_still (Refused status) e n turns cuts before after same t = t
tells_still InputEnded e n turns cuts before after same t = (t.0, t.1, t.2, subst IsAtEnd (sym same) t.3)
tells_still Truncated e n turns cuts before after same t = (t.0, t.1, t.2, subst IsAtEnd (sym same) t.3)

leaving_still : (site : Site) (turns : ℕ) (owed : List ℕ) (e : End) (cuts : List Cut) (ps : List Piece) (out : List ℕ) (before after : Seen) → after.input ≡ before.input →
    Leaving site turns owed e cuts ps out before → Leaving site turns owed e cuts ps out after
leaving_still site turns owed e cuts ps out before after same s = record {
  replied = s.replied;
  tells = λ n. tells_still e (end_of site (timed ps)) n turns cuts before after same (s.tells n);
  unfailed = s.unfailed;
}

-- some of what was owed went out
moved_out : (out owed : List ℕ) (w : ℕ) → out ++ owed ≡ (out ++ take w owed) ++ drop w owed
moved_out out owed w = ap (λ o. out ++ o) (sym (take-append-drop w owed)) ∙ sym (append_assoc out (take w owed) (drop w owed))

stage_spoken : (site : Site) (turns : ℕ) (server : Server) (waiting : List ℕ) (came : ℤ) (owed : List ℕ) (left : ℕ) (cuts : List Cut) (ps : List Piece) (out : List ℕ) (w : ℕ) (before after : Seen) (ending : Option End) →
    after.input ≡ before.input → Stage site turns server waiting came owed left cuts ps out before ending → Stage site turns server waiting came (drop w owed) left cuts ps (out ++ take w owed) after ending
stage_spoken site turns server waiting came owed left cuts ps out w before after None same s = record {
  heard = s.heard;
  stream = s.stream;
  replied = s.replied ∙ moved_out out owed w;
  goes_on = s.goes_on;
  shows = s.shows;
  filled = s.filled;
  some = s.some;
  spends = s.spends;
}
stage_spoken site turns server waiting came owed left cuts ps out w before after (Some e) same s = record {
  replied = s.replied ∙ moved_out out owed w;
  tells = λ n. tells_still e (end_of site (timed ps)) n turns cuts before after same (s.tells n);
  unfailed = s.unfailed;
}

pub spoken : (site : Site) (turns : ℕ) (c : Shown) (cuts : List Cut) (n w : ℕ) (before mid after : Seen) → Standing site turns c cuts n before mid → w ≤ length c.owed →
    Appends mid.output after.output (take w c.owed) → after.input ≡ mid.input → after.faults ≡ mid.faults → Standing site turns (record c { owed = drop w c.owed }) cuts (n + w) before after
spoken site turns c cuts n w before mid after s within sent same faults = record {
  read = s.read;
  input = subst (λ i. Consumes before.input i s.read) (sym same) s.input;
  lengths = s.lengths;
  out = s.out ++ take w c.owed;
  sent = Appends-trans before.output mid.output after.output s.out (take w c.owed) s.sent sent;
  written = omega (arith, s.written, length-append s.out (take w c.owed), length-take-le w c.owed within);
  counted = faults ∙ s.counted;
  stage = stage_spoken site turns c.server c.waiting c.came c.owed c.left cuts (pieces_by cuts s.read) s.out w mid after c.ending same s.stage;
}

-- ---- a connection that is over

out_is : (out owed : List ℕ) (n : ℕ) → n ≡ length out → take n (out ++ owed) ≡ out
out_is out owed n e = ap (λ k. take k (out ++ owed)) e ∙ take-append_seam out owed

sent_so : (before after : Option (List ℕ)) (all out owed : List ℕ) (n : ℕ) → all ≡ out ++ owed → n ≡ length out → Appends before after out → Appends before after (take n all)
sent_so before after all out owed n is e h = subst (Appends before after) (sym (ap (take n) is ∙ out_is out owed n e)) h

within_so : (all out owed : List ℕ) (n : ℕ) → all ≡ out ++ owed → n ≡ length out → n ≤ length all
within_so all out owed n is e = omega (arith, e, ap length is, length-append out owed)

-- What is out begins the reply to all that was read, whether the server heard it or not.
begun_so : (site : Site) (turns : ℕ) (server : Server) (waiting : List ℕ) (came : ℤ) (owed : List ℕ) (left : ℕ) (cuts : List Cut) (ps : List Piece) (out : List ℕ) (after : Seen) (ending : Option End) →
    Stage site turns server waiting came owed left cuts ps out after ending → (behind_it : List ℕ) × (reply_bytes false site (timed ps) ≡ out ++ behind_it)
begun_so site turns server waiting came owed left cuts ps out after (Some e) s = (owed, s.replied)
begun_so site turns server waiting came owed left cuts ps out after None s =
    let law = by_record site (held site s.heard) (piece_at came waiting) in
    let gained = law.1 s.heard s.goes_on refl in
    (owed ++ law.0.bytes, ap (λ t. reply_bytes false site t) (sym s.stream.bytes ∙ behind_bytes s.heard came waiting) ∙ gained.replied false ∙ ap (λ r. r ++ law.0.bytes) s.replied ∙ append_assoc out owed law.0.bytes)

pub dropped : (site : Site) (turns : ℕ) (c : Shown) (cuts : List Cut) (n : ℕ) (before after : Seen) → Standing site turns c cuts n before after → Dropped site cuts n before after
dropped site turns c cuts n before after s =
    let b = begun_so site turns c.server c.waiting c.came c.owed c.left cuts (pieces_by cuts s.read) s.out after c.ending s.stage in
    record {
      read = s.read;
      input = s.input;
      lengths = s.lengths;
      sent = sent_so before.output after.output _ s.out b.0 n b.1 s.written s.sent;
      within = within_so _ s.out b.0 n b.1 s.written;
      counted = s.counted;
    }

ended_so : (site : Site) (turns : ℕ) (c : Shown) (cuts : List Cut) (n : ℕ) (before after : Seen) (e : End) → Standing site turns c cuts n before after → c.owed ≡ [] → c.ending ≡ Some e →
    Served false site turns before after e cuts n
ended_so site turns c cuts n before after e s none is =
    let ps = pieces_by cuts s.read in
    let all = reply_bytes false site (timed ps) in
    let leaving : Leaving site turns c.owed e cuts ps s.out after = subst (Stage site turns c.server c.waiting c.came c.owed c.left cuts ps s.out after) is s.stage in
    let whole : n ≡ length all = omega (arith, s.written, ap length leaving.replied, length-append s.out c.owed, ap length none) in
    record {
      read = s.read;
      input = s.input;
      lengths = s.lengths;
      sent = sent_so before.output after.output all s.out c.owed n leaving.replied s.written s.sent;
      within = within_so all s.out c.owed n leaving.replied s.written;
      tells = subst (λ k. Tells e (end_of site (timed ps)) k (length all) turns cuts after) (sym whole) (leaving.tells (length all));
      counted = s.counted ∙ leaving.unfailed before.faults;
    }

pub leaves : (site : Site) (turns : ℕ) (c : Shown) (active : ℕ) (cuts : List Cut) (n : ℕ) (before after : Seen) (moved : Bool) (patience : ℕ) (over : Option Over) →
    Standing site turns c cuts n before after → Judges c moved patience over → Leaves site turns (record c { active = active }) cuts n before after over
leaves site turns c active cuts n before after moved patience None s j = s
leaves site turns c active cuts n before after moved patience (Some (Ended e)) s j = ended_so site turns c cuts n before after e s j.0 j.1
leaves site turns c active cuts n before after moved patience (Some TimedOut) s j = dropped site turns c cuts n before after s

-- A call of the link failed.
pub broke : (site : Site) (turns : ℕ) (c : Shown) (cuts : List Cut) (n : ℕ) (before mid after : Seen) → Standing site turns c cuts n before mid → Keeps mid.input after.input → Keeps mid.output after.output →
    after.faults ≡ mid.faults + 1 → Served false site turns before after LinkFailed cuts n
broke site turns c cuts n before mid after s input output faults =
    let d = dropped site turns c cuts n before mid s in
    record {
      read = d.read;
      input = Consumes-kept before.input mid.input after.input d.read d.input input;
      lengths = d.lengths;
      sent = Appends-kept before.output mid.output after.output _ d.sent output;
      within = d.within;
      tells = tt;
      counted = faults ∙ ap (λ k. k + 1) d.counted;
    }

-- A growth was refused.
pub starved : (site : Site) (turns : ℕ) (c : Shown) (cuts : List Cut) (n : ℕ) (before after : Seen) → Standing site turns c cuts n before after → Served false site turns before after NoMemory cuts n
starved site turns c cuts n before after s =
    let d = dropped site turns c cuts n before after s in
    record { read = d.read; input = d.input; lengths = d.lengths; sent = d.sent; within = d.within; tells = tt; counted = d.counted }

-- a turn that wrote nothing and ended so
pub ended_with_none : (site : Site) (turns : ℕ) (new : Shown) (cuts : List Cut) (n w : ℕ) (before after : Seen) (over : Option Over) (e : End) → Served false site turns before after e cuts n → over ≡ Some (Ended e) → w ≡ 0 →
    Leaves site turns new cuts (n + w) before after over
ended_with_none site turns new cuts n w before after over e s is none =
    subst (λ (o : Option Over). Leaves site turns new cuts (n + w) before after o) (sym is)
    (subst (λ (k : ℕ). Served false site turns before after e cuts k) (omega (arith, none)) s)

-- the same of a turn that wrote nothing
pub broken : (site : Site) (turns : ℕ) (c new : Shown) (cuts : List Cut) (n w : ℕ) (before mid after : Seen) (over : Option Over) → Standing site turns c cuts n before mid → Keeps mid.input after.input → Keeps mid.output after.output →
    after.faults ≡ mid.faults + 1 → over ≡ Some (Ended LinkFailed) → w ≡ 0 → Leaves site turns new cuts (n + w) before after over
broken site turns c new cuts n w before mid after over s input output faults is none =
    ended_with_none site turns new cuts n w before after over LinkFailed (broke site turns c cuts n before mid after s input output faults) is none

pub same_kept : (a b : Option (List ℕ)) → b ≡ a → Keeps a b
same_kept a b e = subst (Keeps a) (sym e) (Keeps-refl a)

-- ---- what is read

-- how a connection ends whose input does
tells_input : (rest : List ℕ) (E : End) (n turns : ℕ) (cuts : List Cut) (after : Seen) → ended None rest ≡ E → LastEmpty cuts → IsAtEnd after.input → Tells (ended None rest) E n n turns cuts after
tells_input [] E n turns cuts after is last at_end = (refl, sym is, last, at_end)
tells_input (b ∷ rest) E n turns cuts after is last at_end = (refl, sym is, last, at_end)

input_faults : (rest : List ℕ) (n : ℕ) → n ≡ faults_by (ended None rest) n
input_faults [] n = refl
input_faults (b ∷ rest) n = refl

no_bytes : (b : List ℕ) → length b ≡ 0 → b ≡ []
no_bytes [] e = refl
no_bytes (x ∷ b) e = absurd (omega (arith, e))

-- a connection that is read
read_open : (c : Shown) → is_read c ≡ true → (c.ending ≡ None) × (c.waiting ≡ [])
read_open c h =
    let t = and_true (is_none c.ending && length c.waiting == 0) (nat_le (length c.owed) 65536) h in
    let u = and_true (is_none c.ending) (length c.waiting == 0) t.0 in
    let none = u.1 in
    (no_end c.ending u.0, no_bytes c.waiting (grind (arith, nat_tests, none)))

-- what a read leaves as it was, and what it brings
reads_same : (old new : Shown) (input input' : Option (List ℕ)) (cut : Option Cut) → Reads old new input input' cut → (new.server ≡ old.server) × (new.owed ≡ old.owed) × (length new.waiting ≡ length old.waiting + bytes_of cut)
reads_same old new input input' None r = (ap (λ (v : Shown). v.server) r.0, ap (λ (v : Shown). v.owed) r.0, omega (arith, ap (λ (v : Shown). length v.waiting) r.0))
reads_same old new input input' (Some cut) r = (ap (λ (v : Shown). v.server) r.5, ap (λ (v : Shown). v.owed) r.5, omega (arith, r.1, ap length (read_open old r.0).1))

pub cut_so : (old new : Shown) (input input' : Option (List ℕ)) (cut : Option Cut) → Reads old new input input' cut → IfSome cut (λ cut. (is_read old ≡ true) × (cut.1 ≤ 4096))
cut_so old new input input' None r = tt
cut_so old new input input' (Some cut) r = (r.0, r.2)

-- where the reads stand behind one more
stage_read : (site : Site) (turns : ℕ) (server : Server) (was : ℤ) (owed : List ℕ) (left : ℕ) (cuts : List Cut) (ps : List Piece) (out : List ℕ) (now : ℤ) (m : ℕ) (bytes : List ℕ) (after : Seen) →
    Going site turns server [] was owed left cuts ps out → length bytes ≡ m → (m ≡ 0 → IsAtEnd after.input) →
    Stage site turns server bytes now owed (left - 1) (cuts ++ (now, m) ∷ []) (more ps now bytes) out after (ending_at_read m server.held.rest)
stage_read site turns server was owed left cuts ps out now zero bytes after g len at_end =
    let none = no_bytes bytes len in
    let all : timed (more ps now bytes) ≡ timed g.heard = ap (λ (b : List ℕ). timed (more ps now b)) none ∙ no_more ps now ∙ sym g.stream.bytes in
    let rest : ended None server.held.rest ≡ end_of site (timed (more ps now bytes)) =
    ap (λ (v : Server). ended None v.held.rest) g.shows ∙ input_ends site g.heard g.goes_on ∙ ap (λ t. end_of site t) (sym all) in
    record {
      replied = ap (λ t. reply_bytes false site t) all ∙ g.replied;
      tells = λ n. tells_input server.held.rest (end_of site (timed (more ps now bytes))) n turns (cuts ++ (now, 0) ∷ []) after rest
          (record { before = cuts; now = now; is = refl; filled = g.filled }) (at_end refl);
      unfailed = λ n. input_faults server.held.rest n;
    }
stage_read site turns server was owed left cuts ps out now (suc m) [] after g len at_end = absurd (omega (arith, len))
stage_read site turns server was owed left cuts ps out now (suc m) (b ∷ bytes) after g len at_end = record {
  heard = g.heard;
  stream = more_same g.heard ps now (b ∷ bytes) g.stream;
  replied = g.replied;
  goes_on = g.goes_on;
  shows = g.shows;
  filled = none_empty_more cuts (now, suc m) g.filled (omega arith);
  some = λ none. absurd (cc);
  spends = omega (arith, length-append cuts ((now, suc m) ∷ []), g.spends, g.some refl);
}

-- some bytes came, or the end of the input
pub came_so : (site : Site) (turns : ℕ) (old new : Shown) (cuts : List Cut) (cut : Cut) (n : ℕ) (before mid after : Seen) → Standing site turns old cuts n before mid → Reads old new mid.input after.input (Some cut) →
    after.output ≡ mid.output → after.faults ≡ mid.faults → Standing site turns new (cuts ++ cut ∷ []) n before after
came_so site turns old new cuts cut n before mid after s r output faults =
    let ps = pieces_by cuts s.read in
    let bytes = new.waiting in
    let opened = read_open old r.0 in
    let none : old.waiting ≡ [] = opened.1 in
    let len : length bytes ≡ cut.1 = r.1 in
    let gone : Going site turns old.server old.waiting old.came old.owed old.left cuts ps s.out = subst (Stage site turns old.server old.waiting old.came old.owed old.left cuts ps s.out mid) opened.0 s.stage in
    let g : Going site turns old.server [] old.came old.owed old.left cuts ps s.out = subst (λ (w : List ℕ). Going site turns old.server w old.came old.owed old.left cuts ps s.out) none gone in
    let pieces = pieces_more cuts cut s.read bytes s.lengths len in
    let stage = stage_read site turns old.server old.came old.owed old.left cuts ps s.out cut.0 cut.1 bytes after g len r.4 in
    let stands : Stands site turns old.server bytes cut.0 old.owed (old.left - 1) (ending_at_read cut.1 old.server.held.rest) (cuts ++ cut ∷ []) n before after = record {
      read = s.read ++ bytes;
      input = Consumes-trans before.input mid.input after.input s.read bytes s.input r.3;
      lengths = omega (arith, length-append s.read bytes, s.lengths, total_more cuts cut, len);
      out = s.out;
      sent = subst (λ o. Appends before.output o s.out) (sym output) s.sent;
      written = s.written;
      counted = faults ∙ s.counted;
      stage = subst (λ qs. Stage site turns old.server bytes cut.0 old.owed (old.left - 1) (cuts ++ cut ∷ []) qs s.out after (ending_at_read cut.1 old.server.held.rest)) (sym pieces) stage;
    } in
    subst (λ (v : Shown). Standing site turns v (cuts ++ cut ∷ []) n before after) (sym r.5) stands

stage_unread : (site : Site) (turns : ℕ) (server : Server) (waiting : List ℕ) (came : ℤ) (owed : List ℕ) (left : ℕ) (cuts : List Cut) (ps : List Piece) (out : List ℕ) (before after : Seen) (ending : Option End) →
    ((e : End) → ending ≡ Some e → after.input ≡ before.input) → Stage site turns server waiting came owed left cuts ps out before ending → Stage site turns server waiting came owed left cuts ps out after ending
stage_unread site turns server waiting came owed left cuts ps out before after None same s = s
stage_unread site turns server waiting came owed left cuts ps out before after (Some e) same s = leaving_still site turns owed e cuts ps out before after (same e refl) s

not_read : (c : Shown) (e : End) → c.ending ≡ Some e → is_read c ≡ false
not_read c e is = ap (λ (o : Option End). is_none o && length c.waiting == 0 && nat_le (length c.owed) 65536) is

-- Nothing was there, or nothing was to be read.
nothing_so : (site : Site) (turns : ℕ) (old new : Shown) (cuts : List Cut) (n : ℕ) (before mid after : Seen) → Standing site turns old cuts n before mid → Reads old new mid.input after.input None →
    after.output ≡ mid.output → after.faults ≡ mid.faults → Standing site turns new cuts n before after
nothing_so site turns old new cuts n before mid after s r output faults =
    subst (λ (v : Shown). Standing site turns v cuts n before after) (sym r.0) (record {
      read = s.read;
      input = Consumes-kept before.input mid.input after.input s.read s.input r.1;
      lengths = s.lengths;
      out = s.out;
      sent = subst (λ o. Appends before.output o s.out) (sym output) s.sent;
      written = s.written;
      counted = faults ∙ s.counted;
      stage = stage_unread site turns old.server old.waiting old.came old.owed old.left cuts (pieces_by cuts s.read) s.out mid after old.ending (λ e is. r.2 (not_read old e is)) s.stage;
    })

pub read_so : (site : Site) (turns : ℕ) (old new : Shown) (cuts : List Cut) (cut : Option Cut) (n : ℕ) (before mid after : Seen) → Standing site turns old cuts n before mid → Reads old new mid.input after.input cut →
    after.output ≡ mid.output → after.faults ≡ mid.faults → Standing site turns new (cuts_with cut cuts) n before after
read_so site turns old new cuts None n before mid after s r output faults = nothing_so site turns old new cuts n before mid after s r output faults
read_so site turns old new cuts (Some cut) n before mid after s r output faults = came_so site turns old new cuts cut n before mid after s r output faults

-- ---- what the server hears

some_is : {a b : End} → Some a ≡ Some b → a ≡ b
some_is h = cc

-- an end to which the server came by itself
tells_stop : (E e : End) (n turns : ℕ) (cuts : List Cut) (after : Seen) → stop E ≡ Some e → Tells e E n n turns cuts after
tells_stop Closed e n turns cuts after h = subst (λ (x : End). Tells x Closed n n turns cuts after) (some_is h) (refl, refl)
tells_stop (Refused status) e n turns cuts after h = subst (λ (x : End). Tells x (Refused status) n n turns cuts after) (some_is h) (refl, refl)
tells_stop InputEnded e n turns cuts after h = absurd (cc)
tells_stop Truncated e n turns cuts after h = absurd (cc)
tells_stop LinkFailed e n turns cuts after h = absurd (cc)
tells_stop TurnsSpent e n turns cuts after h = absurd (cc)
tells_stop NoMemory e n turns cuts after h = absurd (cc)

stop_faults : (E e : End) (n : ℕ) → stop E ≡ Some e → n ≡ faults_by e n
stop_faults Closed e n h = ap (λ (x : End). faults_by x n) (some_is h)
stop_faults (Refused status) e n h = ap (λ (x : End). faults_by x n) (some_is h)
stop_faults InputEnded e n h = absurd (cc)
stop_faults Truncated e n h = absurd (cc)
stop_faults LinkFailed e n h = absurd (cc)
stop_faults TurnsSpent e n h = absurd (cc)
stop_faults NoMemory e n h = absurd (cc)

-- The server came to an end by itself: what waits changes nothing.
stage_ended : (site : Site) (turns : ℕ) (waiting : List ℕ) (came : ℤ) (owed : List ℕ) (cuts : List Cut) (ps heard : List Piece) (out : List ℕ) (after : Seen) (e : End) →
    SameStream (behind heard came waiting) ps → reply_bytes false site (timed heard) ≡ out ++ owed → stop (end_of site (timed heard)) ≡ Some e → Leaving site turns owed e cuts ps out after
stage_ended site turns waiting came owed cuts ps heard out after e stream replied h =
    let law = stays false site heard (piece_at came waiting ∷ []) e h in
    let all : timed ps ≡ timed (more heard came waiting) = sym stream.bytes ∙ behind_bytes heard came waiting in
    let end : end_of site (timed ps) ≡ end_of site (timed heard) = ap (λ t. end_of site t) all ∙ law.2 in
    record {
      replied = ap (λ t. reply_bytes false site t) all ∙ law.0 ∙ replied;
      tells = λ n. subst (λ (x : End). Tells e x n n turns cuts after) (sym end) (tells_stop (end_of site (timed heard)) e n turns cuts after h);
      unfailed = λ n. stop_faults (end_of site (timed heard)) e n h;
    }

stage_going : (site : Site) (turns : ℕ) (server : Server) (waiting : List ℕ) (came : ℤ) (owed : List ℕ) (left : ℕ) (cuts : List Cut) (ps heard : List Piece) (out : List ℕ) →
    SameStream (behind heard came waiting) ps → reply_bytes false site (timed heard) ≡ out ++ owed → GoesOn site heard → server ≡ record { site = site; held = held site heard; failed = false } →
    NoneEmpty cuts → length cuts + left ≡ turns → (waiting ≡ [] → 0 < left) → Going site turns server waiting came owed left cuts ps out
stage_going site turns server waiting came owed left cuts ps heard out stream replied goes shows filled spends some = record {
  heard = heard;
  stream = stream;
  replied = replied;
  goes_on = goes;
  shows = shows;
  filled = filled;
  some = some;
  spends = spends;
}

stage_with : (site : Site) (turns : ℕ) (server : Server) (waiting : List ℕ) (came : ℤ) (owed : List ℕ) (left : ℕ) (cuts : List Cut) (ps heard : List Piece) (out : List ℕ) (after : Seen) (o : Option End) →
    SameStream (behind heard came waiting) ps → reply_bytes false site (timed heard) ≡ out ++ owed → (GoesOn site heard → server ≡ record { site = site; held = held site heard; failed = false }) →
    NoneEmpty cuts → length cuts + left ≡ turns → stop (end_of site (timed heard)) ≡ o → Stage site turns server waiting came owed left cuts ps out after (ending_with waiting left o)
stage_with site turns server waiting came owed left cuts ps heard out after (Some e) stream replied shows filled spends h = stage_ended site turns waiting came owed cuts ps heard out after e stream replied h
stage_with site turns server [] came owed zero cuts ps heard out after None stream replied shows filled spends h = record {
  replied = ap (λ t. reply_bytes false site t) (sym stream.bytes) ∙ replied;
  tells = λ n. (refl, omega (arith, spends), filled, ap (λ t. stop (end_of site t)) (sym stream.bytes) ∙ h);
  unfailed = λ n. refl;
}
stage_with site turns server [] came owed (suc left) cuts ps heard out after None stream replied shows filled spends h =
    stage_going site turns server [] came owed (suc left) cuts ps heard out stream replied h (shows h) filled spends (λ none. omega arith)
stage_with site turns server (b ∷ waiting) came owed left cuts ps heard out after None stream replied shows filled spends h =
    stage_going site turns server (b ∷ waiting) came owed left cuts ps heard out stream replied h (shows h) filled spends (λ none. absurd (cc))

stage_taken : (site : Site) (turns : ℕ) (old new : Shown) (cuts : List Cut) (ps : List Piece) (out : List ℕ) (after : Seen) → Going site turns old.server old.waiting old.came old.owed old.left cuts ps out → TakesAll old new →
    Stage site turns new.server new.waiting old.came new.owed old.left cuts ps out after new.ending
stage_taken site turns old new cuts ps out after g all =
    let t = all site g.heard g.goes_on g.shows in
    let front : SameStream (behind t.heard old.came new.waiting) (behind g.heard old.came (t.given ++ new.waiting)) =
    both (behind t.heard old.came new.waiting) (behind (behind g.heard old.came t.given) old.came new.waiting) (behind g.heard old.came (t.given ++ new.waiting))
    (behind_same t.heard (behind g.heard old.came t.given) old.came new.waiting t.stream) (behind_parted g.heard old.came t.given new.waiting) in
    let stream : SameStream (behind t.heard old.came new.waiting) ps =
    both (behind t.heard old.came new.waiting) (behind g.heard old.came (t.given ++ new.waiting)) ps front (subst (λ (w : List ℕ). SameStream (behind g.heard old.came w) ps) t.waited g.stream) in
    let replied = t.replied ∙ ap (λ (l : List ℕ). l ++ t.said) g.replied ∙ append_assoc out old.owed t.said ∙ ap (λ (o : List ℕ). out ++ o) (sym t.owed) in
    subst (Stage site turns new.server new.waiting old.came new.owed old.left cuts ps out after) (sym t.ending)
    (stage_with site turns new.server new.waiting old.came new.owed old.left cuts ps t.heard out after (stop (end_of site (timed t.heard))) stream replied t.shows g.filled g.spends refl)

stage_heard : (site : Site) (turns : ℕ) (old new : Shown) (cuts : List Cut) (ps : List Piece) (out : List ℕ) (after : Seen) (ending : Option End) → Stage site turns old.server old.waiting old.came old.owed old.left cuts ps out after ending →
    old.ending ≡ ending → Hears old new → Stage site turns new.server new.waiting new.came new.owed new.left cuts ps out after new.ending
stage_heard site turns old new cuts ps out after None g is h =
    subst (λ (now : ℤ). Stage site turns new.server new.waiting now new.owed new.left cuts ps out after new.ending) (sym h.came)
    (subst (λ (left : ℕ). Stage site turns new.server new.waiting old.came new.owed left cuts ps out after new.ending) (sym h.left) (stage_taken site turns old new cuts ps out after g (h.goes is)))
stage_heard site turns old new cuts ps out after (Some e) l is h =
    subst (λ (v : Shown). Stage site turns v.server v.waiting v.came v.owed v.left cuts ps out after v.ending) (sym (h.stays e is))
    (subst (Stage site turns old.server old.waiting old.came old.owed old.left cuts ps out after) (sym is) l)

-- The server heard what waits, as far as it was given that.
pub heard_so : (site : Site) (turns : ℕ) (old new : Shown) (cuts : List Cut) (n : ℕ) (before after : Seen) → Standing site turns old cuts n before after → Hears old new → Standing site turns new cuts n before after
heard_so site turns old new cuts n before after s h = record {
  read = s.read;
  input = s.input;
  lengths = s.lengths;
  out = s.out;
  sent = s.sent;
  written = s.written;
  counted = s.counted;
  stage = stage_heard site turns old new cuts (pieces_by cuts s.read) s.out after old.ending s.stage refl h;
}

-- ---- a turn

-- what the server heard, whether it was read then or before
fed_by : (site : Site) (ps : List Piece) (old mid noted heard : Shown) (cut : Option Cut) → noted.waiting ≡ mid.waiting → noted.owed ≡ mid.owed → mid.owed ≡ old.owed → length mid.waiting ≡ length old.waiting + bytes_of cut →
    (noted.ending ≡ None → Takes site ps noted heard) → ((e : End) → noted.ending ≡ Some e → heard ≡ noted) → heard.came ≡ noted.came → (noted.ending ≡ None) ⊎ ((e : End) × (noted.ending ≡ Some e)) → Fed site ps old heard cut
fed_by site ps old mid noted heard cut same owed still amount takes stays came (inl none) =
    let t = takes none in
    record {
      given = t.given;
      amount = omega (arith, ap length t.waited, length-append t.given heard.waiting, ap length same, amount);
      bounded = λ some. subst (λ (now : ℤ). IsBounded site ps now t.given (length old.owed)) (sym came) (subst (λ (o : List ℕ). IsBounded site ps noted.came t.given (length o)) (owed ∙ still) (t.bounded some));
    }
fed_by site ps old mid noted heard cut same owed still amount takes stays came (inr ended) = record {
  given = [];
  amount = omega (arith, ap (λ (v : Shown). length v.waiting) (stays ended.0 ended.1), ap length same, amount);
  bounded = λ some. absurd (omega (arith, some));
}

pub fed_so : (old mid noted heard : Shown) (latest : ℕ) (input input' : Option (List ℕ)) (cut : Option Cut) → Reads old mid input input' cut → noted ≡ record mid { latest = latest } → Hears noted heard → IsFed old heard cut
fed_so old mid noted heard latest input input' cut r is h = λ site ps goes shows.
    let same = reads_same old mid input input' cut r in
    fed_by site ps old mid noted heard cut (ap (λ (v : Shown). v.waiting) is) (ap (λ (v : Shown). v.owed) is) same.1 same.2
    (λ none. h.goes none site ps goes (ap (λ (v : Shown). v.server) is ∙ same.0 ∙ shows)) h.stays h.came (either_end noted.ending)

-- what goes out then changes nothing of it
pub fed_still : (old heard : Shown) (owed : List ℕ) (active : ℕ) (cut : Option Cut) → IsFed old heard cut → IsFed old (record heard { owed = owed; active = active }) cut
fed_still old heard owed active cut f = λ site ps goes shows.
    let g = f site ps goes shows in record { given = g.given; amount = g.amount; bounded = g.bounded }

waits_by : (ending : Option End) (waiting owed : List ℕ) → (is_none ending && nat_lt 0 (length waiting) && nat_le (length owed) 65536) ≡ false → ending ≡ None → length owed ≤ 65536 → waiting ≡ []
waits_by ending [] owed h none bound = refl
waits_by (Some e) (b ∷ waiting) owed h none bound = absurd (cc)
waits_by None (b ∷ waiting) owed h none bound = absurd (grind (arith, nat_tests, h, bound))

-- the server hears all, unless it came to an end or too much is owed
pub waits_so : (heard new : Shown) (w active : ℕ) → is_heard heard ≡ false → new ≡ record heard { owed = drop w heard.owed; active = active } → w ≤ length heard.owed → new.ending ≡ None → length new.owed + w ≤ 65536 → new.waiting ≡ []
waits_so heard new w active h is within none bound =
    ap (λ (v : Shown). v.waiting) is
    ∙ waits_by heard.ending heard.waiting heard.owed h (ap (λ (v : Shown). v.ending) (sym is) ∙ none) (omega (arith, bound, within, ap (λ (v : Shown). length v.owed) is, length-drop w heard.owed))

-- a connection behind a read, which the steady clock does not change
pub noted_so : (site : Site) (turns : ℕ) (old mid noted : Shown) (latest : ℕ) (cuts : List Cut) (cut : Option Cut) (n : ℕ) (before between after : Seen) → Standing site turns old cuts n before between → Reads old mid between.input after.input cut →
    after.output ≡ between.output → after.faults ≡ between.faults → noted ≡ record mid { latest = latest } → Standing site turns noted (cuts_with cut cuts) n before after
noted_so site turns old mid noted latest cuts cut n before between after s r output faults is =
    subst (λ (v : Shown). Standing site turns v (cuts_with cut cuts) n before after) (sym is) (read_so site turns old mid cuts cut n before between after s r output faults)
