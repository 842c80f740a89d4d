-- An index of connections: what is found by it, and what keeps it.
use Rattle.std.proofs.Common.{◌≡◌, ◌⊎◌, ◌+◌, ◌<◌, ℕ, zero, suc, List, [], ◌∷◌, ◌++◌, length, take, true, false, cond, Option, Some, None, Ordering, refl, sym, ap, ◌∙◌, subst, inl, inr, true≢false, arith, length-append, length-set}
use Rattle.std.specs.Prelude.{slice_get, slice_set, slice_index_or}
use Rattle.std.specs.declared.cmp.Ordering.TheVariants.{Less, Equal, Greater}
use Rattle.std.specs.Ordering.{is_eq}
use Rattle.std.specs.Option.{unwrap_or}
use Rattle.std.proofs.lemmas.List.{take_at}
use Rattle.std.proofs.lemmas.Option.{slice_get_within, slice_get_read}
use Rattle.std.specs.Cmp.{tied_itself}
use Rattle.std.specs.BTreeMap.{get}
use Rattle.ua_capture.specs.declared.packet.Endpoint.{Endpoint}
use Rattle.ua_capture.specs.Segment.{Parts}
use Rattle.ua_stream.specs.declared.connection.Connection.{Connection}
use Rattle.ua_stream.specs.declared.connection.Way.{Way}
use Rattle.ua_stream.specs.declared.connection.Way.TheVariants.{Forth, Back}
use Rattle.ua_stream.specs.declared.ends.Ends.{Ends}
use Rattle.ua_stream.specs.declared.index.Index.{Index}
use Rattle.ua_stream.specs.Connection.{IsWay, KeepsEnds, no_bytes}
use Rattle.ua_stream.specs.Ends.{ends_cmp, ends_of}
use Rattle.ua_stream.specs.Streams.{HasNone, IsLast}
use Rattle.ua_stream.specs.Index.{number_in, AreEnds, IsKept, IsUnchanged, IsEmpty, HasLast, IsIndex, KeepAllEnds}
use Rattle.ua_stream.proofs.EndsLemmas.{exact_ends, ends_total, ends_back, ends_apart}

-- ---- what an index keeps

same_pair : (one other a b : Endpoint) → AreEnds one other a b → ends_of one other ≡ ends_of a b
same_pair one other a b (inl e) = λ i. ends_of (e.0 i) (e.1 i)
same_pair one other a b (inr e) = (λ i. ends_of (e.0 i) (e.1 i)) ∙ ends_back b a

-- Ends are told apart by their order.
equal_here : (one other a b : Endpoint) → AreEnds one other a b → is_eq (ends_cmp (ends_of one other) (ends_of a b)) ≡ true
equal_here one other a b are = subst (λ p. is_eq (ends_cmp (ends_of one other) p) ≡ true) (same_pair one other a b are) (ap is_eq (tied_itself ends_total (ends_of one other)))

unequal : (p q : Ends) (r : Ordering) → ends_cmp p q ≡ r → (p ≡ q → ⊥) → is_eq r ≡ false
unequal p q Less e apart = refl
unequal p q Equal e apart = absurd (apart (exact_ends p q e))
unequal p q Greater e apart = refl

unequal_elsewhere : (one other a b : Endpoint) → (AreEnds one other a b → ⊥) → is_eq (ends_cmp (ends_of one other) (ends_of a b)) ≡ false
unequal_elsewhere one other a b apart = unequal (ends_of one other) (ends_of a b) (ends_cmp (ends_of one other) (ends_of a b)) refl (λ e. apart (ends_apart one other a b e))

kept_so : (old new : Index) (one other : Endpoint) (n : ℕ) → ((q : Ends) → get ends_cmp new.numbers q ≡ cond (is_eq (ends_cmp (ends_of one other) q)) (Some n) (get ends_cmp old.numbers q)) → IsKept old one other n new
kept_so old new one other n puts = record {
  here = λ a b are. puts (ends_of a b) ∙ ap (λ t. cond t (Some n) (number_in old a b)) (equal_here one other a b are);
  elsewhere = λ a b apart. puts (ends_of a b) ∙ ap (λ t. cond t (Some n) (number_in old a b)) (unequal_elsewhere one other a b apart);
}

-- what is put at the key of two ends is kept for these
pub is_kept : (old new : Index) (one other : Endpoint) (n : ℕ) (p : Ends) → p ≡ ends_of one other → ((q : Ends) → get ends_cmp new.numbers q ≡ cond (is_eq (ends_cmp p q)) (Some n) (get ends_cmp old.numbers q)) → IsKept old one other n new
is_kept old new one other n p is puts = kept_so old new one other n (subst (λ k. (q : Ends) → get ends_cmp new.numbers q ≡ cond (is_eq (ends_cmp k q)) (Some n) (get ends_cmp old.numbers q)) is puts)

-- ---- connections one more

inside : {X : Type 0} (x y : X) → Some x ≡ Some y → x ≡ y
inside x y e = ap (λ o. unwrap_or o x) e

-- what is found among one more is found without it, or is the one behind them
at_more : (cs : List Connection) (x c : Connection) (k : ℕ) → slice_get (cs ++ x ∷ []) k ≡ Some c → (slice_get cs k ≡ Some c) ⊎ ((k ≡ length cs) × (x ≡ c))
at_more [] x c zero e = inr (refl, inside x c e)
at_more [] x c (suc k) e = absurd (cc)
at_more (y ∷ cs) x c zero e = inl e
at_more (y ∷ cs) x c (suc k) e = next (at_more cs x c k e) where
  next : (slice_get cs k ≡ Some c) ⊎ ((k ≡ length cs) × (x ≡ c)) → (slice_get cs k ≡ Some c) ⊎ ((suc k ≡ length (y ∷ cs)) × (x ≡ c))
  next (inl e) = inl e
  next (inr p) = inr (ap suc p.0, p.1)

has_none_more : (cs : List Connection) (x : Connection) (a b : Endpoint) (first : ℕ) → HasNone cs a b first → ((way : Way) → IsWay x way a b → ⊥) → HasNone (cs ++ x ∷ []) a b first
has_none_more cs x a b first none apart k c from here way is = judge (at_more cs x c k here) where
  judge : (slice_get cs k ≡ Some c) ⊎ ((k ≡ length cs) × (x ≡ c)) → ⊥
  judge (inl there) = none k c from there way is
  judge (inr p) = apart way (subst (λ z. IsWay z way a b) (sym p.1) is)

-- the one behind them is the last
last_at_end : (cs : List Connection) (x : Connection) (a b : Endpoint) (way : Way) → IsWay x way a b → IsLast (cs ++ x ∷ []) a b (length cs) way
last_at_end cs x a b way is = record {
  there = omega (arith, length-append cs (x ∷ []));
  ends = λ c here. judge c (at_more cs x c (length cs) here);
  last = λ k c from here w other. absurd (omega (arith, length-append cs (x ∷ []), slice_get_within (cs ++ x ∷ []) k c here));
} where
  judge : (c : Connection) → (slice_get cs (length cs) ≡ Some c) ⊎ ((length cs ≡ length cs) × (x ≡ c)) → IsWay c way a b
  judge c (inl there) = absurd (omega (arith, slice_get_within cs (length cs) c there))
  judge c (inr p) = subst (λ z. IsWay z way a b) p.1 is

-- one of other ends is not
has_last_more : (cs : List Connection) (x : Connection) (a b : Endpoint) (o : Option ℕ) → HasLast cs a b o → ((way : Way) → IsWay x way a b → ⊥) → HasLast (cs ++ x ∷ []) a b o
has_last_more cs x a b None none apart = has_none_more cs x a b 0 none apart
has_last_more cs x a b (Some n) p apart = (
  p.0,
  record {
    there = omega (arith, length-append cs (x ∷ []), p.1.there);
    ends = λ c here. judge c (at_more cs x c n here);
    last = has_none_more cs x a b (n + 1) p.1.last apart;
  },
) where
  judge : (c : Connection) → (slice_get cs n ≡ Some c) ⊎ ((n ≡ length cs) × (x ≡ c)) → IsWay c p.0 a b
  judge c (inl there) = p.1.ends c there
  judge c (inr q) = absurd (omega (arith, p.1.there, q.0))

are_or_not : (one other a b : Endpoint) → AreEnds one other a b ⊎ (AreEnds one other a b → ⊥)
are_or_not one other a b = by (ends_cmp (ends_of one other) (ends_of a b)) refl where
  apart : (r : Ordering) → ends_cmp (ends_of one other) (ends_of a b) ≡ r → is_eq r ≡ false → AreEnds one other a b → ⊥
  apart r e differ are = absurd (true≢false (sym (equal_here one other a b are) ∙ ap is_eq e ∙ differ))

  by : (r : Ordering) → ends_cmp (ends_of one other) (ends_of a b) ≡ r → AreEnds one other a b ⊎ (AreEnds one other a b → ⊥)
  by Less e = inr (apart Less e refl)
  by Equal e = inl (ends_apart one other a b (exact_ends (ends_of one other) (ends_of a b) e))
  by Greater e = inr (apart Greater e refl)

ends_of_way : (s : Parts) (way : Way) (a b : Endpoint) → IsWay (no_bytes s) way a b → AreEnds s.from s.to a b
ends_of_way s Forth a b is = inl is
ends_of_way s Back a b is = inr is

way_of_ends : (cs : List Connection) (s : Parts) (a b : Endpoint) → AreEnds s.from s.to a b → HasLast (cs ++ no_bytes s ∷ []) a b (Some (length cs))
way_of_ends cs s a b (inl are) = (Forth, last_at_end cs (no_bytes s) a b Forth are)
way_of_ends cs s a b (inr are) = (Back, last_at_end cs (no_bytes s) a b Back are)

-- ---- an index of connections

-- where nothing is kept there are none
pub none_yet : (index : Index) → IsEmpty index → IsIndex [] index
none_yet index empty a b = subst (λ o. HasLast [] a b o) (sym (empty a b)) (λ k c from here way is. absurd (cc))

-- where nothing changed
unchanged : (cs : List Connection) (old new : Index) → IsIndex cs old → IsUnchanged old new → IsIndex cs new
unchanged cs old new indexed same a b = subst (λ o. HasLast cs a b o) (sym (same a b)) (indexed a b)

-- with the number of the one that begins
begins : (cs : List Connection) (s : Parts) (old new : Index) → IsIndex cs old → IsKept old s.from s.to (length cs) new → IsIndex (cs ++ no_bytes s ∷ []) new
begins cs s old new indexed kept a b = judge (are_or_not s.from s.to a b) where
  judge : AreEnds s.from s.to a b ⊎ (AreEnds s.from s.to a b → ⊥) → HasLast (cs ++ no_bytes s ∷ []) a b (number_in new a b)
  judge (inl are) = subst (λ o. HasLast (cs ++ no_bytes s ∷ []) a b o) (sym (kept.here a b are)) (way_of_ends cs s a b are)
  judge (inr apart) = subst (λ o. HasLast (cs ++ no_bytes s ∷ []) a b o) (sym (kept.elsewhere a b apart))
      (has_last_more cs (no_bytes s) a b (number_in old a b) (indexed a b) (λ way is. apart (ends_of_way s way a b is)))

-- as it is done
pub begun : (cs more : List Connection) (s : Parts) (x : Connection) (n : ℕ) (from to : Endpoint) (old new : Index) → IsIndex cs old → n ≡ length cs → from ≡ s.from → to ≡ s.to → x ≡ no_bytes s → more ≡ cs ++ x ∷ [] → IsKept old from to n new → IsIndex more new
begun cs more s x n from to old new indexed n_is from_is to_is x_is more_is kept =
    let is_kept = subst (λ k. IsKept old s.from s.to k new) n_is (subst (λ e. IsKept old s.from e n new) to_is (subst (λ e. IsKept old e to n new) from_is kept)) in
    subst (λ l. IsIndex l new) (sym more_is) (subst (λ y. IsIndex (cs ++ y ∷ []) new) (sym x_is) (begins cs s old new indexed is_kept))

-- and as it is undone
pub undone : (cs more cut : List Connection) (x : Connection) (n : ℕ) (old new : Index) → IsIndex cs old → n ≡ length cs → more ≡ cs ++ x ∷ [] → cut ≡ take n more → IsUnchanged old new → IsIndex cut new
undone cs more cut x n old new indexed n_is more_is cut_is same =
    let is = cut_is ∙ ap (take n) more_is ∙ take_at cs (x ∷ []) n (sym n_is) in
    subst (λ l. IsIndex l new) (sym is) (unchanged cs old new indexed same)

-- ---- connections that keep their ends

was_way : (was now : Connection) (way : Way) (a b : Endpoint) → KeepsEnds was now → IsWay now way a b → IsWay was way a b
was_way was now Forth a b keeps is = (sym keeps.first ∙ is.0, sym keeps.other ∙ is.1)
was_way was now Back a b keeps is = (sym keeps.first ∙ is.0, sym keeps.other ∙ is.1)

stays_way : (was now : Connection) (way : Way) (a b : Endpoint) → KeepsEnds was now → IsWay was way a b → IsWay now way a b
stays_way was now Forth a b keeps is = (keeps.first ∙ is.0, keeps.other ∙ is.1)
stays_way was now Back a b keeps is = (keeps.first ∙ is.0, keeps.other ∙ is.1)

has_none_kept : (old new : List Connection) (a b : Endpoint) (first : ℕ) → KeepAllEnds old new → HasNone old a b first → HasNone new a b first
has_none_kept old new a b first keeps none k c from here way is =
    let w = keeps.each k c here in none k w.0 from w.1 way (was_way w.0 c way a b w.2 is)

has_last_kept : (old new : List Connection) (a b : Endpoint) (o : Option ℕ) → KeepAllEnds old new → HasLast old a b o → HasLast new a b o
has_last_kept old new a b None keeps none = has_none_kept old new a b 0 keeps none
has_last_kept old new a b (Some n) keeps p = (
  p.0,
  record {
    there = omega (arith, p.1.there, keeps.many);
    ends = λ c here. let w = keeps.each n c here in stays_way w.0 c p.0 a b w.2 (p.1.ends w.0 w.1);
    last = has_none_kept old new a b (n + 1) keeps p.1.last;
  },
)

-- it stays theirs
pub stays : (old new : List Connection) (index : Index) → KeepAllEnds old new → IsIndex old index → IsIndex new index
stays old new index keeps indexed a b = has_last_kept old new a b (number_in index a b) keeps (indexed a b)

at_set : (cs : List Connection) (n k : ℕ) (x c : Connection) → slice_get (slice_set cs n x) k ≡ Some c → ((k ≡ n) × (x ≡ c)) ⊎ (slice_get cs k ≡ Some c)
at_set [] n k x c e = absurd (cc)
at_set (y ∷ cs) zero zero x c e = inl (refl, inside x c e)
at_set (y ∷ cs) zero (suc k) x c e = inr e
at_set (y ∷ cs) (suc n) zero x c e = inr e
at_set (y ∷ cs) (suc n) (suc k) x c e = next (at_set cs n k x c e) where
  next : ((k ≡ n) × (x ≡ c)) ⊎ (slice_get cs k ≡ Some c) → ((suc k ≡ suc n) × (x ≡ c)) ⊎ (slice_get cs k ≡ Some c)
  next (inl p) = inl (ap suc p.0, p.1)
  next (inr e) = inr e

same_ends : (c : Connection) → KeepsEnds c c
same_ends c = record { first = refl; other = refl; opening = refl }

keeps_set : (old : List Connection) (n : ℕ) (was now : Connection) → slice_get old n ≡ Some was → KeepsEnds was now → KeepAllEnds old (slice_set old n now)
keeps_set old n was now before keeps = record { many = length-set old n now; each = λ k c here. judge k c (at_set old n k now c here) } where
  judge : (k : ℕ) (c : Connection) → ((k ≡ n) × (now ≡ c)) ⊎ (slice_get old k ≡ Some c) → (w : Connection) × (slice_get old k ≡ Some w) × KeepsEnds w c
  judge k c (inl p) = (was, ap (slice_get old) p.0 ∙ before, subst (λ z. KeepsEnds was z) p.1 keeps)
  judge k c (inr e) = (c, e, same_ends c)

-- where one of them changed
pub keeps_all : (old new : List Connection) (n : ℕ) (was now : Connection) → slice_get old n ≡ Some was → new ≡ slice_set old n now → KeepsEnds was now → KeepAllEnds old new
keeps_all old new n was now before after keeps = subst (λ cs. KeepAllEnds old cs) (sym after) (keeps_set old n was now before keeps)

-- ---- the last one of its ends

pub last_at : (cs : List Connection) (index : Index) (a b : Endpoint) (o : Option ℕ) (n : ℕ) → IsIndex cs index → o ≡ number_in index a b → o ≡ Some n → HasLast cs a b (Some n)
last_at cs index a b o n indexed is here = subst (λ o. HasLast cs a b o) (sym is ∙ here) (indexed a b)

pub last_way : (cs : List Connection) (c : Connection) (a b : Endpoint) (n : ℕ) (way : Way) → HasLast cs a b (Some n) → slice_get cs n ≡ Some c → IsWay c way a b → IsLast cs a b n way
last_way cs c a b n way p here is = record { there = p.1.there; ends = λ d at. subst (λ z. IsWay z way a b) (inside c d (sym here ∙ at)) is; last = p.1.last }

pub no_way : (cs : List Connection) (c : Connection) (a b : Endpoint) (n : ℕ) → HasLast cs a b (Some n) → slice_get cs n ≡ Some c → ((way : Way) → IsWay c way a b → ⊥) → ⊥
no_way cs c a b n p here apart = apart p.0 (p.1.ends c here)

pub none_at : (cs : List Connection) (index : Index) (a b : Endpoint) (o : Option ℕ) → IsIndex cs index → o ≡ number_in index a b → o ≡ None → HasNone cs a b 0
none_at cs index a b o indexed is here = subst (λ o. HasLast cs a b o) (sym is ∙ here) (indexed a b)

-- what is read at a number that is there
pub read_at : (cs : List Connection) (c : Connection) (n : ℕ) → n < length cs → c ≡ slice_index_or cs n c → slice_get cs n ≡ Some c
read_at cs c n there is = slice_get_read cs (length cs) n c refl there is
