use Rattle.std.proofs.Common.{◌≡◌, ℕ, List, [], ◌∷◌, ◌++◌, length, Bool, true, false, Option, Some, refl, sym, ap, subst, ◌∙◌, arith, append_assoc, length-append}
use Rattle.ua_value.specs.Format.{◌>>=◌, IsBytes, Grammar, Format, Takes, IsGrammar, IsLawful}
use Rattle.ua_value.specs.Lists.{IsBytes-rest, bind_some, same_pair}
use Rattle.ua_value.specs.Sequence.{both, made, never, absent, either, part, headed, pair, by}

abbrev joined : {V W : Type 0} → Grammar W → V × List ℕ → Option ((V × W) × List ℕ)
joined g x = g.front x.1 >>= λ y. Some ((x.0, y.0), y.1)

-- every spelling of v is one of w, where they are the same
pub takes_as : {V : Type 0} (g : Grammar V) (bytes text : List ℕ) (v w : V) (rest more : List ℕ) → let s : Option (V × List ℕ) = Some (v, rest) in let t : Option (V × List ℕ) = Some (w, more) in s ≡ t → bytes ≡ text ++ rest → g.spells v text → Takes g bytes w more
takes_as g bytes text v w rest more e parts s =
    let p = same_pair v w rest more e in
    record { text = text; parts = parts ∙ ap (λ (l : List ℕ). text ++ l) p.1; spelled = subst (λ x. g.spells x text) p.0 s }

pub both_reads : {V W : Type 0} (f : Grammar V) (g : Grammar W) → IsGrammar f → IsGrammar g → IsGrammar (both f g)
both_reads {V} {W} f g law also = record {
  takes = λ bytes v rest fits e.
      let one = bind_some (f.front bytes) (joined g) (v, rest) e in
      let two = bind_some (g.front one.0.1) (λ y. Some ((one.0.0, y.0), y.1)) (v, rest) one.2 in
      let s = law.takes bytes one.0.0 one.0.1 fits one.1 in
      let t = also.takes one.0.1 two.0.0 two.0.1 (IsBytes-rest bytes s.text one.0.1 fits s.parts) two.1 in
      takes_as (both f g) bytes (s.text ++ t.text) (one.0.0, two.0.0) v two.0.1 rest two.2
      (s.parts ∙ ap (λ (l : List ℕ). s.text ++ l) t.parts ∙ sym (append_assoc s.text t.text two.0.1))
      (s.text, t.text, s.spelled, t.spelled, refl);
  again = λ v a rest s.
      let cut : a ++ rest ≡ s.0 ++ (s.1 ++ rest) = ap (λ (l : List ℕ). l ++ rest) s.4 ∙ append_assoc s.0 s.1 rest in
      ap (λ (l : List ℕ). f.front l >>= joined g) cut ∙ rw (law.again v.0 s.0 (s.1 ++ rest) s.2, also.again v.1 s.1 rest s.3) refl;
}

pub made_reads : {P V : Type 0} (make : P → V) (f : Grammar P) → IsGrammar f → IsGrammar (made make f)
made_reads {P} {V} make f law = record {
  takes = λ bytes v rest fits e.
      let one = bind_some (f.front bytes) (λ x. Some (make x.0, x.1)) (v, rest) e in
      let s = law.takes bytes one.0.0 one.0.1 fits one.1 in
      takes_as (made make f) bytes s.text (make one.0.0) v one.0.1 rest one.2 s.parts (one.0.0, s.spelled, refl);
  again = λ v a rest s. rw (law.again s.0 a rest s.1) (ap (λ (w : V). let r : Option (V × List ℕ) = Some (w, rest) in r) (sym s.2));
}

pub never_reads : {V : Type 0} → IsGrammar {V = V} never
never_reads = record { takes = λ bytes v rest fits e. absurd cc; again = λ v a rest s. absurd s }

pub absent_reads : {V : Type 0} (none : V) → IsGrammar (absent none)
absent_reads {V} none = record {
  takes = λ bytes v rest fits e. takes_as (absent none) bytes [] none v bytes rest e refl (refl, refl);
  again = λ v a rest s. let r : V → List ℕ → Option (V × List ℕ) = λ w l. Some (w, l) in ap (λ (l : List ℕ). r none (l ++ rest)) s.1 ∙ ap (λ (w : V). r w rest) (sym s.0);
}

pub either_reads : {V : Type 0} (b : Bool) (f g : Grammar V) → IsGrammar f → IsGrammar g → IsGrammar (either b f g)
either_reads true f g law also = law
either_reads false f g law also = also

pub part_reads : {V : Type 0} (flagged : Bool) (none : V) (f : Grammar V) → IsGrammar f → IsGrammar (part flagged none f)
part_reads flagged none f law = either_reads flagged f (absent none) law (absent_reads none)

headed_takes : {V : Type 0} (f : ℕ → Grammar V) → ((k : ℕ) → IsGrammar (f k)) → (bytes : List ℕ) (v : V) (rest : List ℕ) → IsBytes bytes → (headed f).front bytes ≡ Some (v, rest) → Takes (headed f) bytes v rest
headed_takes f law [] v rest fits e = absurd cc
headed_takes f law (k ∷ l) v rest fits e =
    let s = (law k).takes l v rest (IsBytes-rest (k ∷ l) (k ∷ []) l fits refl) e in
    record { text = k ∷ s.text; parts = ap (λ (t : List ℕ). k ∷ t) s.parts; spelled = (k, s.text, fits 0, s.spelled, refl) }

pub headed_reads : {V : Type 0} (f : ℕ → Grammar V) → ((k : ℕ) → IsGrammar (f k)) → IsGrammar (headed f)
headed_reads f law = record {
  takes = headed_takes f law;
  again = λ v a rest s. ap (λ (l : List ℕ). (headed f).front (l ++ rest)) s.4 ∙ (law s.0).again v s.1 rest s.3;
}

-- ---- formats

pub lawful_pair : {V W : Type 0} (f : Format V) (g : Format W) → IsLawful f → IsLawful g → IsLawful (pair f g)
lawful_pair f g law also = record {
  reads = both_reads f.grammar g.grammar law.reads also.reads;
  nonempty = λ v a s. omega (arith, law.nonempty v.0 s.0 s.2, ap length s.4, length-append s.0 s.1);
  canonical = λ v h. (f.canon v.0, g.canon v.1, law.canonical v.0 h.0, also.canonical v.1 h.1, refl);
  shortest = λ v a s. omega (arith, law.shortest v.0 s.0 s.2, also.shortest v.1 s.1 s.3, ap length s.4, length-append s.0 s.1, length-append (f.canon v.0) (g.canon v.1));
  a_value = λ v a s h. (law.a_value v.0 s.0 s.2 (omega (arith, ap length s.4, length-append s.0 s.1)), also.a_value v.1 s.1 s.3 (omega (arith, ap length s.4, length-append s.0 s.1)));
}

pub lawful_by : {V W : Type 0} (show : V → W) (back : W → V) (f : Format W) → ((v : V) → back (show v) ≡ v) → ((w : W) → show (back w) ≡ w) → IsLawful f → IsLawful (by show back f)
lawful_by {V} {W} show back f shown made law = record {
  reads = record {
    takes = λ bytes v rest fits e.
        let one = bind_some (f.grammar.front bytes) (λ x. Some (back x.0, x.1)) (v, rest) e in
        let s = law.reads.takes bytes one.0.0 one.0.1 fits one.1 in
        takes_as (by show back f).grammar bytes s.text (back one.0.0) v one.0.1 rest one.2 s.parts (subst (λ (w : W). f.grammar.spells w s.text) (sym (made one.0.0)) s.spelled);
    again = λ v a rest s. rw (law.reads.again (show v) a rest s) (ap (λ (w : V). let r : Option (V × List ℕ) = Some (w, rest) in r) (shown v));
  };
  nonempty = λ v. law.nonempty (show v);
  canonical = λ v. law.canonical (show v);
  shortest = λ v. law.shortest (show v);
  a_value = λ v. law.a_value (show v);
}
