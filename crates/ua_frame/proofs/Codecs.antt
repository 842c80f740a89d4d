-- Values that are read as others, and frames that are read as one of them.
use Rattle.std.proofs.Common.{◌≡◌, ℕ, List, [], ◌∷◌, Option, Some, None, Result, Ok, Err, refl, sym, ap, subst, ◌∙◌}
use Rattle.ua_value.specs.declared.fault.ReadFault.{ReadFault}
use Rattle.ua_value.specs.declared.fault.ReadFault.TheVariants.{Refused, NoMemory}
use Rattle.ua_value.specs.Format.{◌>>=◌, IsBytes, Format, IsLawful, Gives, Fails}
use Rattle.ua_value.specs.Lists.{same_some}
use Rattle.ua_value.specs.Sequence.{by}
use Rattle.ua_value.specs.Whole.{ended, only, only_takes, only_again, ReadsAll}
use Rattle.ua_frame.specs.Hello.{HelloFields, show_hello, make_hello, hello_fields, hello_layout, hello_of, ErrorFields, show_error, make_error, error_fields, error_layout, error_of, ReverseHelloFields, show_reverse_hello, make_reverse_hello, reverse_hello_fields, reverse_hello_layout, reverse_hello_of}

some_by : {V W : Type 0} (back : W → V) (r : Option (W × List ℕ)) (w : W) → (r >>= ended) ≡ Some w → ((r >>= λ x. Some (back x.0, x.1)) >>= ended) ≡ Some (back w)
some_by {V} {W} back None w e = absurd cc
some_by {V} {W} back (Some (v, [])) w e = ap (λ (x : W). let o : Option V = Some (back x) in o) (same_some v w e)
some_by {V} {W} back (Some (v, b ∷ rest)) w e = absurd cc

none_by : {V W : Type 0} (back : W → V) (r : Option (W × List ℕ)) → (r >>= ended) ≡ None → ((r >>= λ x. Some (back x.0, x.1)) >>= ended) ≡ None
none_by back None e = refl
none_by back (Some (v, [])) e = absurd cc
none_by back (Some (v, b ∷ rest)) e = refl

pub only_by : {V W : Type 0} (show : V → W) (back : W → V) (f : Format W) (bytes : List ℕ) (w : W) → only f.grammar bytes ≡ Some w → only (by show back f).grammar bytes ≡ Some (back w)
only_by show back f bytes w e = some_by back (f.grammar.front bytes) w e

pub fails_by : {V W : Type 0} (show : V → W) (back : W → V) (f : Format W) (bytes : List ℕ) (fault : ReadFault) → Fails fault (only f.grammar bytes) → Fails fault (only (by show back f).grammar bytes)
fails_by show back f bytes Refused e = none_by back (f.grammar.front bytes) e
fails_by show back f bytes NoMemory e = tt

-- A reader that gives what the whole bytes spell gives a value that they spell, and refuses none that they spell.
pub reads_all : {V : Type 0} (f : Format V) → IsLawful f → (bytes : List ℕ) → IsBytes bytes → (r : Result V ReadFault) → Gives (λ v. v) r (only f.grammar bytes) → ReadsAll f.grammar.spells bytes r
reads_all f law bytes fits (Ok v) h = only_takes f.grammar law.reads bytes v fits h
reads_all f law bytes fits (Err Refused) h = λ v s. absurd (let e = sym h ∙ only_again f.grammar law.reads bytes v s in cc)
reads_all f law bytes fits (Err NoMemory) h = tt

-- what holds beside each spelling
also : {V : Type 0} (Is : V → List ℕ → Type 0) (K : Type 0) → K → (bytes : List ℕ) (r : Result V ReadFault) → ReadsAll Is bytes r → ReadsAll (λ v b. K × Is v b) bytes r
also Is K k bytes (Ok v) h = (k, h)
also Is K k bytes (Err Refused) h = λ v s. h v s.1
also Is K k bytes (Err NoMemory) h = tt

pub reads_also : {V : Type 0} (Is : V → List ℕ → Type 0) (K : Type 0) → K → (a b : List ℕ) → a ≡ b → (r : Result V ReadFault) → ReadsAll Is a r → ReadsAll (λ v l. K × Is v l) b r
reads_also Is K k a b e r h = subst (λ (l : List ℕ). ReadsAll (λ v l. K × Is v l) l r) e (also Is K k a r h)

-- ---- the frames with a text

pub hello_some : (bytes : List ℕ) (p : HelloFields) → only hello_fields.grammar bytes ≡ Some p → hello_of bytes ≡ Some (make_hello p)
unfolding hello_layout
hello_some bytes p e = only_by show_hello make_hello hello_fields bytes p e

pub hello_fails : (bytes : List ℕ) (fault : ReadFault) → Fails fault (only hello_fields.grammar bytes) → Fails fault (hello_of bytes)
unfolding hello_layout
hello_fails bytes fault e = fails_by show_hello make_hello hello_fields bytes fault e

pub error_some : (bytes : List ℕ) (p : ErrorFields) → only error_fields.grammar bytes ≡ Some p → error_of bytes ≡ Some (make_error p)
unfolding error_layout
error_some bytes p e = only_by show_error make_error error_fields bytes p e

pub error_fails : (bytes : List ℕ) (fault : ReadFault) → Fails fault (only error_fields.grammar bytes) → Fails fault (error_of bytes)
unfolding error_layout
error_fails bytes fault e = fails_by show_error make_error error_fields bytes fault e

pub reverse_hello_some : (bytes : List ℕ) (p : ReverseHelloFields) → only reverse_hello_fields.grammar bytes ≡ Some p → reverse_hello_of bytes ≡ Some (make_reverse_hello p)
unfolding reverse_hello_layout
reverse_hello_some bytes p e = only_by show_reverse_hello make_reverse_hello reverse_hello_fields bytes p e

pub reverse_hello_fails : (bytes : List ℕ) (fault : ReadFault) → Fails fault (only reverse_hello_fields.grammar bytes) → Fails fault (reverse_hello_of bytes)
unfolding reverse_hello_layout
reverse_hello_fails bytes fault e = fails_by show_reverse_hello make_reverse_hello reverse_hello_fields bytes fault e
