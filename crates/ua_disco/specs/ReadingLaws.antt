-- The unknown key that a fault names is the least.
use Rattle.std.proofs.Common.{◌≡◌, ℕ, Ordering, Less, Equal, Greater, nat_cmp, Bool, true, false, List, Option, Some, None, refl, sym, ap, ◌∙◌, ◌⊎◌, inl, inr}
use Rattle.std.proofs.lemmas.Bool.{false≢true}
use Rattle.std.proofs.lemmas.Cmp.{nat_list_cmp_total}
use Rattle.std.specs.Prelude.{if◌then◌else◌}
use Rattle.std.specs.Ordering.{is_gt, ordering_reverse}
use Rattle.std.specs.Cmp.{upto, tied_itself}
use Rattle.std.specs.Cmp.Lexicographic.{slice_cmp}
use Rattle.toml.specs.Data.{Data, Members, no_members, member}
use Rattle.ua_disco.specs.Reading.{is_known, lesser, least_unknown}

abbrev pub IsKeyOf : List ℕ → Members → Type 0
IsKeyOf l no_members = ⊥
IsKeyOf l (member k d ms) = (l ≡ k) ⊎ IsKeyOf l ms

abbrev pub IsUnknown : List (List ℕ) → Members → List ℕ → Type 0
IsUnknown known ms k = IsKeyOf k ms × (is_known known k ≡ false)

-- an unknown key that is above no other one, by their bytes
abbrev pub IsLeast : List (List ℕ) → Members → List ℕ → Type 0
IsLeast known ms k = IsUnknown known ms k × ((l : List ℕ) → IsUnknown known ms l → is_gt (slice_cmp nat_cmp k l) ≡ false)

-- the least unknown key, or none where all are known
abbrev pub Names : List (List ℕ) → Members → Option (List ℕ) → Type 0
Names known ms None = (l : List ℕ) → IsUnknown known ms l → ⊥
Names known ms (Some k) = IsLeast known ms k

abbrev pub LeastUnknown : Type 0
LeastUnknown = (known : List (List ℕ)) (ms : Members) → Names known ms (least_unknown known ms)

turned : (r : Ordering) → is_gt r ≡ true → is_gt (ordering_reverse r) ≡ false
turned Less h = absurd cc
turned Equal h = absurd cc
turned Greater h = refl

above_itself : (k l : List ℕ) → l ≡ k → is_gt (slice_cmp nat_cmp k l) ≡ false
above_itself k l same = ap (λ x. is_gt (slice_cmp nat_cmp k x)) same ∙ ap is_gt (tied_itself nat_list_cmp_total k)

is_clear : (known : List (List ℕ)) (j l : List ℕ) → is_known known j ≡ true → is_known known l ≡ false → l ≡ j → ⊥
is_clear known j l e unknown same = false≢true (sym unknown ∙ ap (is_known known) same ∙ e)

-- the lesser of an unknown key and the least of those behind it
of_two : (known : List (List ℕ)) (j : List ℕ) (d : Data) (ms : Members) (k : List ℕ) (b : Bool) → is_gt (slice_cmp nat_cmp j k) ≡ b → is_known known j ≡ false → IsLeast known ms k
    → IsLeast known (member j d ms) (if b then k else j)
of_two known j d ms k true g e h = (
  (inr h.0.0, h.0.1),
  λ l u. elim u.0 [
    | inl same ↦ ap (λ x. is_gt (slice_cmp nat_cmp k x)) same ∙ ap is_gt (nat_list_cmp_total.antisymm k j) ∙ turned (slice_cmp nat_cmp j k) g
    | inr later ↦ h.1 l (later, u.1)
  ],
)
of_two known j d ms k false g e h = (
  (inl refl, e),
  λ l u. elim u.0 [
    | inl same ↦ above_itself j l same
    | inr later ↦ upto nat_list_cmp_total j k l g (h.1 l (later, u.1))
  ],
)

with_one : (known : List (List ℕ)) (j : List ℕ) (d : Data) (ms : Members) (b : Bool) (o : Option (List ℕ)) → is_known known j ≡ b → Names known ms o → Names known (member j d ms) (if b then o else Some (lesser j o))
with_one known j d ms true None e h = λ l u. elim u.0 [
  | inl same ↦ is_clear known j l e u.1 same
  | inr later ↦ h l (later, u.1)
]
with_one known j d ms true (Some k) e h = (
  (inr h.0.0, h.0.1),
  λ l u. elim u.0 [
    | inl same ↦ absurd (is_clear known j l e u.1 same)
    | inr later ↦ h.1 l (later, u.1)
  ],
)
with_one known j d ms false None e h = (
  (inl refl, e),
  λ l u. elim u.0 [
    | inl same ↦ above_itself j l same
    | inr later ↦ absurd (h l (later, u.1))
  ],
)
with_one known j d ms false (Some k) e h = of_two known j d ms k (is_gt (slice_cmp nat_cmp j k)) refl e h

pub names_least : LeastUnknown
names_least known no_members = λ l u. u.0
names_least known (member j d ms) = with_one known j d ms (is_known known j) (least_unknown known ms) refl (names_least known ms)
