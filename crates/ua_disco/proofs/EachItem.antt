-- One more item of an array.
use Rattle.std.proofs.Common.{◌≡◌, ℕ, ◌+◌, ◌<◌, ◌≤◌, List, [], ◌∷◌, ◌++◌, length, drop, get_or, Some, None, Result, Ok, Err, arith, refl, sym, ap, ◌∙◌, append_assoc, string_bytes, subst, suc, true, false, leb, inl, inr}
use Rattle.std.specs.List.{AllByRecursion}
use Rattle.std.specs.Fmt.{decimal}
use Rattle.std.proofs.lemmas.List.{append-nil, drop_all}
use Rattle.toml.specs.Data.{Data, Members}
use Rattle.toml.specs.Parse.{parse_document}
use Rattle.std.specs.Str.{IsUtf8, is_utf8}
use Rattle.std.proofs.lemmas.Str.{IsUtf8-from_is_utf8, is_utf8-from_IsUtf8}
use Rattle.std.proofs.lemmas.Bool.{cases_Bool, lt-leb, le-leb}
use Rattle.toml.specs.View.{view, items_view}
use Rattle.toml.specs.declared.value.Value.{Value}
use Rattle.toml.proofs.Views.{items_view-drop}
use Rattle.ua_disco.specs.declared.fault.SettingsFault.{SettingsFault}
use Rattle.ua_disco.specs.Faults.{Fault, not_toml, missing, wrong_kind, bad_value, unknown_key, IsFault, Fails, Gives, next}
use Rattle.ua_disco.specs.declared.fault.SettingsFault.TheVariants.{NotToml, Missing, WrongKind, BadValue, UnknownKey, NoMemory}
use Rattle.ua_disco.specs.Reading.{items_value, count_of, counted_items}
use Rattle.ua_disco.specs.Tables.{settings_of, table_settings, at_least_one}

-- what was read before, and what is still read
abbrev pub with_front : {V : Type 0} → List V → Result (List V) Fault → Result (List V) Fault
with_front front read = next read (λ vs. Ok (front ++ vs))

pub front_none : {V : Type 0} (read : Result (List V) Fault) → with_front [] read ≡ read
front_none (Ok x) = refl
front_none (Err e) = refl

regroup : {V : Type 0} (front : List V) (v : V) (read : Result (List V) Fault) → with_front front (next read (λ vs. Ok (v ∷ vs))) ≡ with_front (front ++ v ∷ []) read
regroup {V} front v (Ok vs) = ap (λ (xs : List V). let r : Result (List V) Fault = Ok xs in r) (simp append_assoc)
regroup front v (Err e) = refl

module _ {V : Type 0} (rule : List ℕ → Data → Result V Fault) (path : List ℕ) where
  -- one more item is read
  pub goes_on : (front : List V) (values : List Value) (i : ℕ) (d : Value) (v : V) (total : Result (List V) Fault) → i < length values → rule (path ++ 46 ∷ decimal i) (view (get_or values i d)) ≡ Ok v
      → with_front front (items_value rule path i (items_view (drop i values))) ≡ total → with_front (front ++ v ∷ []) (items_value rule path (i + 1) (items_view (drop (i + 1) values))) ≡ total
  unfolding items_value
  goes_on front values i d v total h read so_far =
      let one : with_front front (items_value rule path i (items_view (drop i values))) ≡ with_front (front ++ v ∷ []) (items_value rule path (i + 1) (items_view (drop (i + 1) values))) =
      rw (items_view-drop values i d h, read) (regroup front v (items_value rule path (i + 1) (items_view (drop (i + 1) values)))) in
      sym one ∙ so_far

  -- the item has a fault
  faulty : (front : List V) (values : List Value) (i : ℕ) (d : Value) (at : List ℕ) (f : Fault) (total : Result (List V) Fault) → i < length values → at ≡ path ++ 46 ∷ decimal i → get_or values i d ≡ d → rule at (view d) ≡ Err f
      → with_front front (items_value rule path i (items_view (drop i values))) ≡ total → total ≡ Err f
  unfolding items_value
  faulty front values i d at f total h place here fails so_far =
      let there : rule (path ++ 46 ∷ decimal i) (view (get_or values i d)) ≡ Err f = rw (here, ← place) fails in
      let one : with_front front (items_value rule path i (items_view (drop i values))) ≡ Err f = rw (items_view-drop values i d h, there) refl in
      sym so_far ∙ one

  pub ends : (e : SettingsFault) (front : List V) (values : List Value) (i : ℕ) (d : Value) (at : List ℕ) (total : Result (List V) Fault) → i < length values → at ≡ path ++ 46 ∷ decimal i → get_or values i d ≡ d → Fails e (rule at (view d))
      → with_front front (items_value rule path i (items_view (drop i values))) ≡ total → Fails e total
  ends NotToml front values i d at total h place here fails so_far = faulty front values i d at not_toml total h place here fails so_far
  ends (Missing k) front values i d at total h place here fails so_far = faulty front values i d at (missing (string_bytes k)) total h place here fails so_far
  ends (WrongKind k) front values i d at total h place here fails so_far = faulty front values i d at (wrong_kind (string_bytes k)) total h place here fails so_far
  ends (BadValue k) front values i d at total h place here fails so_far = faulty front values i d at (bad_value (string_bytes k)) total h place here fails so_far
  ends (UnknownKey k) front values i d at total h place here fails so_far = faulty front values i d at (unknown_key (string_bytes k)) total h place here fails so_far
  ends NoMemory front values i d at total h place here fails so_far = tt

  -- all are read
  pub is_done : (front : List V) (values : List Value) (i : ℕ) (total : Result (List V) Fault) → length values ≤ i → with_front front (items_value rule path i (items_view (drop i values))) ≡ total → total ≡ Ok front
  unfolding items_value
  is_done front values i total h so_far =
      let one : with_front front (items_value rule path i (items_view (drop i values))) ≡ Ok front = rw (drop_all i values h) (ap (λ (xs : List V). let r : Result (List V) Fault = Ok xs in r) (append-nil front)) in
      sym so_far ∙ one

pub all_push : {V : Type 0} (P : V → Type 0) (vs : List V) (v : V) → AllByRecursion P vs → P v → AllByRecursion P (vs ++ v ∷ [])
all_push P [] v h k = (k, tt)
all_push P (w ∷ vs) v h k = (h.0, all_push P vs v h.1 k)

count_of_view : (values : List Value) → count_of (items_view values) ≡ length values
count_of_view [] = refl
count_of_view (v ∷ vs) = ap suc (count_of_view vs)

module _ {V : Type 0} (rule : List ℕ → Data → Result V Fault) (path : List ℕ) (values : List Value) where
  pub list_gives : length values ≤ 65535 → counted_items rule path (Some (items_view values)) ≡ items_value rule path 0 (items_view values)
  list_gives h = let few : leb (count_of (items_view values)) 65535 ≡ true = le-leb (count_of (items_view values)) 65535 (omega (arith, count_of_view values, h)) in rw few refl

  pub list_long : 65535 < length values → counted_items rule path (Some (items_view values)) ≡ Err (bad_value path)
  list_long h = let many : leb (count_of (items_view values)) 65535 ≡ false = lt-leb (count_of (items_view values)) 65535 (omega (arith, count_of_view values, h)) in rw many refl

pub fault_fails : {B : Type 0} (e : SettingsFault) (f : Fault) (rule : Result B Fault) → IsFault e f → rule ≡ Err f → Fails e rule
fault_fails {B} NotToml f rule h k = k ∙ ap (λ (g : Fault). let r : Result B Fault = Err g in r) h
fault_fails {B} (Missing p) f rule h k = k ∙ ap (λ (g : Fault). let r : Result B Fault = Err g in r) h
fault_fails {B} (WrongKind p) f rule h k = k ∙ ap (λ (g : Fault). let r : Result B Fault = Err g in r) h
fault_fails {B} (BadValue p) f rule h k = k ∙ ap (λ (g : Fault). let r : Result B Fault = Err g in r) h
fault_fails {B} (UnknownKey p) f rule h k = k ∙ ap (λ (g : Fault). let r : Result B Fault = Err g in r) h
fault_fails NoMemory f rule h k = tt

pub fails_same : {B : Type 0} (e : SettingsFault) (x y : Result B Fault) → x ≡ y → Fails e y → Fails e x
fails_same {B} e x y same h = subst (λ (z : Result B Fault). Fails e z) (sym same) h

pub gives_same : {A B : Type 0} (seen : A → B) (r : Result A SettingsFault) (x y : Result B Fault) → x ≡ y → Gives seen y r → Gives seen x r
gives_same {A} {B} seen r x y same h = subst (λ (z : Result B Fault). Gives seen z r) (sym same) h

-- a text that is read as a document
pub settings_read : (text : List ℕ) (ms : Members) → IsUtf8 text → parse_document text ≡ Some ms → settings_of text ≡ table_settings ms
unfolding settings_of
settings_read text ms valid parsed = rw (is_utf8-from_IsUtf8 text valid, parsed) refl

-- a text that is none
pub settings_refused : (text : List ℕ) → (IsUtf8 text → parse_document text ≡ None) → settings_of text ≡ Err not_toml
unfolding settings_of
settings_refused text h =
    elim (cases_Bool (is_utf8 text)) [
      | inl valid ↦ rw (valid, h (IsUtf8-from_is_utf8 text valid)) refl
      | inr other ↦ rw other refl
    ]

-- the first of the steps fails
pub first_fails : {A B : Type 0} (e : SettingsFault) (r : Result A Fault) (f : A → Result B Fault) → Fails e r → Fails e (next r f)
first_fails NotToml r f h = rw h refl
first_fails (Missing k) r f h = rw h refl
first_fails (WrongKind k) r f h = rw h refl
first_fails (BadValue k) r f h = rw h refl
first_fails (UnknownKey k) r f h = rw h refl
first_fails NoMemory r f h = tt

-- a step behind one that gives a value
pub next_gives : {A B : Type 0} (r : Result A Fault) (a : A) (f : A → Result B Fault) → r ≡ Ok a → next r f ≡ f a
next_gives r a f h = rw h refl

-- items of which there is one at least
pub at_least : {V : Type 0} (path : List ℕ) (vs : List V) → 0 < length vs → at_least_one path vs ≡ Ok vs
at_least path [] some = absurd (omega (arith, some))
at_least path (v ∷ vs) some = refl

pub none_at_all : {V : Type 0} (vs : List V) → length vs ≡ 0 → vs ≡ []
none_at_all [] none = refl
none_at_all (v ∷ vs) none = absurd (omega (arith, none))
