-- The tokens up to a place; those of a line are one object once it has ended.
use Rattle.std.proofs.Common.{◌≡◌, ℕ, List, [], ◌∷◌, ◌++◌, refl, sym, ap, ◌∙◌, append_assoc, append-nil, subst}
use Rattle.std.specs.Prelude.{⊤, fold}
use Rattle.json.specs.Token.{Token}
use Rattle.json.specs.Json.{Json, Items, no_items, item, Members, no_members}
use Rattle.json.specs.Json as json
use Rattle.json.specs.Tree.{json_tokens, items_tokens, members_tokens}
use Rattle.ua_json.specs.Nesting.{Place, start, object, member, array, broken, behind, place, valued, keyed, closed_object, closed_array}

-- ---- members and items, of which more may come

abbrev Field : Type 0
Field = List ℕ × Json

abbrev fields_tokens : List Field → List Token
fields_tokens [] = []
fields_tokens (f ∷ fs) = Token.key f.0 ∷ (json_tokens f.1 ++ fields_tokens fs)

abbrev values_tokens : List Json → List Token
values_tokens [] = []
values_tokens (j ∷ js) = json_tokens j ++ values_tokens js

abbrev members_of : List Field → Members
members_of [] = no_members
members_of (f ∷ fs) = json.member f.0 f.1 (members_of fs)

abbrev items_of : List Json → Items
items_of [] = no_items
items_of (j ∷ js) = item j (items_of js)

ended_members : (fs : List Field) → fields_tokens fs ++ Token.end_object ∷ [] ≡ members_tokens (members_of fs)
ended_members [] = refl
ended_members (f ∷ fs) =
    ap (λ ts. Token.key f.0 ∷ ts) (append_assoc (json_tokens f.1) (fields_tokens fs) (Token.end_object ∷ []) ∙ ap (λ ts. json_tokens f.1 ++ ts) (ended_members fs))

ended_items : (js : List Json) → values_tokens js ++ Token.end_array ∷ [] ≡ items_tokens (items_of js)
ended_items [] = refl
ended_items (j ∷ js) = append_assoc (json_tokens j) (values_tokens js) (Token.end_array ∷ []) ∙ ap (λ ts. json_tokens j ++ ts) (ended_items js)

more_fields : (fs : List Field) (k : List ℕ) (j : Json) → (fields_tokens fs ++ Token.key k ∷ []) ++ json_tokens j ≡ fields_tokens (fs ++ (k, j) ∷ [])
more_fields [] k j = ap (λ ts. Token.key k ∷ ts) (sym (append-nil (json_tokens j)))
more_fields (f ∷ fs) k j =
    ap (λ ts. Token.key f.0 ∷ ts)
    (ap (λ ts. ts ++ json_tokens j) (append_assoc (json_tokens f.1) (fields_tokens fs) (Token.key k ∷ [])) ∙ append_assoc (json_tokens f.1) (fields_tokens fs ++ Token.key k ∷ []) (json_tokens j)
    ∙ ap (λ ts. json_tokens f.1 ++ ts) (more_fields fs k j))

more_values : (js : List Json) (j : Json) → values_tokens js ++ json_tokens j ≡ values_tokens (js ++ j ∷ [])
more_values [] j = sym (append-nil (json_tokens j))
more_values (i ∷ js) j = append_assoc (json_tokens i) (values_tokens js) (json_tokens j) ∙ ap (λ ts. json_tokens i ++ ts) (more_values js j)

-- ---- what came up to a place

abbrev Came : Place → List Token → Type 0
Came start ts = ts ≡ []
Came (object p) ts = (front : List Token) × (fs : List Field) × Came p front × (ts ≡ front ++ Token.begin_object ∷ fields_tokens fs)
Came (member p) ts = (front : List Token) × (fs : List Field) × (k : List ℕ) × Came p front × (ts ≡ front ++ Token.begin_object ∷ (fields_tokens fs ++ Token.key k ∷ []))
Came (array p) ts = (front : List Token) × (js : List Json) × Came p front × (ts ≡ front ++ Token.begin_array ∷ values_tokens js)
Came broken ts = ⊤

came_value : (p : Place) (ts : List Token) (j : Json) → Came p ts → Came (valued p) (ts ++ json_tokens j)
came_value start ts j h = tt
came_value (object p) ts j h = tt
came_value (member p) ts j h = (
  h.0,
  h.1 ++ (h.2, j) ∷ [],
  h.3,
  ap (λ us. us ++ json_tokens j) h.4 ∙ append_assoc h.0 (Token.begin_object ∷ (fields_tokens h.1 ++ Token.key h.2 ∷ [])) (json_tokens j)
      ∙ ap (λ us. h.0 ++ Token.begin_object ∷ us) (more_fields h.1 h.2 j),
)
came_value (array p) ts j h = (
  h.0,
  h.1 ++ j ∷ [],
  h.2,
  ap (λ us. us ++ json_tokens j) h.3 ∙ append_assoc h.0 (Token.begin_array ∷ values_tokens h.1) (json_tokens j) ∙ ap (λ us. h.0 ++ Token.begin_array ∷ us) (more_values h.1 j),
)
came_value broken ts j h = tt

came_key : (p : Place) (ts : List Token) (k : List ℕ) → Came p ts → Came (keyed p) (ts ++ Token.key k ∷ [])
came_key start ts k h = tt
came_key (object p) ts k h = (h.0, h.1, k, h.2, ap (λ us. us ++ Token.key k ∷ []) h.3 ∙ append_assoc h.0 (Token.begin_object ∷ fields_tokens h.1) (Token.key k ∷ []))
came_key (member p) ts k h = tt
came_key (array p) ts k h = tt
came_key broken ts k h = tt

whole_object : (front ts : List Token) (fs : List Field) → ts ≡ front ++ Token.begin_object ∷ fields_tokens fs → front ++ json_tokens (json.object (members_of fs)) ≡ ts ++ Token.end_object ∷ []
whole_object front ts fs e =
    ap (λ us. front ++ Token.begin_object ∷ us) (sym (ended_members fs)) ∙ sym (append_assoc front (Token.begin_object ∷ fields_tokens fs) (Token.end_object ∷ [])) ∙ ap (λ us. us ++ Token.end_object ∷ []) (sym e)

whole_array : (front ts : List Token) (js : List Json) → ts ≡ front ++ Token.begin_array ∷ values_tokens js → front ++ json_tokens (json.array (items_of js)) ≡ ts ++ Token.end_array ∷ []
whole_array front ts js e =
    ap (λ us. front ++ Token.begin_array ∷ us) (sym (ended_items js)) ∙ sym (append_assoc front (Token.begin_array ∷ values_tokens js) (Token.end_array ∷ [])) ∙ ap (λ us. us ++ Token.end_array ∷ []) (sym e)

came_object : (p : Place) (ts : List Token) → Came p ts → Came (closed_object p) (ts ++ Token.end_object ∷ [])
came_object start ts h = tt
came_object (object p) ts h = subst (Came (valued p)) (whole_object h.0 ts h.1 h.3) (came_value p h.0 (json.object (members_of h.1)) h.2)
came_object (member p) ts h = tt
came_object (array p) ts h = tt
came_object broken ts h = tt

came_array : (p : Place) (ts : List Token) → Came p ts → Came (closed_array p) (ts ++ Token.end_array ∷ [])
came_array start ts h = tt
came_array (object p) ts h = tt
came_array (member p) ts h = tt
came_array (array p) ts h = subst (Came (valued p)) (whole_array h.0 ts h.1 h.3) (came_value p h.0 (json.array (items_of h.1)) h.2)
came_array broken ts h = tt

came_behind : (p : Place) (ts : List Token) (t : Token) → Came p ts → Came (behind p t) (ts ++ t ∷ [])
came_behind p ts Token.begin_object h = (ts, [], h, refl)
came_behind p ts Token.end_object h = came_object p ts h
came_behind p ts Token.begin_array h = (ts, [], h, refl)
came_behind p ts Token.end_array h = came_array p ts h
came_behind p ts (Token.key k) h = came_key p ts k h
came_behind p ts (Token.string s) h = came_value p ts (json.string s) h
came_behind p ts (Token.number s) h = came_value p ts (json.number s) h
came_behind p ts (Token.boolean b) h = came_value p ts (json.boolean b) h
came_behind p ts Token.null h = came_value p ts json.null h
came_behind p ts Token.bad h = tt

came_all : (p : Place) (ts us : List Token) → Came p ts → Came (fold behind p us) (ts ++ us)
came_all p ts [] h = subst (Came p) (sym (append-nil ts)) h
came_all p ts (u ∷ us) h = subst (Came (fold behind (behind p u) us)) (append_assoc ts (u ∷ []) us) (came_all (behind p u) (ts ++ u ∷ []) us (came_behind p ts u h))

-- where the object of the line is open and nothing in it, its end makes it one object
pub whole_line : (ts : List Token) → place ts ≡ object start → (ms : Members) × (ts ++ Token.end_object ∷ [] ≡ json_tokens (json.object ms))
whole_line ts e =
    let came : Came (object start) ts = subst (λ p. Came p ts) e (came_all start [] ts refl) in
    (members_of came.1, sym (whole_object came.0 ts came.1 came.3) ∙ ap (λ us. us ++ json_tokens (json.object (members_of came.1))) came.2)
