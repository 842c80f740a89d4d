-- The keys of a table ascend, so the first unknown one is the least.
use Rattle.std.proofs.Common.{◌≡◌, ℕ, Less, nat_cmp, List, [], ◌∷◌, Option, Some, None, String, Global, string_bytes, refl, ap, ◌∙◌, inl, inr}
use Rattle.std.specs.Prelude.{if◌then◌else◌}
use Rattle.std.specs.String.{string_cmp}
use Rattle.std.specs.List.{AllByRecursion}
use Rattle.std.specs.List.Sorted.{IsStrictlySortedBy}
use Rattle.std.specs.Map.{keys_of}
use Rattle.std.specs.Cmp.Lexicographic.{slice_cmp}
use Rattle.toml.specs.Data.{Members, no_members, member}
use Rattle.toml.specs.View.{members_view}
use Rattle.toml.proofs.Views.{Entry}
use Rattle.ua_disco.specs.Reading.{is_known, lesser, least_unknown}
use Rattle.ua_disco.specs.ReadingLaws.{IsKeyOf, Names, names_least}

abbrev pub first_unknown : List (List ℕ) → Members → Option (List ℕ)
first_unknown known no_members = None
first_unknown known (member k d ms) = if is_known known k then first_unknown known ms else Some k

stands_behind : (k : String Global) (es : List Entry) → AllByRecursion (λ y. string_cmp k y ≡ Less) (keys_of es) → (l : List ℕ) → IsKeyOf l (members_view es) → slice_cmp nat_cmp (string_bytes k) l ≡ Less
stands_behind k [] h l at = absurd at
stands_behind k (e ∷ es) h l (inl same) = ap (slice_cmp nat_cmp (string_bytes k)) same ∙ h.0
stands_behind k (e ∷ es) h l (inr at) = stands_behind k es h.1 l at

lesser_front : (k : List ℕ) (known : List (List ℕ)) (ms : Members) (o : Option (List ℕ)) → Names known ms o → ((l : List ℕ) → IsKeyOf l ms → slice_cmp nat_cmp k l ≡ Less) → lesser k o ≡ k
lesser_front k known ms None n behind = refl
lesser_front k known ms (Some l) n behind = rw (behind l n.0.0) refl

pub first_is_least : (known : List (List ℕ)) (es : List Entry) → IsStrictlySortedBy string_cmp (keys_of es) → first_unknown known (members_view es) ≡ least_unknown known (members_view es)
unfolding IsStrictlySortedBy
first_is_least known [] h = refl
first_is_least known (e ∷ es) h =
    let front = lesser_front (string_bytes e.0) known (members_view es) (least_unknown known (members_view es)) (names_least known (members_view es)) (stands_behind e.0 es h.0) in
    rw (first_is_least known es h.1, front) refl
