-- Reading plain values one after another.
use Rattle.std.proofs.Common.{◌≡◌, ◌≤◌, ℕ, List, Some, refl, arith}
use Rattle.ua_value.specs.declared.fault.ReadFault.{ReadFault}
use Rattle.ua_value.specs.declared.fault.ReadFault.TheVariants.{Refused, NoMemory}
use Rattle.ua_value.specs.Format.{Grammar, Fails}
use Rattle.ua_value.specs.Array.{items_at}
use Rattle.ua_value.specs.Sequence.{made}
use Rattle.ua_variant.specs.Kinds.{Kind, plain, variant_kind, data_kind, info_kind, kind_number}
use Rattle.ua_variant.specs.Reading.{leaves, elements_within}

-- a value that was read, as what is made of it
pub one_made : {P V : Type 0} (make : P → V) (g : Grammar P) (bytes : List ℕ) (p : P) (v : V) (after : List ℕ) → g.front bytes ≡ Some (p, after) → v ≡ make p → (made make g).front bytes ≡ Some (v, after)
one_made make g bytes p v after h e = rw (h, e) refl

pub none_made : {P V : Type 0} (make : P → V) (g : Grammar P) (e : ReadFault) (bytes : List ℕ) → Fails e (g.front bytes) → Fails e ((made make g).front bytes)
none_made make g NoMemory bytes h = tt
none_made make g Refused bytes h = rw h refl

-- plain values are the same at any depth
pub plain_items : (d : ℕ) (k : Kind) (n : ℕ) (bytes : List ℕ) → kind_number k ≤ 22 → items_at (elements_within d k) n bytes ≡ items_at (leaves k) n bytes
plain_items d (plain p) n bytes h = refl
plain_items d data_kind n bytes h = absurd (omega arith)
plain_items d variant_kind n bytes h = absurd (omega arith)
plain_items d info_kind n bytes h = absurd (omega arith)
