-- Two ends, in whichever order they are named.
use Rattle.std.proofs.Common.{◌≡◌, ◌⊎◌, Bool, true, false, Ordering, refl, sym, ap, ◌∙◌, subst, inl, inr, if◌then◌else◌}
use Rattle.std.specs.declared.cmp.Ordering.TheVariants.{Less, Equal, Greater}
use Rattle.std.specs.Ordering.{is_lt, nat_cmp, ordering_then, ordering_reverse}
use Rattle.std.specs.Cmp.{IsTotalOrder}
use Rattle.std.proofs.lemmas.Map.Lookups.{exact_unsigned, exact_bytes}
use Rattle.ua_capture.specs.declared.packet.Address.{Address}
use Rattle.ua_capture.specs.declared.packet.Address.TheVariants.{Four, Six}
use Rattle.ua_capture.specs.declared.packet.Endpoint.{Endpoint}
use Rattle.ua_capture.specs.contracts.packet.AddressOrd.TheImpl as addresses
use Rattle.ua_capture.specs.contracts.packet.EndpointOrd.TheImpl.Laws as end_laws
use Rattle.ua_stream.specs.contracts.ends.EndsOrd.TheImpl.Laws as ends_laws
use Rattle.ua_stream.specs.declared.ends.Ends.{Ends}
use Rattle.ua_stream.specs.Ends.{end_cmp, ends_cmp, ends_of}

abbrev address_cmp : Address → Address → Ordering
address_cmp = (addresses.ghosts).cmp

exact_address : (x y : Address) → address_cmp x y ≡ Equal → x ≡ y
exact_address (Four a) (Four b) e = ap Four (exact_bytes a b e)
exact_address (Four a) (Six b) e = absurd (cc)
exact_address (Six a) (Four b) e = absurd (cc)
exact_address (Six a) (Six b) e = ap Six (exact_bytes a b e)

first_equal : (r s : Ordering) → ordering_then r s ≡ Equal → (r ≡ Equal) × (s ≡ Equal)
first_equal Less s e = absurd (cc)
first_equal Equal s e = (refl, e)
first_equal Greater s e = absurd (cc)

same_end : (x y : Endpoint) → x.address ≡ y.address → x.port ≡ y.port → x ≡ y
same_end x y a p = λ i. record { address = a i; port = p i }

same_ends : (x y : Ends) → x.lower ≡ y.lower → x.higher ≡ y.higher → x ≡ y
same_ends x y l h = λ i. record { lower = l i; higher = h i }

exact_end : (x y : Endpoint) → end_cmp x y ≡ Equal → x ≡ y
exact_end x y e =
    let p = first_equal (address_cmp x.address y.address) (nat_cmp x.port y.port) e in
    same_end x y (exact_address x.address y.address p.0) (exact_unsigned x.port y.port p.1)

-- the order tells all ends apart
pub exact_ends : (x y : Ends) → ends_cmp x y ≡ Equal → x ≡ y
exact_ends x y e =
    let p = first_equal (end_cmp x.lower y.lower) (end_cmp x.higher y.higher) e in
    same_ends x y (exact_end x.lower y.lower p.0) (exact_end x.higher y.higher p.1)

pub end_total : IsTotalOrder end_cmp
end_total = end_laws.total-law

pub ends_total : IsTotalOrder ends_cmp
ends_total = ends_laws.total-law

-- of two ends that differ just one is lower
either_lower : (x y : Endpoint) (r s : Ordering) → end_cmp x y ≡ r → end_cmp y x ≡ s → r ≡ ordering_reverse s → ends_of x y ≡ ends_of y x
either_lower x y Less Less xy yx e = absurd (cc)
either_lower x y Less Equal xy yx e = absurd (cc)
either_lower x y Less Greater xy yx e = rw xy (rw yx refl)
either_lower x y Equal Less xy yx e = absurd (cc)
either_lower x y Equal Equal xy yx e = subst (λ z. ends_of x z ≡ ends_of z x) (exact_end x y xy) refl
either_lower x y Equal Greater xy yx e = absurd (cc)
either_lower x y Greater Less xy yx e = rw xy (rw yx refl)
either_lower x y Greater Equal xy yx e = absurd (cc)
either_lower x y Greater Greater xy yx e = absurd (cc)

-- whichever of them is named first
pub ends_back : (x y : Endpoint) → ends_of x y ≡ ends_of y x
ends_back x y = either_lower x y (end_cmp x y) (end_cmp y x) refl refl (end_total.antisymm x y)

-- two ends are these in one order or the other
abbrev pub IsPair : Ends → Endpoint → Endpoint → Type 0
IsPair p x y = ((p.lower ≡ x) × (p.higher ≡ y)) ⊎ ((p.lower ≡ y) × (p.higher ≡ x))

placed : (x y : Endpoint) (b : Bool) → IsPair (if b then record { lower = x; higher = y } else record { lower = y; higher = x }) x y
placed x y true = inl (refl, refl)
placed x y false = inr (refl, refl)

is_pair : (x y : Endpoint) → IsPair (ends_of x y) x y
is_pair x y = placed x y (is_lt (end_cmp x y))

-- they are no other two
pub ends_apart : (a b x y : Endpoint) → ends_of a b ≡ ends_of x y → ((a ≡ x) × (b ≡ y)) ⊎ ((a ≡ y) × (b ≡ x))
ends_apart a b x y e = join (ends_of x y) (subst (λ p. IsPair p a b) e (is_pair a b)) (is_pair x y) where
  join : (p : Ends) → IsPair p a b → IsPair p x y → ((a ≡ x) × (b ≡ y)) ⊎ ((a ≡ y) × (b ≡ x))
  join p (inl ab) (inl xy) = inl (sym ab.0 ∙ xy.0, sym ab.1 ∙ xy.1)
  join p (inl ab) (inr xy) = inr (sym ab.0 ∙ xy.0, sym ab.1 ∙ xy.1)
  join p (inr ab) (inl xy) = inr (sym ab.1 ∙ xy.1, sym ab.0 ∙ xy.0)
  join p (inr ab) (inr xy) = inl (sym ab.1 ∙ xy.1, sym ab.0 ∙ xy.0)
