-- When an answer is the same as another.
use Rattle.std.specs.Prelude.{List, [], Option, None, Some}
use Rattle.ua_compare.specs.Offer.{IsSameOffer}
use Rattle.ua_service.specs.declared.response.Response.{Response}
use Rattle.ua_service.specs.declared.response.Response.TheVariants.{FindServers, GetEndpoints}

-- what an array lists, which is nothing where it is null
abbrev pub listed : {A : Type 0} → Option (List A) → List A
listed None = []
listed (Some items) = items

-- two answers to one question that offer the same
abbrev pub AreSame : Response → Response → Type 0
AreSame (FindServers wanted) (FindServers found) = IsSameOffer (listed wanted.servers) (listed found.servers)
AreSame (GetEndpoints wanted) (GetEndpoints found) = IsSameOffer (listed wanted.endpoints) (listed found.endpoints)
AreSame _ _ = ⊥
