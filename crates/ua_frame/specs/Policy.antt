-- Security policies.
use Rattle.std.specs.Prelude.{ℕ, List, codes}

-- the URI of the policy None
abbrev pub policy_none : List ℕ
policy_none = codes "http://opcfoundation.org/UA/SecurityPolicy#None"
