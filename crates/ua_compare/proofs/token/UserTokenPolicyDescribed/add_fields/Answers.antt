use Rattle.std.proofs.Common.{rules}
use Rattle.ua_compare.proofs.SaidLemmas.{says_then}
use Rattle.ua_compare.proofs.token.UserTokenPolicyDescribed.add_fields.Goals as goal

pub returns : goal.returns
returns c = search (rules, says_then)
