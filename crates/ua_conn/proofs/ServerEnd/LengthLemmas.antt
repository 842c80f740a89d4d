-- An answer to an open request always has one length.
use Rattle.std.proofs.Common.{◌≡◌, ℕ, ◌≤◌, List, length, ap, ◌∙◌, arith}
use Rattle.ua_service.specs.ValueLaws.{open_response_length}
use Rattle.ua_channel.specs.declared.token.Token.{Token}
use Rattle.ua_conn.specs.server.Answers.{opened_body}

pub opened_length : (handle now channel : ℕ) (token : Token) → length (opened_body handle now channel token) ≡ 56
unfolding opened_body
opened_length handle now channel token = open_response_length now handle channel token.id token.lifetime

pub opened_short : (handle now channel : ℕ) (token : Token) (body : List ℕ) → body ≡ opened_body handle now channel token → length body ≤ 1048576
opened_short handle now channel token body e = let n : length body ≡ 56 = ap length e ∙ opened_length handle now channel token in omega (arith, n)
