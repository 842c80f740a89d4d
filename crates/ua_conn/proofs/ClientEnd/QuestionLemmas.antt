-- What a client says for itself always has one length.
use Rattle.std.proofs.Common.{◌≡◌, ℕ, ◌≤◌, List, length, ap, ◌∙◌, arith}
use Rattle.ua_service.specs.ValueLaws.{open_request_length, close_request_length}
use Rattle.ua_conn.specs.client.Questions.{open_asked_body, close_asked_body}

pub open_length : (now id type lifetime : ℕ) → length (open_asked_body now id type lifetime) ≡ 53
unfolding open_asked_body
open_length now id type lifetime = open_request_length now id type lifetime

pub close_length : (now id : ℕ) → length (close_asked_body now id) ≡ 33
unfolding close_asked_body
close_length now id = close_request_length now id

pub open_short : (now id type lifetime : ℕ) (body : List ℕ) → body ≡ open_asked_body now id type lifetime → length body ≤ 1048576
open_short now id type lifetime body e = let n : length body ≡ 53 = ap length e ∙ open_length now id type lifetime in omega (arith, n)

pub close_short : (now id : ℕ) (body : List ℕ) → body ≡ close_asked_body now id → length body ≤ 1048576
close_short now id body e = let n : length body ≡ 33 = ap length e ∙ close_length now id in omega (arith, n)
