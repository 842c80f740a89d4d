-- How long the frames before a secure channel are, and that each is read back as it was written.
use Rattle.std.proofs.Common.{◌≡◌, ◌+◌, ℕ, List, ◌++◌, length, length-append, Option, Some, None, refl, arith}
use Rattle.std.specs.Int.{w32, to_le_bytes}
use Rattle.ua_value.specs.Format.{Format, IsLawful}
use Rattle.ua_value.specs.Number.{unsigned}
use Rattle.ua_value.specs.NumberLaws.{wide_32}
use Rattle.ua_value.specs.Text.{string, bytes_of}
use Rattle.ua_value.specs.Whole.{only, only_again}
use Rattle.ua_frame.specs.declared.hello.Hello.{Hello}
use Rattle.ua_frame.specs.declared.acknowledge.Ack.{Ack}
use Rattle.ua_frame.specs.declared.error_frame.ErrorFrame.{ErrorFrame}
use Rattle.ua_frame.specs.declared.reverse_hello.ReverseHello.{ReverseHello}
use Rattle.ua_frame.specs.Hello.{hello_layout, acknowledge_layout, error_layout, reverse_hello_layout, lawful_hello, lawful_acknowledge, lawful_error, lawful_reverse_hello, hello_of, acknowledge_of, error_of, reverse_hello_of, text_bytes}

-- ---- lengths

number_length : (n : ℕ) → length ((unsigned w32).canon n) ≡ 4
unfolding unsigned
number_length n = refl

-- a number, and then what is as long
number_then : (n m : ℕ) (bytes : List ℕ) → length bytes ≡ m → length ((unsigned w32).canon n ++ bytes) ≡ 4 + m
number_then n m bytes e = omega (arith, e, length-append ((unsigned w32).canon n) bytes, number_length n)

pub hello_length : (h : Hello) → length (hello_layout.canon h) ≡ 20 + length (string.canon h.url)
unfolding hello_layout
hello_length h =
    let n = length (string.canon h.url) in
    let all = number_then h.version (4 + (4 + (4 + (4 + n)))) _ (number_then h.receive (4 + (4 + (4 + n))) _ (number_then h.send (4 + (4 + n)) _ (number_then h.max_message (4 + n) _ (number_then h.max_chunks n (string.canon h.url) refl)))) in
    omega (arith, all)

pub acknowledge_length : (a : Ack) → length (acknowledge_layout.canon a) ≡ 20
unfolding acknowledge_layout
acknowledge_length a = number_then a.version 16 _ (number_then a.receive 12 _ (number_then a.send 8 _ (number_then a.max_message 4 _ (number_length a.max_chunks))))

pub error_length : (e : ErrorFrame) → length (error_layout.canon e) ≡ 4 + length (string.canon e.reason)
unfolding error_layout
error_length e = number_then e.status (length (string.canon e.reason)) (string.canon e.reason) refl

pub text_length : (text : Option (List ℕ)) → length (string.canon text) ≡ 4 + text_bytes text
unfolding bytes_of
text_length None = refl
text_length (Some text) = omega (arith, length-append (to_le_bytes w32 (length text)) text, wide_32.len (length text))

pub reverse_hello_length : (r : ReverseHello) → length (reverse_hello_layout.canon r) ≡ 8 + (text_bytes r.server_uri + text_bytes r.endpoint_url)
unfolding reverse_hello_layout
reverse_hello_length r =
    let uri = string.canon r.server_uri in
    let url = string.canon r.endpoint_url in
    omega (arith, length-append uri url, text_length r.server_uri, text_length r.endpoint_url)

-- ---- read back

read_back : {V : Type 0} (f : Format V) → IsLawful f → (v : V) → f.IsValue v → only f.grammar (f.canon v) ≡ Some v
read_back f law v is = only_again f.grammar law.reads (f.canon v) v (law.canonical v is)

pub hello_back : (h : Hello) → hello_layout.IsValue h → hello_of (hello_layout.canon h) ≡ Some h
hello_back h is = read_back hello_layout lawful_hello h is

pub acknowledge_back : (a : Ack) → acknowledge_layout.IsValue a → acknowledge_of (acknowledge_layout.canon a) ≡ Some a
acknowledge_back a is = read_back acknowledge_layout lawful_acknowledge a is

pub error_back : (e : ErrorFrame) → error_layout.IsValue e → error_of (error_layout.canon e) ≡ Some e
error_back e is = read_back error_layout lawful_error e is

pub reverse_hello_back : (r : ReverseHello) → reverse_hello_layout.IsValue r → reverse_hello_of (reverse_hello_layout.canon r) ≡ Some r
reverse_hello_back r is = read_back reverse_hello_layout lawful_reverse_hello r is
