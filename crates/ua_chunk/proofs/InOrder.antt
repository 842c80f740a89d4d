-- The bytes of a frame, put one after another.
use Rattle.std.proofs.Common.{◌≡◌, ℕ, ◌+◌, List, [], ◌∷◌, ◌++◌, length, Result, Ok, Err, refl, ap, ◌∙◌, arith, append_assoc, slice_index_or}
use Rattle.std.specs.Prelude.{if◌then◌else◌, is_ok, OnOk}
use Rattle.std.specs.Int.{w32, to_le_bytes}
use Rattle.ua_value.specs.Number.{unsigned}
use Rattle.ua_frame.specs.Layout.{header, name_of}
use Rattle.ua_frame.specs.declared.kind.Kind.{Kind}
use Rattle.ua_frame.specs.declared.kind.Kind.TheVariants.{Hello, Acknowledge, Error, ReverseHello, Open, Message, Close}
use Rattle.ua_value.specs.Text.{bytes_of, null}
use Rattle.ua_chunk.specs.Layout.{chunk_header, open_header, policy_none}
use Rattle.ua_chunk.specs.Written.{chunk_frame, open_frame}

pub ok_is : {T E : Type 0} (r : Result T E) (new old more target : List ℕ) → new ≡ (if is_ok r then old ++ more else old) → old ++ more ≡ target → OnOk r (new ≡ target)
ok_is (Ok x) new old more target e h = e ∙ h
ok_is (Err e) new old more target f h = tt

behind : (n f s a b c d body : List ℕ) → (n ++ f ++ s ++ a ++ b ++ c ++ d) ++ body ≡ (n ++ f ++ s) ++ ((a ++ (b ++ (c ++ d))) ++ body)
behind n f s a b c d body = simp append_assoc

abbrev le : ℕ → List ℕ
le n = to_le_bytes w32 n

-- a frame's type and flag, the number of its fields' bytes, and its fields
chunk_spelled : (kind : Kind) (flag channel token number id : ℕ) (body : List ℕ)
    → header kind flag (16 + length body) ++ ((le channel ++ (le token ++ (le number ++ le id))) ++ body) ≡ chunk_frame kind flag channel token number id body
unfolding chunk_frame chunk_header unsigned
chunk_spelled kind flag channel token number id body =
    let fields = (le channel ++ (le token ++ (le number ++ le id))) ++ body in
    let len : 16 + length body ≡ length fields = omega arith in
    ap (λ (n : ℕ). header kind flag n ++ fields) len

abbrev three : List ℕ → List ℕ
three bytes = slice_index_or bytes 0 0 ∷ slice_index_or bytes 1 0 ∷ slice_index_or bytes 2 0 ∷ []

abbrev four : List ℕ → List ℕ
four bytes = slice_index_or bytes 0 0 ∷ slice_index_or bytes 1 0 ∷ slice_index_or bytes 2 0 ∷ slice_index_or bytes 3 0 ∷ []

three_of_name : (kind : Kind) → three (name_of kind) ≡ name_of kind
three_of_name Hello = refl
three_of_name Acknowledge = refl
three_of_name Error = refl
three_of_name ReverseHello = refl
three_of_name Open = refl
three_of_name Message = refl
three_of_name Close = refl

-- what stands before the body, byte by byte
pub header_spelled : (kind : Kind) (flag channel token number id len : ℕ) (name l a b c d : List ℕ) → name ≡ name_of kind → l ≡ le (24 + len)
    → a ≡ le channel → b ≡ le token → c ≡ le number → d ≡ le id → (body : List ℕ) → length body ≡ len
    → (three name ++ (flag ∷ []) ++ four l ++ four a ++ four b ++ four c ++ four d) ++ body ≡ chunk_frame kind flag channel token number id body
header_spelled kind flag channel token number id len name l a b c d e0 e1 e2 e3 e4 e5 body is =
    let size : 24 + len ≡ 8 + (16 + length body) = omega (arith, is) in
    let named : three name ≡ name_of kind = ap three e0 ∙ three_of_name kind in
    (λ i. (named i ++ (flag ∷ []) ++ four ((e1 ∙ ap le size) i) ++ four (e2 i) ++ four (e3 i) ++ four (e4 i) ++ four (e5 i)) ++ body)
    ∙ behind (name_of kind) (flag ∷ []) (le (8 + (16 + length body))) (le channel) (le token) (le number) (le id) body
    ∙ chunk_spelled kind flag channel token number id body

pub chunk_written : (frame front body o p q : List ℕ) → front ++ body ≡ frame → p ≡ o → q ≡ p ++ front → q ++ body ≡ o ++ frame
chunk_written frame front body o p q is e1 e2 =
    ap (λ (b : List ℕ). b ++ body) (e2 ∙ ap (λ (b : List ℕ). b ++ front) e1) ∙ append_assoc o front body ∙ ap (λ (b : List ℕ). o ++ b) is

-- ---- OPN

behind_open : (o h a l p m n c d body : List ℕ)
    → (((((((o ++ h) ++ a) ++ l) ++ p) ++ (m ++ n)) ++ c) ++ d) ++ body ≡ o ++ (h ++ ((a ++ ((l ++ p) ++ (m ++ (n ++ (c ++ d))))) ++ body))
behind_open o h a l p m n c d body = simp append_assoc

open_spelled : (channel number id : ℕ) (body : List ℕ)
    → header Open 70 (71 + length body) ++ ((le channel ++ ((le (length policy_none) ++ policy_none) ++ (null ++ (null ++ (le number ++ le id))))) ++ body) ≡ open_frame channel number id body
unfolding open_frame open_header unsigned bytes_of
open_spelled channel number id body =
    let fields = (le channel ++ ((le (length policy_none) ++ policy_none) ++ (null ++ (null ++ (le number ++ le id))))) ++ body in
    let len : 71 + length body ≡ length fields = omega arith in
    ap (λ (n : ℕ). header Open 70 n ++ fields) len

pub open_written : (channel number id : ℕ) (body policy o p q r s t u v : List ℕ) → policy ≡ policy_none
    → p ≡ o ++ header Open 70 (71 + length body) → q ≡ p ++ to_le_bytes w32 channel → r ≡ q ++ to_le_bytes w32 (length policy) → s ≡ r ++ policy
    → t ≡ s ++ (null ++ null) → u ≡ t ++ to_le_bytes w32 number → v ≡ u ++ to_le_bytes w32 id
    → v ++ body ≡ o ++ open_frame channel number id body
open_written channel number id body policy o p q r s t u v is e1 e2 e3 e4 e5 e6 e7 =
    let h = header Open 70 (71 + length body) in
    let l = le (length policy) in
    let two : q ≡ (o ++ h) ++ le channel = e2 ∙ ap (λ (b : List ℕ). b ++ le channel) e1 in
    let three : r ≡ ((o ++ h) ++ le channel) ++ l = e3 ∙ ap (λ (b : List ℕ). b ++ l) two in
    let four : s ≡ (((o ++ h) ++ le channel) ++ l) ++ policy = e4 ∙ ap (λ (b : List ℕ). b ++ policy) three in
    let five : t ≡ ((((o ++ h) ++ le channel) ++ l) ++ policy) ++ (null ++ null) = e5 ∙ ap (λ (b : List ℕ). b ++ (null ++ null)) four in
    let six : u ≡ (((((o ++ h) ++ le channel) ++ l) ++ policy) ++ (null ++ null)) ++ le number = e6 ∙ ap (λ (b : List ℕ). b ++ le number) five in
    let seven : v ≡ ((((((o ++ h) ++ le channel) ++ l) ++ policy) ++ (null ++ null)) ++ le number) ++ le id = e7 ∙ ap (λ (b : List ℕ). b ++ le id) six in
    ap (λ (b : List ℕ). b ++ body) seven
    ∙ behind_open o h (le channel) l policy null null (le number) (le id) body
    ∙ ap (λ (w : List ℕ). o ++ (h ++ ((le channel ++ ((le (length w) ++ w) ++ (null ++ (null ++ (le number ++ le id))))) ++ body))) is
    ∙ ap (λ (b : List ℕ). o ++ b) (open_spelled channel number id body)
