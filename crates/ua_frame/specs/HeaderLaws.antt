-- The header rows read the first 8 bytes alone: what they say of a rest they say of the frame that it becomes.
use Rattle.std.proofs.Common.{◌≡◌, ℕ, ◌<◌, ◌≤◌, Bool, true, false, List, [], ◌∷◌, ◌++◌, length, take, Some, None, refl, sym, ◌∙◌, arith, inl, inr}
use Rattle.std.specs.Prelude.{nat_lt, not, is_none}
use Rattle.std.proofs.lemmas.List.{take-append-le, take-take, length-append, length-take}
use Rattle.std.proofs.lemmas.Bool.{cases_lt, le-ltb, lt-ltb, ltb-false}
use Rattle.ua_frame.specs.Streams.{size_of, IsFrame}
use Rattle.ua_frame.specs.StreamLaws.{size_by_header, front_is_frame}
use Rattle.ua_frame.specs.LayoutLaws.{kind_by_header, flag_by_header}
use Rattle.ua_frame.specs.Layout.{kind_of, flag_of}
use Rattle.ua_frame.specs.Rows.{first_row}
use Rattle.ua_frame.specs.HeaderRows.{some_flag_fits, header_rows, header_fault}

pub header_fault_short : (limit : ℕ) (bytes : List ℕ) → length bytes < 8 → header_fault limit bytes ≡ None
header_fault_short limit bytes lt = let short : nat_lt (length bytes) 8 ≡ true = lt-ltb (length bytes) 8 lt in rw short refl

pub header_fault_same : (limit : ℕ) (a b : List ℕ) → 8 ≤ length a → 8 ≤ length b → take 8 a ≡ take 8 b → header_fault limit a ≡ header_fault limit b
header_fault_same limit a b la lb e =
    let one : nat_lt (length a) 8 ≡ false = le-ltb (length a) 8 la in
    let two : nat_lt (length b) 8 ≡ false = le-ltb (length b) 8 lb in
    rw (one, two, size_by_header a b e, kind_by_header a b e, flag_by_header a b e) refl

-- a row that refuses has a whole header to read
pub header_fault_long : (limit : ℕ) (bytes : List ℕ) (status : ℕ) → header_fault limit bytes ≡ Some status → 8 ≤ length bytes
header_fault_long limit bytes status e =
    elim (cases_lt (length bytes) 8) [
      | inl lt ↦ absurd (let clash : None ≡ Some status = sym (header_fault_short limit bytes lt) ∙ e in cc)
      | inr le ↦ le
    ]

-- of a frame at the front and of all the bytes the rows say the same
pub header_fault_take : (limit n : ℕ) (bytes : List ℕ) → 8 ≤ n → header_fault limit (take n bytes) ≡ header_fault limit bytes
header_fault_take limit n bytes le =
    elim (cases_lt (length bytes) 8) [
      | inl lt ↦ header_fault_short limit (take n bytes) (omega (arith, lt, length-take n bytes)) ∙ sym (header_fault_short limit bytes lt)
      | inr long ↦ header_fault_same limit (take n bytes) bytes (omega (arith, length-take n bytes)) long (take-take 8 n bytes le)
    ]

-- and once the header is there, whatever comes later
pub header_fault_append : (limit : ℕ) (bytes more : List ℕ) → 8 ≤ length bytes → header_fault limit (bytes ++ more) ≡ header_fault limit bytes
header_fault_append limit bytes more le = header_fault_same limit (bytes ++ more) bytes (omega (arith, length-append bytes more)) le (take-append-le 8 bytes more le)

pub header_fault_stays : (limit : ℕ) (bytes more : List ℕ) (status : ℕ) → header_fault limit bytes ≡ Some status → header_fault limit (bytes ++ more) ≡ Some status
header_fault_stays limit bytes more status e = header_fault_append limit bytes more (header_fault_long limit bytes status e) ∙ e

-- ---- bytes that go on

last_two : (a b c d : Bool) (v x y z : ℕ) → first_row ((a, v) ∷ (b, x) ∷ (c, y) ∷ (d, z) ∷ []) ≡ None → (c ≡ false) × (d ≡ false)
last_two true b c d v x y z h = absurd cc
last_two false true c d v x y z h = absurd cc
last_two false false true d v x y z h = absurd cc
last_two false false false true v x y z h = absurd cc
last_two false false false false v x y z h = (refl, refl)

-- a header that no row refuses says a size from 8 bytes up to the limit
pub passed_size : (limit : ℕ) (bytes : List ℕ) → header_fault limit bytes ≡ None → 8 ≤ length bytes → (8 ≤ size_of bytes) × (size_of bytes ≤ limit)
passed_size limit bytes h long =
    let there : nat_lt (length bytes) 8 ≡ false = le-ltb (length bytes) 8 long in
    let rows : first_row (header_rows limit bytes) ≡ None = sym (rw there refl) ∙ h in
    let sizes = last_two (is_none (kind_of bytes)) (not (some_flag_fits (kind_of bytes) (flag_of bytes))) (nat_lt (size_of bytes) 8) (nat_lt limit (size_of bytes)) 0x807E0000 0x807E0000 0x80070000 0x80800000 rows in
    (ltb-false (size_of bytes) 8 sizes.0, ltb-false limit (size_of bytes) sizes.1)

-- where that header has no whole frame behind it, there are fewer bytes than a frame may have
pub part_is_short : (limit capacity : ℕ) (bytes : List ℕ) → header_fault limit bytes ≡ None → ((n : ℕ) → n ≤ length bytes → IsFrame (take n bytes) → ⊥)
    → limit ≤ capacity → 8 ≤ capacity → length bytes < capacity
part_is_short limit capacity bytes h none most least =
    elim (cases_lt (length bytes) 8) [
      | inl lt ↦ omega (arith, lt, least)
      | inr long ↦ elim (cases_lt (length bytes) (size_of bytes)) [
        | inl cut ↦ (let size = passed_size limit bytes h long in omega (arith, cut, size.1, most))
        | inr le ↦ (let size = passed_size limit bytes h long in absurd (none (size_of bytes) le (front_is_frame bytes size.0 le)))
      ]
    ]
