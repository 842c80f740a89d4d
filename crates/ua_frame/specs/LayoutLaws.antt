-- Frames of a known type at the front of some bytes.
use Rattle.std.proofs.Common.{◌≡◌, ℕ, ◌+◌, ◌-◌, ◌<◌, ◌≤◌, ◌^◌, List, [], ◌∷◌, ◌++◌, map, length, get_or, take, drop, Some, refl, sym, ap, subst, ◌∙◌, append_assoc, arith, inl, inr}
use Rattle.std.specs.Prelude.{find}
use Rattle.std.specs.Str.{bytes_eq}
use Rattle.std.specs.Int.{w32, from_le_bytes, to_le_bytes}
use Rattle.std.proofs.lemmas.List.{map-append, take-append-drop, length-take, length-take-le, length-drop, length-append, get_or-take, take-take, take_at, drop_at, drop_more, drop-take, drop-drop}
use Rattle.std.proofs.lemmas.Nat.{le_bytes_4, from_le_bytes-to_le_bytes_4}
use Rattle.std.proofs.lemmas.Bool.{cases_Bool}
use Rattle.std.proofs.lemmas.Slice.Eq.{bytes_eq-Decides}
use Rattle.ua_value.specs.Format.{IsBytes}
use Rattle.ua_value.specs.Lists.{IsBytes-take, IsBytes-drop}
use Rattle.ua_frame.specs.declared.kind.Kind.{Kind}
use Rattle.ua_frame.specs.declared.kind.Kind.TheVariants.{Hello, Acknowledge, Error, ReverseHello, Open, Message, Close}
use Rattle.ua_frame.specs.Streams.{TimedByte, plain, size_of, IsFrame, cuts_of, rest_of}
use Rattle.ua_frame.specs.StreamLaws.{front_is_frame, plain_take, length_plain, framed_step, framed_stop, framed_more}
use Rattle.ua_frame.specs.Layout.{name_of, kinds, kind_of, flag_of, fields_of, frame_by, frames_of, Parts, header, frame_bytes, IsFrameOf}

-- ---- the header is the first 8 bytes

pub kind_by_header : (a b : List ℕ) → take 8 a ≡ take 8 b → kind_of a ≡ kind_of b
unfolding kind_of
kind_by_header a b e =
    let f : take 3 a ≡ take 3 b = sym (take-take 3 8 a (omega arith)) ∙ ap (take 3) e ∙ take-take 3 8 b (omega arith) in
    rw f refl

pub flag_by_header : (a b : List ℕ) → take 8 a ≡ take 8 b → flag_of a ≡ flag_of b
flag_by_header a b e = sym (get_or-take 8 a 3 0 (omega arith)) ∙ ap (λ (x : List ℕ). get_or x 3 0) e ∙ get_or-take 8 b 3 0 (omega arith)

pub kind_take : (n : ℕ) (bytes : List ℕ) → 8 ≤ n → kind_of (take n bytes) ≡ kind_of bytes
kind_take n bytes le = kind_by_header (take n bytes) bytes (take-take 8 n bytes le)

pub flag_take : (n : ℕ) (bytes : List ℕ) → 8 ≤ n → flag_of (take n bytes) ≡ flag_of bytes
flag_take n bytes le = flag_by_header (take n bytes) bytes (take-take 8 n bytes le)

-- ---- a frame has one spelling

some_is : {A : Type 0} (x y : A) → Some x ≡ Some y → x ≡ y
some_is x y e = cc

-- the name of the type that bytes have stands at their front
named_by : (front : List ℕ) (ks : List Kind) (kind : Kind) → find (λ k. bytes_eq front (name_of k)) ks ≡ Some kind → front ≡ name_of kind
named_by front [] kind e = absurd cc
named_by front (k ∷ ks) kind e =
    elim (cases_Bool (bytes_eq front (name_of k))) [
      | inl is ↦ (let first : Some k ≡ Some kind = sym (rw is refl) ∙ e in (bytes_eq-Decides front (name_of k)).0 is ∙ ap name_of (some_is k kind first))
      | inr isnt ↦ named_by front ks kind (sym (rw isnt refl) ∙ e)
    ]

pub named : (bytes : List ℕ) (kind : Kind) → kind_of bytes ≡ Some kind → take 3 bytes ≡ name_of kind
unfolding kind_of
named bytes kind e = named_by (take 3 bytes) kinds kind e

joined : (a : List ℕ) (x : ℕ) (c d : List ℕ) → a ++ (x ∷ (c ++ d)) ≡ a ++ (x ∷ []) ++ c ++ d
joined a x c d = simp append_assoc

same_parts : (a b : List ℕ) (x y : ℕ) (c d e f : List ℕ) → a ≡ b → x ≡ y → c ≡ d → e ≡ f → a ++ (x ∷ []) ++ c ++ e ≡ b ++ (y ∷ []) ++ d ++ f
same_parts a b x y c d e f p q r s = cc

pub frame_length : (bytes : List ℕ) (f : Parts) → IsFrameOf bytes f → length bytes ≡ 8 + length f.fields
frame_length bytes f h = omega (arith, length-drop 8 bytes, ap length h.fields, h.there.header)

pub frame_spelled : (bytes : List ℕ) (f : Parts) → IsBytes bytes → IsFrameOf bytes f → bytes ≡ frame_bytes f
unfolding size_of
frame_spelled bytes f fits h =
    let name = named bytes f.kind h.kind in
    let size-is : from_le_bytes w32 (take 4 (drop 4 bytes)) ≡ 8 + length f.fields = h.there.whole ∙ frame_length bytes f h in
    let size : to_le_bytes w32 (8 + length f.fields) ≡ take 4 (drop 4 bytes) = le_bytes_4 (take 4 (drop 4 bytes)) (8 + length f.fields) (omega (arith, length-take 4 (drop 4 bytes), length-drop 4 bytes, h.there.header)) (IsBytes-take 4 (drop 4 bytes) (IsBytes-drop 4 bytes fits)) (sym size-is) in
    let e3 : bytes ≡ take 3 bytes ++ drop 3 bytes = sym (take-append-drop 3 bytes) in
    let e4 : drop 3 bytes ≡ get_or bytes 3 0 ∷ drop 4 bytes = drop_more bytes 3 0 (omega (arith, h.there.header)) in
    let e8 : drop 4 bytes ≡ take 4 (drop 4 bytes) ++ drop 8 bytes = sym (take-append-drop 4 (drop 4 bytes)) ∙ ap (λ (x : List ℕ). take 4 (drop 4 bytes) ++ x) (drop-drop 4 4 bytes) in
    let whole : bytes ≡ take 3 bytes ++ (get_or bytes 3 0 ∷ (take 4 (drop 4 bytes) ++ drop 8 bytes)) = e3 ∙ ap (λ (x : List ℕ). take 3 bytes ++ x) (e4 ∙ ap (λ (x : List ℕ). get_or bytes 3 0 ∷ x) e8) in
    whole ∙ joined (take 3 bytes) (get_or bytes 3 0) (take 4 (drop 4 bytes)) (drop 8 bytes) ∙ same_parts _ _ _ _ _ _ _ _ name h.flag (sym size) h.fields

-- ---- and is that spelling

name_length : (kind : Kind) → length (name_of kind) ≡ 3
name_length Hello = refl
name_length Acknowledge = refl
name_length Error = refl
name_length ReverseHello = refl
name_length Open = refl
name_length Message = refl
name_length Close = refl

pub header_length : (kind : Kind) (flag len : ℕ) → length (header kind flag len) ≡ 8
header_length Hello flag len = refl
header_length Acknowledge flag len = refl
header_length Error flag len = refl
header_length ReverseHello flag len = refl
header_length Open flag len = refl
header_length Message flag len = refl
header_length Close flag len = refl

pub frame_bytes_length : (f : Parts) → length (frame_bytes f) ≡ 8 + length f.fields
frame_bytes_length f = omega (arith, length-append (header f.kind f.flag (length f.fields)) f.fields, header_length f.kind f.flag (length f.fields))

header_kind : (kind : Kind) (flag len : ℕ) (more : List ℕ) → kind_of (header kind flag len ++ more) ≡ Some kind
unfolding kind_of
header_kind Hello flag len more = refl
header_kind Acknowledge flag len more = refl
header_kind Error flag len more = refl
header_kind ReverseHello flag len more = refl
header_kind Open flag len more = refl
header_kind Message flag len more = refl
header_kind Close flag len more = refl

header_flag : (kind : Kind) (flag len : ℕ) (more : List ℕ) → flag_of (header kind flag len ++ more) ≡ flag
header_flag Hello flag len more = refl
header_flag Acknowledge flag len more = refl
header_flag Error flag len more = refl
header_flag ReverseHello flag len more = refl
header_flag Open flag len more = refl
header_flag Message flag len more = refl
header_flag Close flag len more = refl

-- what stands behind the type and the flag
behind_flag : (kind : Kind) (flag len : ℕ) (more : List ℕ) → drop 4 (header kind flag len ++ more) ≡ to_le_bytes w32 (8 + len) ++ more
behind_flag kind flag len more =
    let e : header kind flag len ++ more ≡ (name_of kind ++ (flag ∷ [])) ++ (to_le_bytes w32 (8 + len) ++ more) = simp append_assoc in
    let n : length (name_of kind ++ (flag ∷ [])) ≡ 4 = omega (arith, length-append (name_of kind) (flag ∷ []), name_length kind) in
    ap (drop 4) e ∙ drop_at (name_of kind ++ (flag ∷ [])) (to_le_bytes w32 (8 + len) ++ more) 4 n

header_size : (kind : Kind) (flag len : ℕ) (more : List ℕ) → 8 + len < 2 ^ 32 → size_of (header kind flag len ++ more) ≡ 8 + len
unfolding size_of
header_size kind flag len more lt =
    ap (λ (l : List ℕ). from_le_bytes w32 (take 4 l)) (behind_flag kind flag len more) ∙ ap (from_le_bytes w32) (take_at (to_le_bytes w32 (8 + len)) more 4 refl) ∙ from_le_bytes-to_le_bytes_4 (8 + len) lt

pub frame_bytes_is : (f : Parts) → 8 + length f.fields < 2 ^ 32 → IsFrameOf (frame_bytes f) f
frame_bytes_is f lt = record {
  there = record { header = omega (arith, frame_bytes_length f); whole = header_size f.kind f.flag (length f.fields) f.fields lt ∙ sym (frame_bytes_length f) };
  kind = header_kind f.kind f.flag (length f.fields) f.fields;
  flag = header_flag f.kind f.flag (length f.fields) f.fields;
  fields = drop_at (header f.kind f.flag (length f.fields)) f.fields 8 (header_length f.kind f.flag (length f.fields));
}

-- ---- the frame at the front of some bytes

pub fields_at : (n m : ℕ) (bytes : List ℕ) → m ≡ n → 8 ≤ n → fields_of (take n bytes) ≡ take (m - 8) (drop 8 bytes)
fields_at n m bytes e le =
    let k : n ≡ 8 + (m - 8) = omega arith in
    ap (λ (x : ℕ). drop 8 (take x bytes)) k ∙ drop-take 8 (m - 8) bytes

pub front_is : (bytes : List ℕ) (f : Parts) → 8 ≤ size_of bytes → size_of bytes ≤ length bytes → kind_of bytes ≡ Some f.kind → flag_of bytes ≡ f.flag → fields_of (take (size_of bytes) bytes) ≡ f.fields → IsFrameOf (take (size_of bytes) bytes) f
front_is bytes f lo hi kind flag fields =
    record { there = front_is_frame bytes lo hi; kind = kind_take (size_of bytes) bytes lo ∙ kind; flag = flag_take (size_of bytes) bytes lo ∙ flag; fields = fields }

-- how long it is
pub front_size : (bytes : List ℕ) (f : Parts) → size_of bytes ≤ length bytes → IsFrameOf (take (size_of bytes) bytes) f → size_of bytes ≡ 8 + length f.fields
front_size bytes f within h = omega (arith, frame_length (take (size_of bytes) bytes) f h, length-take-le (size_of bytes) bytes within)

-- A frame at the front of some bytes, as `frame_at` finds it: with its length, by its fields.
pub record Front (bytes : List ℕ) (f : Parts) : Type 0 where
  pub size : size_of bytes ≡ 8 + length f.fields
  pub within : 8 + length f.fields ≤ length bytes
  pub frame : IsFrameOf (take (8 + length f.fields) bytes) f

pub front : (bytes : List ℕ) (f : Parts) → size_of bytes ≤ length bytes → IsFrameOf (take (size_of bytes) bytes) f → Front bytes f
front bytes f within h =
    let size = front_size bytes f within h in
    record { size = size; within = omega (arith, size, within); frame = subst (λ (n : ℕ). IsFrameOf (take n bytes) f) size h }

-- ---- the frames of a stream

-- a frame at the front, and then those of what follows it
pub frames_step : (s : List TimedByte) (n : ℕ) → IsFrame (take n (plain s)) → (frames_of s ≡ frame_by (take n s) ∷ frames_of (drop n s)) × (rest_of s ≡ rest_of (drop n s))
frames_step s n is =
    let h = framed_step s n (subst IsFrame (sym (plain_take n s)) is) in
    (ap (map frame_by) h.0, h.1)

-- where no beginning is a frame there is none, and all is rest
pub frames_stop : (s : List TimedByte) → ((n : ℕ) → n ≤ length (plain s) → IsFrame (take n (plain s)) → ⊥) → (frames_of s ≡ []) × (rest_of s ≡ s)
frames_stop s none =
    let h = framed_stop s (λ n le f. none n (omega (arith, le, length_plain s)) (subst IsFrame (plain_take n s) f)) in
    (ap (map frame_by) h.0, h.1)

-- what comes after s is read behind what s left
pub frames_more : (s t : List TimedByte) → (frames_of (s ++ t) ≡ frames_of s ++ frames_of (rest_of s ++ t)) × (rest_of (s ++ t) ≡ rest_of (rest_of s ++ t))
frames_more s t =
    let h = framed_more s t in
    (ap (map frame_by) h.0 ∙ map-append frame_by (cuts_of s) (cuts_of (rest_of s ++ t)), h.1)

-- a frame, and any stream behind it
pub frames_behind : (f s : List TimedByte) → IsFrame (plain f) → (frames_of (f ++ s) ≡ frame_by f ∷ frames_of s) × (rest_of (f ++ s) ≡ rest_of s)
frames_behind f s is =
    let front : take (length f) (f ++ s) ≡ f = take_at f s (length f) refl in
    let behind : drop (length f) (f ++ s) ≡ s = drop_at f s (length f) refl in
    let h = framed_step (f ++ s) (length f) (subst (λ l. IsFrame (plain l)) (sym front) is) in
    (ap (map frame_by) h.0 ∙ (λ i. frame_by (front i) ∷ frames_of (behind i)), h.1 ∙ ap rest_of behind)
