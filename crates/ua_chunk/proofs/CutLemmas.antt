-- A message that is cut into chunks while it is put.
use Rattle.std.proofs.Common.{◌≡◌, ℕ, zero, suc, ◌+◌, ◌-◌, ◌*◌, ◌/◌, ◌<◌, ◌≤◌, List, [], ◌∷◌, ◌++◌, length, take, drop, refl, sym, ap, subst, ◌∙◌, arith, append_assoc, inl, inr, add-one, take-append-drop}
use Rattle.std.specs.Prelude.{min, get_or, true, false, if◌then◌else◌, nat_lt, ◌⊎◌}
use Rattle.std.proofs.lemmas.List.{append-nil, length-append, length-drop, length-take-le, take_all, drop_all, take_at, drop_at, take-append-le, drop-append-le}
use Rattle.std.proofs.lemmas.Bool.{cases_lt, lt-ltb, le-ltb}
use Rattle.std.proofs.Math.Nat.{add-div_right, div-eq_of_lt}
use lib.Seq.{take-append-add, drop-append-add}
use Rattle.ua_frame.specs.declared.kind.Kind.TheVariants.{Message}
use Rattle.ua_chunk.specs.Numbers.{number_after}
use Rattle.ua_chunk.specs.NumberLaws.{IsNumber, number_is, number_after_none, number_after_more}
use Rattle.ua_chunk.specs.Cut.{part_count, fill}
use Rattle.ua_chunk.specs.CutLaws.{part_count_some, part_count_last}
use Rattle.ua_chunk.specs.Written.{chunk_frame, part_frame, message_frames}
use Rattle.ua_chunk.specs.WrittenLaws.{part_written, last_written}
use Rattle.ua_chunk.specs.Cutting.{carried, frames_behind, parts_left, IsCut, IsHeader, shown}

-- ---- what frames carry

-- what is put behind the last header is carried behind the rest
pub carried_more : (full k : ℕ) (frames bytes : List ℕ) → full * (24 + k) + 24 ≤ length frames → carried full k (frames ++ bytes) ≡ carried full k frames ++ bytes
carried_more zero k frames bytes least = drop-append-le 24 frames bytes (omega (arith, least))
carried_more (suc full) k frames bytes least =
    let far : suc full * (24 + k) ≡ full * (24 + k) + (24 + k) = omega arith in
    let body = drop 24 frames in
    let size = length-drop 24 frames in
    let rest = drop (24 + k) frames in
    let front : take k (drop 24 (frames ++ bytes)) ≡ take k body =
    ap (take k) (drop-append-le 24 frames bytes (omega (arith, least))) ∙ take-append-le k body bytes (omega (arith, least, size, far)) in
    let behind : carried full k (drop (24 + k) (frames ++ bytes)) ≡ carried full k rest ++ bytes =
    ap (carried full k) (drop-append-le (24 + k) frames bytes (omega (arith, least, far)))
    ∙ carried_more full k rest bytes (omega (arith, least, far, length-drop (24 + k) frames)) in
    (λ i. front i ++ behind i) ∙ sym (append_assoc (take k body) (carried full k rest) bytes)

-- a header behind full chunks carries nothing
pub carried_header : (full k : ℕ) (frames header : List ℕ) → length frames ≡ full * (24 + k) + 24 + k → length header ≡ 24 → carried (suc full) k (frames ++ header) ≡ carried full k frames
carried_header zero k frames header size is =
    let body = drop 24 frames in
    let long = length-drop 24 frames in
    let front : take k (drop 24 (frames ++ header)) ≡ body =
    ap (take k) (drop-append-le 24 frames header (omega (arith, size))) ∙ take_at body header k (omega (arith, long, size)) in
    let none : drop 24 (drop (24 + k) (frames ++ header)) ≡ [] =
    ap (drop 24) (drop_at frames header (24 + k) (omega (arith, size))) ∙ drop_all 24 header (omega (arith, is)) in
    (λ i. front i ++ none i) ∙ append-nil body
carried_header (suc full) k frames header size is =
    let far : suc full * (24 + k) ≡ full * (24 + k) + (24 + k) = omega arith in
    let body = drop 24 frames in
    let long = length-drop 24 frames in
    let rest = drop (24 + k) frames in
    let front : take k (drop 24 (frames ++ header)) ≡ take k body =
    ap (take k) (drop-append-le 24 frames header (omega (arith, size))) ∙ take-append-le k body header (omega (arith, long, size, far)) in
    let behind : carried (suc full) k (drop (24 + k) (frames ++ header)) ≡ carried full k rest =
    ap (carried (suc full) k) (drop-append-le (24 + k) frames header (omega (arith, size, far)))
    ∙ carried_header full k rest header (omega (arith, size, far, length-drop (24 + k) frames)) is in
    λ i. front i ++ behind i

-- ---- a header, and what fills its chunk

abbrev at_once : ℕ → ℕ → ℕ → ℕ → ℕ → List ℕ → List ℕ
at_once channel token number id k rest = message_frames channel token number 0 (fill id rest k)

behind_some : (channel token number id k : ℕ) (rest : List ℕ) → 1 ≤ length rest → frames_behind channel token number id k rest ≡ at_once channel token number id k rest
behind_some channel token number id k [] h = absurd (omega (arith, h))
behind_some channel token number id k (x ∷ rest) h = refl

behind_none : (channel token number id k : ℕ) (rest : List ℕ) → length rest ≡ 0 → frames_behind channel token number id k rest ≡ []
behind_none channel token number id k [] h = refl
behind_none channel token number id k (x ∷ rest) h = absurd (omega (arith, h))

-- a header, what fills its chunk, and the frames of the rest are the frames of all
pub header_of_frames : (channel token id k number left : ℕ) (header rest : List ℕ) → 1 ≤ k → IsNumber number → left ≡ length rest → IsHeader channel token id k number left header
    → header ++ (take (min left k) rest ++ frames_behind channel token (number_after number 1) id k (drop (min left k) rest)) ≡ at_once channel token number id k rest
header_of_frames channel token id k number left header rest pos is all h =
    elim (cases_lt k left) [
      | inl more ↦
          let room : min left k ≡ k = omega (arith, more) in
          let flag : nat_lt k left ≡ true = lt-ltb k left more in
          let part = take k rest in
          let size : length part ≡ min left k = length-take-le k rest (omega (arith, more, all)) ∙ sym room in
          let frame : header ++ part ≡ part_frame channel token number (record { id = id; flag = 67; bytes = part }) =
          h.before part size ∙ ap (λ b. chunk_frame Message (if b then 67 else 70) channel token number id part) flag in
          let others = drop k rest in
          let behind = behind_some channel token (number_after number 1) id k others (omega (arith, more, all, length-drop k rest)) in
          ap (λ n. header ++ (take n rest ++ frames_behind channel token (number_after number 1) id k (drop n rest))) room
          ∙ sym (append_assoc header part (frames_behind channel token (number_after number 1) id k others))
          ∙ (λ i. frame i ++ behind i)
          ∙ part_written [] channel token number id k rest pos is (omega (arith, more, all))
      | inr few ↦
          let room : min left k ≡ left = omega (arith, few) in
          let flag : nat_lt k left ≡ false = le-ltb k left few in
          let frame : header ++ rest ≡ part_frame channel token number (record { id = id; flag = 70; bytes = rest }) =
          h.before rest (omega (arith, all, room)) ∙ ap (λ b. chunk_frame Message (if b then 67 else 70) channel token number id rest) flag in
          let none = behind_none channel token (number_after number 1) id k (drop left rest) (omega (arith, all, length-drop left rest)) in
          ap (λ n. header ++ (take n rest ++ frames_behind channel token (number_after number 1) id k (drop n rest))) room
          ∙ (λ i. header ++ (take_all left rest (omega (arith, all)) i ++ none i))
          ∙ ap (λ (l : List ℕ). header ++ l) (append-nil rest)
          ∙ frame
          ∙ last_written [] channel token number id k rest pos is (omega (arith, few, all))
    ]

-- ---- how many parts are left

parts_some : (left k : ℕ) → 1 ≤ k → 1 ≤ left → parts_left left k ≡ (left - 1) / k + 1
parts_some left k pos some =
    let e : left + k - 1 ≡ (left - 1) + k = omega arith in
    ap (λ n. n / k) e ∙ add-div_right (left - 1) pos

pub parts_none : (k : ℕ) → 1 ≤ k → parts_left 0 k ≡ 0
parts_none k pos = div-eq_of_lt (omega arith)

one_less : (left k : ℕ) → 1 ≤ k → 1 ≤ left → 1 + parts_left (left - min left k) k ≡ parts_left left k
one_less left k pos some =
    elim (cases_lt k left) [
      | inl more ↦
          let e : left - 1 ≡ (left - k - 1) + k = omega (arith, more) in
          let d : (left - 1) / k ≡ (left - k - 1) / k + 1 = ap (λ n. n / k) e ∙ add-div_right (left - k - 1) pos in
          let room : left - min left k ≡ left - k = omega (arith, more) in
          ap (λ n. 1 + parts_left n k) room ∙ omega (arith, d, parts_some left k pos some, parts_some (left - k) k pos (omega (arith, more)))
      | inr few ↦
          let d : (left - 1) / k ≡ 0 = div-eq_of_lt (omega (arith, few, some)) in
          let room : left - min left k ≡ 0 = omega (arith, few) in
          ap (λ n. 1 + parts_left n k) room ∙ omega (arith, d, parts_none k pos, parts_some left k pos some)
    ]

counted_on : (number left k : ℕ) → 1 ≤ k → IsNumber number → 1 ≤ left
    → number_after (number_after number 1) (parts_left (left - min left k) k) ≡ number_after number (parts_left left k)
counted_on number left k pos is some = number_after_more number 1 (parts_left (left - min left k) k) is.some ∙ ap (number_after number) (one_less left k pos some)

none_of_none : (k : ℕ) → 0 - min 0 k ≡ 0
none_of_none k = omega arith

counted_first : (number total k : ℕ) → 1 ≤ k → IsNumber number → number_after (number_after number 1) (parts_left (total - min total k) k) ≡ number_after number (part_count total k)
counted_first number zero k pos is =
    ap (number_after (number_after number 1)) (ap (λ n. parts_left n k) (none_of_none k) ∙ parts_none k pos) ∙ number_after_none (number_after number 1) (number_is number 1)
    ∙ ap (number_after number) (sym (part_count_last 0 k pos (omega arith)))
counted_first number (suc n) k pos is =
    counted_on number (suc n) k pos is (omega arith) ∙ ap (number_after number) (parts_some (suc n) k pos (omega arith) ∙ sym (part_count_some (suc n) k pos (omega arith)))

-- ---- the cut begins, goes on and ends

pub cut_first : (channel token id k total number : ℕ) (header : List ℕ) → 1 ≤ k → IsNumber number → IsHeader channel token id k number total header
    → IsCut channel token id k total number (number_after number 1) total (min total k) 0 header
cut_first channel token id k total number header pos is h =
    let none : drop 24 header ≡ [] = drop_all 24 header (omega (arith, h.size)) in
    record {
      some = pos;
      range = number_is number 1;
      enough = omega arith;
      owed = omega (arith, ap length none);
      least = omega (arith, h.size);
      size = λ lt. omega (arith, h.size, lt);
      becomes = λ rest all.
          let long : total ≡ length rest = sym all ∙ ap (λ (b : List ℕ). length (b ++ rest)) none in
          header_of_frames channel token id k number total header rest pos is long h
          ∙ ap (λ (b : List ℕ). at_once channel token number id k (b ++ rest)) (sym none);
      counted = counted_first number total k pos is;
    }

pub carried_on : (full k room : ℕ) (frames front header : List ℕ) → full * (24 + k) + 24 ≤ length frames → length frames + room ≡ full * (24 + k) + 24 + k
    → length front ≡ room → length header ≡ 24
    → carried (suc full) k (frames ++ (front ++ header)) ≡ carried full k frames ++ front
carried_on full k room frames front header least size all is =
    ap (carried (suc full) k) (sym (append_assoc frames front header))
    ∙ carried_header full k (frames ++ front) header (omega (arith, length-append frames front, size, all)) is
    ∙ carried_more full k frames front least

pub cut_on : (channel token id k total first number left room full : ℕ) (frames front header : List ℕ)
    → IsCut channel token id k total first number left room full frames → room < left → length front ≡ room → IsHeader channel token id k number (left - room) header
    → IsCut channel token id k total first (number_after number 1) (left - room) (min (left - room) k) (suc full) (frames ++ (front ++ header))
cut_on channel token id k total first number left room full frames front header c lt all h =
    let b = carried full k frames in
    let size = c.size lt in
    let on = carried_on full k room frames front header c.least size all h.size in
    let far : suc full * (24 + k) ≡ full * (24 + k) + (24 + k) = omega arith in
    let long : length (frames ++ (front ++ header)) ≡ suc full * (24 + k) + 24 = omega (arith, length-append frames (front ++ header), length-append front header, all, h.size, size, far) in
    let put : length (carried (suc full) k (frames ++ (front ++ header))) ≡ length b + room = ap length on ∙ length-append b front ∙ ap (λ n. length b + n) all in
    record {
      some = c.some;
      range = number_is number 1;
      enough = omega arith;
      owed = omega (arith, c.owed, put);
      least = omega (arith, long);
      size = λ more. omega (arith, long, more);
      becomes = λ rest whole.
          let joined : carried (suc full) k (frames ++ (front ++ header)) ++ rest ≡ b ++ (front ++ rest) = ap (λ (l : List ℕ). l ++ rest) on ∙ append_assoc b front rest in
          let sum : length b + (length front + length rest) ≡ total = sym (length-append b (front ++ rest) ∙ ap (λ n. length b + n) (length-append front rest)) ∙ ap length (sym joined) ∙ whole in
          let others : left - room ≡ length rest = omega (arith, c.owed, sum, all, lt) in
          let behind : at_once channel token number id k rest ≡ frames_behind channel token number id k rest = sym (behind_some channel token number id k rest (omega (arith, others, lt))) in
          let next = header_of_frames channel token id k number (left - room) header rest c.some c.range others h in
          let n = min (left - room) k in
          let more = take n rest ++ frames_behind channel token (number_after number 1) id k (drop n rest) in
          append_assoc frames (front ++ header) more ∙ ap (λ (l : List ℕ). frames ++ l) (append_assoc front header more)
          ∙ ap (λ (l : List ℕ). frames ++ (front ++ l)) (next ∙ behind)
          ∙ (λ i. frames ++ (sym (take_at front rest room all) i ++ frames_behind channel token number id k (sym (drop_at front rest room all) i)))
          ∙ c.becomes (front ++ rest) (ap length (sym joined) ∙ whole)
          ∙ ap (λ (l : List ℕ). at_once channel token first id k l) (sym joined);
      counted = counted_on number (left - room) k c.some c.range (omega (arith, lt)) ∙ c.counted;
    }

pub cut_last : (channel token id k total first number left room full : ℕ) (frames bytes : List ℕ)
    → IsCut channel token id k total first number left room full frames → (length bytes ≤ room) ⊎ (left ≤ room)
    → IsCut channel token id k total first number (left - length bytes) (room - length bytes) full (frames ++ bytes)
cut_last channel token id k total first number left room full frames bytes c ends =
    let b = carried full k frames in
    let more = carried_more full k frames bytes c.least in
    let len = length bytes in
    let long = length-append frames bytes in
    record {
      some = c.some;
      range = c.range;
      enough = omega (arith, c.enough);
      owed = omega (arith, c.owed, ap length more, length-append b bytes);
      least = omega (arith, c.least, long);
      size = λ lt. elim ends [
        | inl fits ↦ omega (arith, long, fits, lt, c.size (omega (arith, fits, lt)))
        | inr none ↦ absurd (omega (arith, none, lt))
      ];
      becomes = λ rest whole.
          let joined : carried full k (frames ++ bytes) ++ rest ≡ b ++ (bytes ++ rest) = ap (λ (l : List ℕ). l ++ rest) more ∙ append_assoc b bytes rest in
          let sum : length b + (len + length rest) ≡ total = sym (length-append b (bytes ++ rest) ∙ ap (λ n. length b + n) (length-append bytes rest)) ∙ ap length (sym joined) ∙ whole in
          let fits : len ≤ room = elim ends [ inl le ↦ le | inr none ↦ omega (arith, none, sum, c.owed) ] in
          let room_is : room ≡ len + (room - len) = omega (arith, fits) in
          let front : take room (bytes ++ rest) ≡ bytes ++ take (room - len) rest = ap (λ n. take n (bytes ++ rest)) room_is ∙ take-append-add bytes rest (room - len) in
          let back : drop room (bytes ++ rest) ≡ drop (room - len) rest = ap (λ n. drop n (bytes ++ rest)) room_is ∙ drop-append-add bytes rest (room - len) in
          let behind = frames_behind channel token number id k (drop (room - len) rest) in
          append_assoc frames bytes (take (room - len) rest ++ behind)
          ∙ ap (λ (l : List ℕ). frames ++ l) (sym (append_assoc bytes (take (room - len) rest) behind))
          ∙ (λ i. frames ++ (sym front i ++ frames_behind channel token number id k (sym back i)))
          ∙ c.becomes (bytes ++ rest) (ap length (sym joined) ∙ whole)
          ∙ ap (λ (l : List ℕ). at_once channel token first id k l) (sym joined);
      counted = ap (λ n. number_after number (parts_left n k)) (elim ends [ inl fits ↦ omega (arith, fits) | inr none ↦ omega (arith, none) ]) ∙ c.counted;
    }

-- once all is put, the frames are those of the message
pub cut_whole : (channel token id k total first number left room full : ℕ) (frames message : List ℕ)
    → IsCut channel token id k total first number left room full frames → carried full k frames ≡ message → length message ≡ total
    → (frames ≡ at_once channel token first id k message) × (number ≡ number_after first (part_count total k))
cut_whole channel token id k total first number left room full frames message c all is =
    let none : carried full k frames ++ [] ≡ message = append-nil (carried full k frames) ∙ all in
    let left_none : left ≡ 0 = omega (arith, c.owed, ap length all, is) in
    let room_none : room ≡ 0 = omega (arith, c.enough, left_none) in
    let left_over : left - room ≡ 0 = omega (arith, left_none) in (
      sym (ap (λ n. frames ++ (take n [] ++ frames_behind channel token number id k (drop n []))) room_none ∙ append-nil frames)
          ∙ c.becomes [] (ap length none ∙ is) ∙ ap (λ (l : List ℕ). at_once channel token first id k l) none,
      sym (ap (number_after number) (ap (λ n. parts_left n k) left_over ∙ parts_none k c.some) ∙ number_after_none number c.range) ∙ c.counted,
    )

-- ---- the same in an output that begins with other bytes

pub behind_start : (start full k : ℕ) (out more : List ℕ) → full * (24 + k) + 24 ≤ length (drop start out) → drop start (out ++ more) ≡ drop start out ++ more
behind_start start full k out more least = drop-append-le start out more (omega (arith, length-drop start out, least))

pub before_start : (start full k : ℕ) (out more : List ℕ) → full * (24 + k) + 24 ≤ length (drop start out) → take start (out ++ more) ≡ take start out
before_start start full k out more least = take-append-le start out more (omega (arith, length-drop start out, least))

pub begins_more : (old out more new : List ℕ) → new ≡ out ++ more → length old ≤ length out → take (length old) out ≡ old → take (length old) new ≡ old
begins_more old out more new e longer begins = ap (take (length old)) e ∙ take-append-le (length old) out more longer ∙ begins

pub few_full : (full k : ℕ) → full ≤ full * (24 + k)
few_full zero k = omega arith
few_full (suc full) k =
    let far : suc full * (24 + k) ≡ full * (24 + k) + (24 + k) = omega arith in
    omega (arith, few_full full k, far)

abbrev At : Type 0
At = ℕ × (ℕ × (ℕ × (ℕ × List ℕ)))

-- the cut goes on by a chunk
pub cut_by_chunk : (channel token id k total first start number left room full : ℕ) (out front header new : List ℕ) (number1 left1 room1 full1 : ℕ)
    → IsCut channel token id k total first number left room full (drop start out) → room < left → length front ≡ room → IsHeader channel token id k number (left - room) header
    → number1 ≡ number_after number 1 → left1 ≡ left - room → room1 ≡ min (left - room) k → full1 ≡ full → new ≡ (out ++ front) ++ header
    → IsCut channel token id k total first number1 left1 room1 (full1 + 1) (drop start new)
cut_by_chunk channel token id k total first start number left room full out front header new number1 left1 room1 full1 c lt all h e1 e2 e3 e4 e5 =
    let frames : drop start new ≡ drop start out ++ (front ++ header) = ap (drop start) (e5 ∙ append_assoc out front header) ∙ behind_start start full k out (front ++ header) c.least in
    let next : full1 + 1 ≡ suc full = ap (λ n. n + 1) e4 ∙ add-one full in
    subst (λ (x : At). IsCut channel token id k total first x.0 x.1.0 x.1.1.0 x.1.1.1.0 x.1.1.1.1)
    (λ i. (sym e1 i, (sym e2 i, (sym e3 i, (sym next i, sym frames i)))))
    (cut_on channel token id k total first number left room full (drop start out) front header c lt all h)

pub carried_by_chunk : (channel token id k total first start number left room full : ℕ) (out front back rest header new : List ℕ) (full1 : ℕ) (target : List ℕ)
    → IsCut channel token id k total first number left room full (drop start out) → room < left → length front ≡ room → length header ≡ 24
    → full1 ≡ full → new ≡ (out ++ front) ++ header → rest ≡ front ++ back → carried full k (drop start out) ++ rest ≡ target
    → carried (full1 + 1) k (drop start new) ++ back ≡ target
carried_by_chunk channel token id k total first start number left room full out front back rest header new full1 target c lt all is e4 e5 e6 goal =
    let frames : drop start new ≡ drop start out ++ (front ++ header) = ap (drop start) (e5 ∙ append_assoc out front header) ∙ behind_start start full k out (front ++ header) c.least in
    let next : full1 + 1 ≡ suc full = ap (λ n. n + 1) e4 ∙ add-one full in
    let b = carried full k (drop start out) in
    (λ i. carried (next i) k (frames i) ++ back)
    ∙ ap (λ (l : List ℕ). l ++ back) (carried_on full k room (drop start out) front header c.least (c.size lt) all is)
    ∙ append_assoc b front back ∙ ap (λ (l : List ℕ). b ++ l) (sym e6) ∙ goal

pub cut_by_end : (channel token id k total first start number left room full : ℕ) (out bytes new : List ℕ) (left1 room1 : ℕ)
    → IsCut channel token id k total first number left room full (drop start out) → (length bytes ≤ room) ⊎ (left ≤ room)
    → left1 ≡ left - length bytes → room1 ≡ room - length bytes → new ≡ out ++ bytes
    → IsCut channel token id k total first number left1 room1 full (drop start new)
cut_by_end channel token id k total first start number left room full out bytes new left1 room1 c ends e1 e2 e3 =
    let frames : drop start new ≡ drop start out ++ bytes = ap (drop start) e3 ∙ behind_start start full k out bytes c.least in
    subst (λ (x : ℕ × (ℕ × List ℕ)). IsCut channel token id k total first number x.0 x.1.0 full x.1.1)
    (λ i. (sym e1 i, (sym e2 i, sym frames i)))
    (cut_last channel token id k total first number left room full (drop start out) bytes c ends)

pub carried_by_end : (channel token id k total first start number left room full : ℕ) (out bytes new target : List ℕ)
    → IsCut channel token id k total first number left room full (drop start out) → new ≡ out ++ bytes → carried full k (drop start out) ++ bytes ≡ target
    → carried full k (drop start new) ≡ target
carried_by_end channel token id k total first start number left room full out bytes new target c e goal =
    ap (carried full k) (ap (drop start) e ∙ behind_start start full k out bytes c.least) ∙ carried_more full k (drop start out) bytes c.least ∙ goal

-- ---- what a sink shows that cuts

-- what is put behind the last header is shown behind the rest
pub shown_by_end : (channel token id k total first start number left room full : ℕ) (out bytes new : List ℕ)
    → IsCut channel token id k total first number left room full (drop start out) → new ≡ out ++ bytes
    → shown channel token id k total first start full new ≡ shown channel token id k total first start full out ++ bytes
shown_by_end channel token id k total first start number left room full out bytes new c e =
    let base = take start out in
    let front : take start new ≡ base = ap (take start) e ∙ before_start start full k out bytes c.least in
    let behind : carried full k (drop start new) ≡ carried full k (drop start out) ++ bytes =
    carried_by_end channel token id k total first start number left room full out bytes new (carried full k (drop start out) ++ bytes) c e refl in
    (λ i. channel ∷ token ∷ id ∷ k ∷ total ∷ first ∷ start ∷ (front i ++ behind i))
    ∙ ap (λ (l : List ℕ). channel ∷ token ∷ id ∷ k ∷ total ∷ first ∷ start ∷ l) (sym (append_assoc base (carried full k (drop start out)) bytes))

same_behind : (start : ℕ) (p q a b : List ℕ) → length p ≡ start → length q ≡ start → p ++ a ≡ q ++ b → (p ≡ q) × (a ≡ b)
same_behind start p q a b long long1 e =
    (sym (take_at p a start long) ∙ ap (take start) e ∙ take_at q b start long1, sym (drop_at p a start long) ∙ ap (drop start) e ∙ drop_at q b start long1)

-- Out is what it was, behind which more of the same message stands.
pub record GoesOn (channel token id k total first start number left room full full0 : ℕ) (out out0 more : List ℕ) : Type 0 where
  pub cut : IsCut channel token id k total first number left room full (drop start out)
  pub base : take start out ≡ take start out0
  pub put : carried full k (drop start out) ≡ carried full0 k (drop start out0) ++ more

-- whatever was done to a sink that shows this, it is the same cut
pub same_cut : (channel token id k total first start channel1 token1 id1 k1 total1 first1 start1 number left room full full0 : ℕ) (out out0 more : List ℕ)
    → IsCut channel1 token1 id1 k1 total1 first1 number left room full (drop start1 out) → start ≤ length out0
    → shown channel1 token1 id1 k1 total1 first1 start1 full out ≡ shown channel token id k total first start full0 out0 ++ more
    → GoesOn channel token id k total first start number left room full full0 out out0 more
same_cut channel token id k total first start channel1 token1 id1 k1 total1 first1 start1 number left room full full0 out out0 more c inside e =
    let at : (n : ℕ) → get_or (shown channel1 token1 id1 k1 total1 first1 start1 full out) n 0 ≡ get_or (shown channel token id k total first start full0 out0 ++ more) n 0 = λ n. ap (λ (l : List ℕ). get_or l n 0) e in
    let size : start1 ≡ start = at 6 in
    let long : length (take start1 out) ≡ start1 = length-take-le start1 out (omega (arith, c.least, length-drop start1 out)) in
    let parts : take start1 out ++ carried full k1 (drop start1 out) ≡ take start out0 ++ (carried full0 k (drop start out0) ++ more) =
    ap (drop 7) e ∙ append_assoc (take start out0) (carried full0 k (drop start out0)) more in
    let both = same_behind start (take start1 out) (take start out0) (carried full k1 (drop start1 out)) (carried full0 k (drop start out0) ++ more) (long ∙ size) (length-take-le start out0 inside) parts in
    record {
      cut = subst (λ (x : ℕ × (ℕ × (ℕ × (ℕ × (ℕ × (ℕ × ℕ)))))). IsCut x.0 x.1.0 x.1.1.0 x.1.1.1.0 x.1.1.1.1.0 x.1.1.1.1.1.0 number left room full (drop x.1.1.1.1.1.1 out))
          (λ i. (at 0 i, (at 1 i, (at 2 i, (at 3 i, (at 4 i, (at 5 i, at 6 i))))))) c;
      base = ap (λ n. take n out) (sym size) ∙ both.0;
      put = (λ i. carried full (sym (at 3) i) (drop (sym size i) out)) ∙ both.1;
    }

-- once a whole message is put behind nothing of it, its frames stand there
pub all_put : (channel token id k total first start number left room full full0 : ℕ) (out out0 message : List ℕ)
    → GoesOn channel token id k total first start number left room full full0 out out0 message → carried full0 k (drop start out0) ≡ [] → total ≡ length message
    → (out ≡ take start out0 ++ message_frames channel token first 0 (fill id message k)) × (number ≡ number_after first (part_count (length message) k))
all_put channel token id k total first start number left room full full0 out out0 message g none all =
    let put : carried full k (drop start out) ≡ message = g.put ∙ ap (λ (l : List ℕ). l ++ message) none in
    let whole = cut_whole channel token id k total first number left room full (drop start out) message g.cut put (sym all) in (
      sym (take-append-drop start out) ∙ (λ i. g.base i ++ whole.0 i),
      whole.1 ∙ ap (λ n. number_after first (part_count n k)) all,
    )

-- ---- a message that begins

-- one that fits into one chunk
pub header_of_whole : (channel token id k total first : ℕ) (out header message new : List ℕ) → 1 ≤ k → IsNumber first → total ≡ length message → total ≤ k
    → IsHeader channel token id k first total header → new ≡ (out ++ header) ++ message → new ≡ out ++ message_frames channel token first 0 (fill id message k)
header_of_whole channel token id k total first out header message new pos is all fits h e =
    let frame : header ++ message ≡ part_frame channel token first (record { id = id; flag = 70; bytes = message }) =
    h.before message (omega (arith, all, fits)) ∙ ap (λ b. chunk_frame Message (if b then 67 else 70) channel token first id message) (le-ltb k total fits) in
    e ∙ append_assoc out header message ∙ ap (λ (l : List ℕ). out ++ l) frame ∙ last_written out channel token first id k message pos is (omega (arith, all, fits))

pub cut_begins : (channel token id k total first start : ℕ) (out header new : List ℕ) (number left room full : ℕ) → 1 ≤ k → IsNumber first → start ≡ length out
    → IsHeader channel token id k first total header → number ≡ number_after first 1 → left ≡ total → room ≡ min total k → full ≡ 0 → new ≡ out ++ header
    → IsCut channel token id k total first number left room full (drop start new)
cut_begins channel token id k total first start out header new number left room full pos is at h e1 e2 e3 e4 e5 =
    let frames : drop start new ≡ header = ap (drop start) e5 ∙ drop_at out header start (sym at) in
    subst (λ (x : At). IsCut channel token id k total first x.0 x.1.0 x.1.1.0 x.1.1.1.0 x.1.1.1.1)
    (λ i. (sym e1 i, (sym e2 i, (sym e3 i, (sym e4 i, sym frames i)))))
    (cut_first channel token id k total first header pos is h)
