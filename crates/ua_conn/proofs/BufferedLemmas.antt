-- Bytes in a buffer, and more of a piece behind them: what both ends read at their front.
use Rattle.std.proofs.Common.{◌≡◌, ℕ, ◌+◌, ◌-◌, ◌<◌, ◌≤◌, List, ◌++◌, take, drop, length, min, sym, ap, subst, ◌∙◌, append_assoc, arith}
use Rattle.std.proofs.lemmas.List.{append-nil, length-take-le, length-drop, length-append, take-append-le, drop-append-le, take-append-drop, drop-drop, drop_all}
use Rattle.ua_frame.specs.Streams.{IsFrame, size_of}
use Rattle.ua_frame.specs.StreamLaws.{size_append}
use Rattle.ua_conn.specs.server.Feeding.{BeginsFrame, first_frame}

-- ---- a frame at the front of the buffer is the one at the front of all

same_bytes : (n : ℕ) (front more : List ℕ) → BeginsFrame n front → take n (front ++ more) ≡ take n front
same_bytes n front more h = take-append-le n front more h.within

pub begins_further : (n : ℕ) (front more : List ℕ) → BeginsFrame n front → BeginsFrame n (front ++ more)
begins_further n front more h = record {
  within = omega (arith, h.within, length-append front more);
  frame = subst IsFrame (sym (same_bytes n front more h)) h.frame;
}

pub same_first : (now n : ℕ) (front more : List ℕ) → BeginsFrame n front → first_frame now n (front ++ more) ≡ first_frame now n front
same_first now n front more h = λ i. record { bytes = same_bytes n front more h i; moment = now }

pub same_size : (n : ℕ) (front more : List ℕ) → BeginsFrame n front → size_of (front ++ more) ≡ size_of front
same_size n front more h = size_append front more (omega (arith, h.within, h.frame.header, length-take-le n front h.within))

-- what is left behind it
pub left_behind : (n : ℕ) (front more : List ℕ) → BeginsFrame n front → drop n (front ++ more) ≡ drop n front ++ more
left_behind n front more h = drop-append-le n front more h.within

-- ---- bytes of the piece that go into the buffer

pub pushed : (k read : ℕ) (front piece : List ℕ) → (front ++ take k (drop read piece)) ++ drop (read + k) piece ≡ front ++ drop read piece
pushed k read front piece =
    append_assoc front (take k (drop read piece)) (drop (read + k) piece)
    ∙ ap (λ l. front ++ l) (ap (λ l. take k (drop read piece) ++ l) (sym (drop-drop k read piece)) ∙ take-append-drop k (drop read piece))

-- the first time
pub pushed_first : (k : ℕ) (front piece : List ℕ) → (front ++ take k piece) ++ drop k piece ≡ front ++ piece
pushed_first k front piece = append_assoc front (take k piece) (drop k piece) ∙ ap (λ l. front ++ l) (take-append-drop k piece)

-- where the whole piece is in the buffer
pub nothing_behind : (read : ℕ) (front piece : List ℕ) → length piece ≤ read → front ++ drop read piece ≡ front
nothing_behind read front piece h = ap (λ l. front ++ l) (drop_all read piece h) ∙ append-nil front

-- ---- and how many there are then

pub pushed_on : (k read : ℕ) (front piece new : List ℕ) → new ≡ front ++ take k (drop read piece) → new ++ drop (read + k) piece ≡ front ++ drop read piece
pushed_on k read front piece new e = ap (λ l. l ++ drop (read + k) piece) e ∙ pushed k read front piece

-- As many are taken as there is room for.
pub record IsPush (k read capacity : ℕ) (front piece new : List ℕ) : Type 0 where
  pub taken : k ≡ min (length (drop read piece)) (capacity - length front)
  pub bytes : new ≡ front ++ take k (drop read piece)

long_by : (k : ℕ) (front rest new : List ℕ) → k ≤ length rest → new ≡ front ++ take k rest → length new ≡ length front + k
long_by k front rest new le e = ap length e ∙ length-append front (take k rest) ∙ ap (λ n. length front + n) (length-take-le k rest le)

pub push_within : (k read capacity : ℕ) (front piece new : List ℕ) → IsPush k read capacity front piece new → read ≤ length piece → read + k ≤ length piece
push_within k read capacity front piece new p le = omega (arith, p.taken, length-drop read piece)

pub push_falls : (k read capacity : ℕ) (front piece new : List ℕ) → IsPush k read capacity front piece new → read < length piece → length front < capacity →
    (length piece - (read + k)) + ((length piece - (read + k)) + length new) < (length piece - read) + ((length piece - read) + length front)
push_falls k read capacity front piece new p le room =
    let rest : length (drop read piece) ≡ length piece - read = length-drop read piece in
    let most : k ≤ length (drop read piece) = omega (arith, p.taken) in
    let long : length new ≡ length front + k = long_by k front (drop read piece) new most p.bytes in
    omega (arith, p.taken, rest, long, room, le)

pub drop_falls : (n left : ℕ) (front : List ℕ) → 8 ≤ n → n ≤ length front → left + (left + length (drop n front)) < left + (left + length front)
drop_falls n left front some le = omega (arith, length-drop n front, some, le)
