use Rattle.std.proofs.Common.{ℕ, ◌≡◌, ◌≤◌, ◌+◌, List, ◌++◌, drop, take, length, arith, vec_capacity, sym, ap, ◌∙◌}
use Rattle.std.proofs.lemmas.List.{length-append, length-drop, length-take-le, drop-append-le}
use Rattle.ua_frame.specs.declared.buffer.FrameBuf.TheInside.{Inside}
use Rattle.ua_frame.specs.Buffer.{IsAwaited}
use Rattle.ua_frame.specs.StreamLaws.{size_append}
use Rattle.ua_frame.specs.HeaderLaws.{header_fault_append}
use Rattle.ua_frame.proofs.buffer.FrameBuf.push.Goals as goal
use Rattle.ua_frame.proofs.buffer.FrameBuf.push.Goals.{then-self-len, else-self-len}

-- what is known of the header stays so whatever comes behind it
awaited_on : (awaited limit : ℕ) (bytes more : List ℕ) → IsAwaited awaited limit bytes → IsAwaited awaited limit (bytes ++ more)
awaited_on awaited limit bytes more known = λ some.
    let j = known some in
    record {
      header = omega (arith, j.header, length-append bytes more);
      passed = header_fault_append limit bytes more j.header ∙ j.passed;
      size = size_append bytes more j.header ∙ j.size;
    }

-- a buffer with room for so many bytes more
record HasRoom (s : Inside) (more : ℕ) : Type 0 where
  begins : s.start ≤ length s.bytes.items
  fits : length s.bytes.items + more ≤ s.capacity
  there : s.capacity ≤ vec_capacity s.bytes
  least : 8192 ≤ s.capacity
  most : s.capacity ≤ 1048576
  awaited : IsAwaited s.awaited s.limit (drop s.start s.bytes.items)

has_room : (c : goal.In-Ok) → HasRoom c.if-self-len.self-inside c.min-taken.result
has_room c =
    let was = c.self.invariant in
    elim c.if-self-len.branch [
      | then-self-len w ↦ rw w.self-inside-is (record {
        begins = omega (arith);
        fits = omega (arith, c.min-taken.ensures, c.len.ensures, was.begins, was.fits, ap length w.remove_front.ensures.items, length-drop c.self.inside.start c.self.inside.bytes.items);
        there = omega (arith, was.there, w.remove_front.ensures.capacity);
        least = was.least;
        most = was.most;
        awaited = rw w.remove_front.ensures.items was.awaited;
      })
      | else-self-len w ↦ rw w.self-inside-is (record {
        begins = was.begins;
        fits = omega (arith, w.if-self-len.false, c.len-2.ensures, was.fits);
        there = was.there;
        least = was.least;
        most = was.most;
        awaited = was.awaited;
      })
    ]

pub invariant_of-self : goal.invariant_of-self
invariant_of-self c =
    let s = c.if-self-len.self-inside in
    let piece = take c.min-taken.result c.args.piece.now in
    let room = has_room c in
    let items : c.extend_from_slice.new.self.items ≡ s.bytes.items ++ piece = c.in-Ok.ensures.items in
    let long : length c.extend_from_slice.new.self.items ≡ length s.bytes.items + c.min-taken.result =
    ap length items ∙ length-append s.bytes.items piece ∙ ap (λ n. length s.bytes.items + n) (length-take-le c.min-taken.result c.args.piece.now (omega (arith, c.min-taken.ensures))) in
    record {
      begins = omega (arith, long, room.begins);
      fits = omega (arith, long, room.fits);
      there = omega (arith, room.there, room.fits, long, c.in-Ok.ensures.capacity);
      least = room.least;
      most = room.most;
      awaited = rw (items, drop-append-le s.start s.bytes.items piece room.begins) (awaited_on s.awaited s.limit (drop s.start s.bytes.items) piece room.awaited);
      all = λ t a b d e f i. record { bytes = a i; start = b i; capacity = d i; awaited = e i; limit = f i };
    }
