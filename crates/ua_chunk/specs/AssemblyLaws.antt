-- Whatever the cut, the body comes back.
use Rattle.std.proofs.Common.{◌≡◌, ℕ, ◌+◌, ◌≤◌, Bool, true, false, cond, List, [], ◌∷◌, ◌++◌, length, Option, Some, None, refl, sym, ap, subst, ◌∙◌, arith, append_assoc}
use Rattle.std.specs.Prelude.{◌==◌, ◌||◌, nat_lt}
use Rattle.std.specs.List.{AllByRecursion}
use Rattle.std.proofs.lemmas.Bool.{le-ltb, eqb-true, eq-eqb}
use Rattle.std.proofs.lemmas.List.{append-nil, length-append}
use Rattle.ua_frame.specs.Rows.{first_row}
use Rattle.ua_chunk.specs.Cut.{Part, joined, AreFlagged, CutOf}
use Rattle.ua_chunk.specs.Half.{Half, with_part, body_of, parts_of, may_have_id, half_after, part_rows}
use Rattle.ua_chunk.specs.Gathered.{Gathered}
use Rattle.ua_chunk.specs.Assembly.{gathered_none, gathered_after, gathered_all, half_of, AreAccepted}

abbrev held : ℕ → ℕ → Option Half → Bool → Gathered
held max_message max_chunks half whole = record { max_message = max_message; max_chunks = max_chunks; half = half; whole = whole }

-- no row refuses a part within the limits that is no abort
pub no_row : (max_message max_chunks : ℕ) (half : Option Half) (flag id : ℕ) (bytes : List ℕ) → (flag == 65) ≡ false → may_have_id half id ≡ true
    → parts_of half + 1 ≤ max_chunks → length (body_of half) + length bytes ≤ max_message
    → first_row (part_rows max_message max_chunks half flag id bytes) ≡ None
no_row max_message max_chunks half flag id bytes e same few short =
    let parts : nat_lt max_chunks (parts_of half + 1) ≡ false = le-ltb _ _ few in
    let size : nat_lt max_message (length (body_of half) + length bytes) ≡ false = le-ltb _ _ short in
    rw (same, e, parts, size) refl

-- a part of the same message is put behind the others
pub put_behind : (half : Option Half) (id : ℕ) (bytes : List ℕ) → may_have_id half id ≡ true
    → with_part half id bytes ≡ record { id = id; body = body_of half ++ bytes; parts = parts_of half + 1 }
put_behind None id bytes same = refl
put_behind (Some half) id bytes same = ap (λ (n : ℕ). let h : Half = record { id = n; body = half.body ++ bytes; parts = half.parts + 1 } in h) (eqb-true half.id id same)

record IsHeldWhole (max_message max_chunks : ℕ) (half : Option Half) (id : ℕ) (parts : List Part) : Type 0 where
  accepted : AreAccepted (held max_message max_chunks half false) parts
  ends : gathered_all (held max_message max_chunks half false) parts
      ≡ held max_message max_chunks (Some (record { id = id; body = body_of half ++ joined parts; parts = parts_of half + length parts })) true

goes_on : (max_message max_chunks : ℕ) (half : Option Half) (id : ℕ) (parts : List Part) → may_have_id half id ≡ true
    → AllByRecursion (λ (p : Part). p.id ≡ id) parts → AreFlagged parts → parts_of half + length parts ≤ max_chunks → length (body_of half) + length (joined parts) ≤ max_message
    → IsHeldWhole max_message max_chunks half id parts
goes_on max_message max_chunks half id [] same ids flags few short = absurd flags
goes_on max_message max_chunks half id (p ∷ []) same ids flags few short =
    let last : (p.flag == 70) ≡ true = eq-eqb p.flag 70 flags in
    let other : (p.flag == 65) ≡ false = ap (λ (n : ℕ). n == 65) flags in
    let own : may_have_id half p.id ≡ true = ap (may_have_id half) ids.0 ∙ same in
    let size : length (body_of half) + length p.bytes ≤ max_message = omega (arith, short, length-append p.bytes []) in
    let put : with_part half p.id p.bytes ≡ record { id = id; body = body_of half ++ (p.bytes ++ []); parts = parts_of half + 1 } =
    put_behind half p.id p.bytes own ∙ (λ i. record { id = ids.0 i; body = body_of half ++ sym (append-nil p.bytes) i; parts = parts_of half + 1 }) in
    record {
      accepted = (refl, no_row max_message max_chunks half p.flag p.id p.bytes other own few size, tt);
      ends = λ i. held max_message max_chunks (cond (other i) None (Some (put i))) (last i);
    }
goes_on max_message max_chunks half id (p ∷ q ∷ parts) same ids flags few short =
    let more : (p.flag == 70) ≡ false = ap (λ (n : ℕ). n == 70) flags.0 in
    let other : (p.flag == 65) ≡ false = ap (λ (n : ℕ). n == 65) flags.0 in
    let own : may_have_id half p.id ≡ true = ap (may_have_id half) ids.0 ∙ same in
    let size : length (body_of half) + length p.bytes ≤ max_message = omega (arith, short, length-append p.bytes (joined (q ∷ parts))) in
    let next : Half = record { id = id; body = body_of half ++ p.bytes; parts = parts_of half + 1 } in
    let put : with_part half p.id p.bytes ≡ next =
    put_behind half p.id p.bytes own ∙ (λ i. record { id = ids.0 i; body = body_of half ++ p.bytes; parts = parts_of half + 1 }) in
    let step : gathered_after (held max_message max_chunks half false) p.flag p.id p.bytes ≡ held max_message max_chunks (Some next) false =
    λ i. held max_message max_chunks (cond (other i) None (Some (put i))) (more i) in
    let rest = goes_on max_message max_chunks (Some next) id (q ∷ parts) (eq-eqb id id refl) ids.1 flags.1 (omega (arith, few))
    (omega (arith, short, length-append p.bytes (joined (q ∷ parts)), length-append (body_of half) p.bytes)) in
    let all : Half = record { id = id; body = body_of half ++ (p.bytes ++ joined (q ∷ parts)); parts = parts_of half + length (p ∷ q ∷ parts) } in
    let whole : record { id = id; body = (body_of half ++ p.bytes) ++ joined (q ∷ parts); parts = parts_of half + 1 + length (q ∷ parts) } ≡ all =
    (let count : parts_of half + 1 + length (q ∷ parts) ≡ parts_of half + length (p ∷ q ∷ parts) = omega arith in
    λ i. record { id = id; body = append_assoc (body_of half) p.bytes (joined (q ∷ parts)) i; parts = count i }) in
    record {
      accepted = (refl, no_row max_message max_chunks half p.flag p.id p.bytes other own (omega (arith, few)) size, subst (λ (g : Gathered). AreAccepted g (q ∷ parts)) (sym step) rest.accepted);
      ends = ap (λ (g : Gathered). gathered_all g (q ∷ parts)) step ∙ rest.ends ∙ ap (λ (h : Half). held max_message max_chunks (Some h) true) whole;
    }

-- Within the limits each part of a cut is accepted, and the last makes the body whole.
pub record IsAssembled (max_message max_chunks id : ℕ) (body : List ℕ) (parts : List Part) : Type 0 where
  pub accepted : AreAccepted (gathered_none max_message max_chunks) parts
  pub whole : gathered_all (gathered_none max_message max_chunks) parts
      ≡ record { max_message = max_message; max_chunks = max_chunks; half = Some (record { id = id; body = body; parts = length parts }); whole = true }

abbrev pub AssemblesAnyCut : Type 0
AssemblesAnyCut = (max_message max_chunks id : ℕ) (body : List ℕ) (parts : List Part) → CutOf id body parts → length body ≤ max_message → length parts ≤ max_chunks
    → IsAssembled max_message max_chunks id body parts

pub assembles_any_cut : AssemblesAnyCut
assembles_any_cut max_message max_chunks id body parts cut short few =
    let h = goes_on max_message max_chunks None id parts refl cut.same cut.flagged (omega (arith, few)) (omega (arith, ap length cut.whole, short)) in
    let count : 0 + length parts ≡ length parts = omega arith in
    record {
      accepted = h.accepted;
      whole = h.ends ∙ (λ i. held max_message max_chunks (Some (record { id = id; body = cut.whole i; parts = count i })) true);
    }

-- what an assembly holds after a part is what is half received then
pub half_of_after : (g : Gathered) (flag id : ℕ) (bytes : List ℕ) → half_of (gathered_after g flag id bytes) ≡ half_after g.half flag id bytes
half_of_after g flag id bytes = by (flag == 65) (flag == 70)
  where
    by : (a f : Bool) → cond f None (cond a None (Some (with_part g.half id bytes))) ≡ cond (f || a) None (Some (with_part g.half id bytes))
    by true true = refl
    by true false = refl
    by false true = refl
    by false false = refl
