-- A text that is written run by run.
use Rattle.std.proofs.Common.{◌≡◌, ℕ, ◌+◌, ◌-◌, ◌≤◌, ◌<◌, List, [], ◌∷◌, ◌++◌, IsUtf8, length, take, drop, ap, sym, ◌∙◌, arith, length-drop}
use Rattle.std.specs.List.{flat_map}
use Rattle.std.proofs.Math.Seq.{take-add}
use Rattle.std.proofs.lemmas.Grind.{flat_map-append}
use Rattle.std.proofs.lemmas.List.{take_rest}
use Rattle.std.proofs.lemmas.Str.{IsUtf8-from_ascii}
use Rattle.std.proofs.lemmas.Str.Ascii.{IsAscii-cons, IsAscii-nil}

-- a run ends with the bytes or before
pub run_within : (bytes run : List ℕ) (start : ℕ) → start ≤ length bytes → length run ≤ length (take (length bytes - start) (drop start bytes)) → start + length run ≤ length bytes
run_within bytes run start within h = omega (arith, within, length-drop start bytes, rw take_rest at h)

-- what stands for itself is written as it is
pub run_written : (written : ℕ → List ℕ) (bytes run : List ℕ) (start : ℕ) → run ≡ take (length run) (take (length bytes - start) (drop start bytes)) → flat_map written run ≡ run
    → flat_map written (take start bytes) ++ run ≡ flat_map written (take (start + length run) bytes)
run_written written bytes run start front same =
    let front' : run ≡ take (length run) (drop start bytes) = front ∙ ap (take (length run)) (take_rest bytes start) in
    ap (λ l. flat_map written (take start bytes) ++ l) (sym same) ∙ sym (flat_map-append written (take start bytes) run)
    ∙ ap (λ l. flat_map written (take start bytes ++ l)) front' ∙ ap (flat_map written) (sym (take-add start (length run) bytes))

-- two digits are a text, and so are four bytes of which the last two are digits
pub two_text : (a b : ℕ) → a < 128 → b < 128 → IsUtf8 (a ∷ b ∷ [])
two_text a b p q = IsUtf8-from_ascii (a ∷ b ∷ []) (IsAscii-cons a (b ∷ []) p (IsAscii-cons b [] q IsAscii-nil))

pub four_text : (a b : ℕ) → a < 128 → b < 128 → IsUtf8 (92 ∷ 120 ∷ a ∷ b ∷ [])
four_text a b p q =
    IsUtf8-from_ascii (92 ∷ 120 ∷ a ∷ b ∷ [])
    (IsAscii-cons 92 (120 ∷ a ∷ b ∷ []) (omega arith) (IsAscii-cons 120 (a ∷ b ∷ []) (omega arith) (IsAscii-cons a (b ∷ []) p (IsAscii-cons b [] q IsAscii-nil))))
