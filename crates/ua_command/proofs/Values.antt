-- The lines of a value, from what was read and what was printed.
use Rattle.std.proofs.Common.{◌≡◌, ℕ, List, length, Result, Ok, Err, IfErr, subst, sym, ◌∙◌, append-nil}
use Rattle.ua_value.specs.Format.{Format, Reads}
use Rattle.ua_command.specs.Printed.{value_lines, two_lines, shape_of, Prints}
use Rattle.ua_value.specs.declared.fault.ReadFault.{ReadFault}
use Rattle.ua_kind.specs.declared.kind.Kind.{Kind}

pub prints_two : {V : Type 0} (f : Format V) (input text : List ℕ) (v : V) (n : ℕ) → Reads f input (Ok (v, n)) → text ≡ value_lines n (length input) (f.canon v) → Prints (two_lines f) input text
prints_two f input text v n reads e = ((v, n), reads, e ∙ sym (append-nil (value_lines n (length input) (f.canon v))))

-- what is refused of a type, where the type is known by another name
pub refused_as : {T : Type 0} (k j : Kind) (input : List ℕ) (r : Result T ReadFault) → k ≡ j → IfErr r (λ e. Reads (shape_of j).format input (Err e)) → IfErr r (λ e. Reads (shape_of k).format input (Err e))
refused_as k j input r e h = subst (λ x. IfErr r (λ f. Reads (shape_of x).format input (Err f))) (sym e) h
