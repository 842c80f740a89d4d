use Rattle.std.proofs.Common.{arith, rules, ◌≡◌, ◌+◌, ◌-◌, ◌<◌, ◌≤◌, ℕ, List, ◌++◌, take, length, refl, ap, ◌∙◌}
use Rattle.std.proofs.lemmas.Slice.{take-put_mid}
use borrow.Rule.Slice.PartMut.{put_mid}
use Rattle.ua_link.proofs.FrontLemmas.{header_more, rest_more, wanted_short}
use Rattle.ua_link.proofs.front.Front.add.Goals as goal

pub returns-then-self : goal.returns-then-self
returns-then-self c = λ rest f lacks.
    let got = c.args.self.now.got in
    let header = c.args.self.now.header in
    let piece = c.args.piece.now in
    let new = c.copy_from_slice.new.self in
    let less : got < 8 = omega (arith, c.if-self.true) in
    let within : got + length piece ≤ 8 = omega (arith, less, c.requires, wanted_short got c.args.self.now.missing less) in
    let eight : length header ≡ 8 = search rules in
    let long : length new ≡ length piece = ap length c.copy_from_slice.ensures.after in
    let came = take-put_mid got (got + length piece - got) header new (got + length piece) (omega (arith, long)) (omega (arith, eight, less)) ∙ ap (λ (p : List ℕ). take got header ++ p) c.copy_from_slice.ensures.after in
    header_more header (put_mid got (got + length piece - got) header new) got (got + length piece) c.args.self.now.missing c.saturating_sub-self.result rest piece f lacks less within refl came
    (c.saturating_sub-self.ensures ∙ ap (λ (k : ℕ). k - (got + length piece)) c.size_in.ensures)

pub returns-else-self : goal.returns-else-self
returns-else-self c = λ rest f lacks.
    rest_more c.args.self.now.header c.args.self.now.got c.args.self.now.missing _ rest c.args.piece.now f lacks (omega (arith, c.if-self.false)) c.saturating_sub-self-else-self.ensures
