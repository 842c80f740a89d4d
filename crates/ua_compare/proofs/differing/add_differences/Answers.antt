use Rattle.std.proofs.Common.{◌≡◌, length, ap, rules}
use Rattle.std.specs.Prelude.{◌==◌, true}
use Rattle.std.proofs.lemmas.List.{nil_from_length}
use Rattle.ua_compare.proofs.Orders.{in_some_order, as_often}
use Rattle.ua_compare.proofs.differing.add_differences.Goals as goal
use Rattle.ua_compare.proofs.differing.add_differences.Goals.{else-is_empty-via-then-is_empty+else-is_empty-2, else-is_empty-via-else-is_empty}

pub returns-then-is_empty-2-clause-same : goal.returns-then-is_empty-2-clause-same
returns-then-is_empty-2-clause-same g c =
    let missing = c.in_ok-left.left.missing.items in
    let extra = c.in_ok-left.left.extra.items in
    let no_missing : length missing ≡ 0 = search rules in
    let no_extra : length extra ≡ 0 = search rules in
    let often = c.in_ok-left.ensures.none.0 (nil_from_length missing no_missing, nil_from_length extra no_extra) in
    ((λ _. in_some_order g.D.PartialEq.eq g.met.D.Eq.laws g.met.D.Described.decides c.args.wanted.now c.args.found.now often), (λ _. search rules))

pub returns-clause-same : goal.returns-clause-same
returns-clause-same g c =
    let same = g.D.PartialEq.eq in (
      (λ is. search rules),
      (λ is.
          let none = c.in_ok-left.ensures.none.1 (as_often same c.args.wanted.now c.args.found.now is) in
          let no_missing : length c.in_ok-left.left.missing.items ≡ 0 = ap length none.0 in
          let no_extra : length c.in_ok-left.left.extra.items ≡ 0 = ap length none.1 in
          absurd (elim c.else-is_empty.branch [
            | else-is_empty-via-then-is_empty+else-is_empty-2 w ↦ (let there : (length c.in_ok-left.left.extra.items == 0) ≡ true = ap (λ n. n == 0) no_extra in cc (there, w.is_empty-then-is_empty.ensures, w.if-is_empty-2.false))
            | else-is_empty-via-else-is_empty w ↦ (let there : (length c.in_ok-left.left.missing.items == 0) ≡ true = ap (λ n. n == 0) no_missing in cc (there, c.is_empty.ensures, w.if-is_empty.false))
          ])),
    )
