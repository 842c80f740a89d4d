use Rattle.std.proofs.Common.{◌≡◌, ◌++◌, ◌∙◌, sym, ap, subst, ℕ, List, [], None, ◌⊎◌, inl, inr}
use Rattle.ua_conn.specs.server.Replies.{ended}
use Rattle.ua_conn.specs.server.Feeding.{BeginsNoFrame, left_of}
use Rattle.ua_conn.specs.declared.outcome.End.{End}
use Rattle.ua_conn.specs.declared.outcome.End.TheVariants.{InputEnded}
use Rattle.ua_link.specs.Fronts.{IsFront}
use Rattle.ua_link.proofs.FrontLemmas.{left_or_all}
use Rattle.ua_link.proofs.connection.feeding.front_behind.Goals as goal

still_partial : (rest piece left : List ℕ) (end : End) → end ≡ ended None left → (end ≡ InputEnded → ⊥) → left ≡ left_of (rest ++ piece) →
    (left_of (rest ++ piece) ≡ []) ⊎ (BeginsNoFrame (rest ++ piece) × (left_of (rest ++ piece) ≡ rest ++ piece)) → BeginsNoFrame (rest ++ piece) × (rest ++ piece ≡ left)
still_partial rest piece left end e not is (inl none) = absurd (not (e ∙ ap (λ (l : List ℕ). ended None l) (is ∙ none)))
still_partial rest piece left end e not is (inr all) = (all.0, sym (is ∙ all.1))

pub returns-in_default : goal.returns-in_default
returns-in_default c = λ rest f is.
    let piece = c.args.piece.now in
    let left = c.args.server.now.held.rest in
    let more = still_partial rest piece left c.end_of_input.result c.end_of_input.ensures c.in_default.not-InputEnded is (left_or_all c.args.front.header c.args.front.got c.args.front.missing rest piece f c.requires) in
    subst (λ (r : List ℕ). IsFront c.add.new.self.header c.add.new.self.got c.add.new.self.missing r) more.1 (c.add.ensures rest f more.0)
