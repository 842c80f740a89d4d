use Rattle.std.proofs.Common.{w64, ℤ, subst, ◌≡◌, false}
use Rattle.std.proofs.lemmas.Int.{to_z-of_z}
use Rattle.ua_frame.specs.Streams.{Piece, moment_of}
use Rattle.ua_conn.specs.client.Feeding.{HandsAll, FailsAll}
use Rattle.ua_conn.proofs.BothEnds.BetweenCallLemmas.{hears_piece, hears_fault}
use Rattle.ua_conn.proofs.conversation.ends.hear.Goals as goal

pub returns-in-Ok : goal.returns-in-Ok
returns-in-Ok c =
    let x : Piece = record { moment = moment_of c.args.now; bytes = c.args.piece.now } in
    let z = to_z-of_z w64 c.args.now c.ranges.now in
    let hands = subst (λ (t : ℤ). HandsAll c.args.client.now (record { moment = moment_of t; bytes = c.args.piece.now }) c.feed.new.self c.in-Ok.given.items) z c.in-Ok.ensures.hands in
    hears_piece _ _ c.append.result c.args.client.now c.feed.new.self x c.in-Ok.given.items c.args.answers.now.items c.append.new.self.items c.args.fault.now
    hands c.in-Ok.ensures.ended c.append.ensures.items

pub returns-in-Some : goal.returns-in-Some
returns-in-Some c =
    let x : Piece = record { moment = moment_of c.args.now; bytes = c.args.piece.now } in
    let z = to_z-of_z w64 c.args.now c.ranges.now in
    let fails = subst (λ (t : ℤ). c.args.client.now.failed ≡ false → FailsAll c.args.client.now (record { moment = moment_of t; bytes = c.args.piece.now }) c.feed.new.self c.in-Err.said) z c.in-Err.ensures.fails in
    hears_fault c.in-Err.said c.in-Some.said c.args.client.now c.feed.new.self x c.args.answers.now.items c.args.fault.now
    (rw c.in-Some.is at c.in_ok-said-in-Err.ensures) fails c.in-Err.ensures.ended
