use Rattle.std.proofs.Common.{w64, ℤ, subst}
use Rattle.std.proofs.lemmas.Int.{to_z-of_z}
use Rattle.ua_frame.specs.Streams.{Piece, moment_of}
use Rattle.ua_conn.specs.server.Feeding.{FeedsAll}
use Rattle.ua_conn.proofs.BothEnds.BetweenCallLemmas.{serves_piece}
use Rattle.ua_conn.proofs.conversation.ends.serve.Goals as goal

pub returns-in-Ok : goal.returns-in-Ok
returns-in-Ok c =
    let x : Piece = record { moment = moment_of c.args.now; bytes = c.args.piece.now } in
    let z = to_z-of_z w64 c.args.now c.ranges.now in
    let feeds = subst (λ (t : ℤ). FeedsAll c.args.server.now (record { moment = moment_of t; bytes = c.args.piece.now }) c.args.down.now.items c.feed.new.out.items c.in-Ok.fed.requests.items c.in-Ok.fed.end c.feed.new.self) z c.in-Ok.ensures.fed in
    serves_piece _ _ c.append.result c.args.server.now c.feed.new.self x c.args.down.now.items c.feed.new.out.items c.in-Ok.fed.requests.items c.args.handed.now.items c.append.new.self.items c.args.end.now c.in-Ok.fed.end
    feeds c.in-Ok.ensures.ended c.append.ensures.items
