use Rattle.std.proofs.Common.{◌≡◌, ◌++◌, ◌∙◌, ◌-◌, ℕ, List, false, length, take, drop, ap, subst, arith}
use Rattle.std.specs.Prelude.{OnOk}
use Rattle.std.proofs.lemmas.List.{length-drop, take_all}
use Rattle.ua_stream.specs.Piece.{Piece, part_of}
use Rattle.ua_stream.specs.Flow.{Flow, Follows}
use Rattle.ua_stream.specs.Side.{piece_of, at_of, skip_of, distance_of, expected_of}
use Rattle.ua_stream.proofs.Places.{stream_empty}
use Rattle.ua_stream.proofs.side.Side.add.Goals as goal

pub returns-then-bytes-skip-clause-stream : goal.returns-then-bytes-skip-clause-stream
returns-then-bytes-skip-clause-stream c =
    let k : ℕ = skip_of (distance_of (expected_of c.args.self.now.origin c.args.self.now.next) c.args.sequence) in
    let distance : c.distance_of-distance.result ≡ distance_of (expected_of c.args.self.now.origin c.args.self.now.next) c.args.sequence =
    c.distance_of-distance.ensures ∙ ap (λ x. distance_of x c.args.sequence) c.expected_of.ensures
    ∙ ap (λ (v : Flow). distance_of (expected_of v.origin v.next) c.args.sequence) c.self.view_is in
    let skip : c.skip_of-skip.result ≡ k = c.skip_of-skip.ensures ∙ ap skip_of distance in
    let none : length (drop k c.args.bytes.now) ≡ 0 = omega (arith, length-drop k c.args.bytes.now, skip, c.if-bytes-skip.true) in
    λ live past taken h.
    stream_empty past c.args.self.now.parts (taken ++ c.args.self.now.ready) c.args.self.now.next (piece_of c.args.self.now c.args.sequence c.args.bytes.now) none h

pub returns-clause-stream : goal.returns-clause-stream
returns-clause-stream c =
    let distance : c.distance_of-distance.result ≡ distance_of (expected_of c.args.self.now.origin c.args.self.now.next) c.args.sequence =
    c.distance_of-distance.ensures ∙ ap (λ x. distance_of x c.args.sequence) c.expected_of.ensures
    ∙ ap (λ (v : Flow). distance_of (expected_of v.origin v.next) c.args.sequence) c.self.view_is in
    let skip : c.skip_of-skip.result ≡ skip_of (distance_of (expected_of c.args.self.now.origin c.args.self.now.next) c.args.sequence) = c.skip_of-skip.ensures ∙ ap skip_of distance in
    let at : c.at_of-at.result ≡ at_of c.args.self.now.next (distance_of (expected_of c.args.self.now.origin c.args.self.now.next) c.args.sequence) =
    c.at_of-at.ensures.at ∙ ap (at_of c.self.inside.next) distance
    ∙ ap (λ (v : Flow). at_of v.next (distance_of (expected_of c.args.self.now.origin c.args.self.now.next) c.args.sequence)) c.self.view_is in
    let same : part_of c.at_of-at.result (drop c.skip_of-skip.result c.args.bytes.now) ≡ piece_of c.args.self.now c.args.sequence c.args.bytes.now = λ i. part_of (at i) (drop (skip i) c.args.bytes.now) in
    let rest : List ℕ = drop c.skip_of-skip.result c.args.bytes.now in
    let all : take (length c.args.bytes.now - c.skip_of-skip.result) rest ≡ rest = take_all (length c.args.bytes.now - c.skip_of-skip.result) rest (omega (arith, length-drop c.skip_of-skip.result c.args.bytes.now)) in
    let whole : part_of c.at_of-at.result (take (length c.args.bytes.now - c.skip_of-skip.result) rest) ≡ piece_of c.args.self.now c.args.sequence c.args.bytes.now = ap (part_of c.at_of-at.result) all ∙ same in
    subst (λ (s : Piece). OnOk c.add_from.result (c.add_from.new.self.stopped ≡ false → Follows c.args.self.now s c.add_from.new.self)) whole c.add_from.ensures.stream
