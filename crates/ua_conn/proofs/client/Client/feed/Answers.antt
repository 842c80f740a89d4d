use Rattle.std.proofs.Common.{w64, ◌≡◌, ◌∙◌, ◌++◌, ℕ, List, max, refl, sym, ap, subst}
use Rattle.std.proofs.lemmas.Int.{to_z-of_z}
use Rattle.ua_frame.specs.Streams.{Piece, moment_of}
use Rattle.ua_conn.specs.client.Feeding.{ClientShown}
use Rattle.ua_conn.specs.client.Hearing.{Hears, BreaksBy}
use Rattle.ua_conn.specs.client.Telling.{shown_of}
use Rattle.ua_conn.specs.declared.client.answer.Answer.{Answer}
use Rattle.ua_conn.proofs.ClientEnd.PieceLemmas.{hands, breaks}
use Rattle.ua_conn.proofs.client.Client.feed.Goals as goal

pub returns-in-Err-clause-fails : goal.returns-in-Err-clause-fails
returns-in-Err-clause-fails c =
    let s = c.self.inside in
    let x : Piece = record { moment = moment_of c.args.now; bytes = c.args.piece.now } in
    let old : ClientShown = shown_of s.connection s.closed s.next_id s.moment s.buffer.bytes s.output.items s.failed in
    let now : c.later-now.result ≡ max s.moment x.moment = c.later-now.ensures.moment ∙ ap (λ z. max s.moment (moment_of z)) (to_z-of_z w64 c.args.now c.ranges.now) in
    let P : ℕ → Type 0 = λ t. BreaksBy s.connection t (s.buffer.bytes ++ x.bytes) s.output.items c.take_frames-heard.new.out.items c.in-Err.fault in
    let broke = subst P now c.in-Err.ensures.breaks in
    λ _. (rw (← c.self.view_is) (breaks old _ x s.connection.moment c.in-Err.fault broke refl))

pub returns-in-Ok-clause-hands : goal.returns-in-Ok-clause-hands
returns-in-Ok-clause-hands c =
    let s = c.self.inside in
    let x : Piece = record { moment = moment_of c.args.now; bytes = c.args.piece.now } in
    let new = c.take_frames-heard.new in
    let old : ClientShown = shown_of s.connection s.closed s.next_id s.moment s.buffer.bytes s.output.items s.failed in
    let now : c.later-now.result ≡ max s.moment x.moment = c.later-now.ensures.moment ∙ ap (λ z. max s.moment (moment_of z)) (to_z-of_z w64 c.args.now c.ranges.now) in
    let P : ℕ → List Answer → Type 0 = λ t q. Hears s.connection new.connection t (s.buffer.bytes ++ x.bytes) (record { bytes = s.output.items; answers = q }) (record { bytes = new.out.items; answers = new.answers.items }) new.buffer.bytes in
    let heard = subst (P (max s.moment x.moment)) c.new-answers.ensures.items (subst (λ t. P t c.new-answers.result.items) now c.in-Ok.ensures.heard) in
    rw (← c.self.view_is) (hands old _ x s.connection.moment new.connection new.answers.items new.buffer.bytes heard
    (λ i. shown_of new.connection s.closed s.next_id (now i) new.buffer.bytes new.out.items (sym c.if-self.false i)))
