use Rattle.std.proofs.Common.{w64, None, ◌≡◌, ◌+◌, ℕ, List, ◌++◌, true, max, sym, ap, subst, ◌∙◌}
use Rattle.std.proofs.lemmas.Int.{to_z-of_z}
use Rattle.ua_frame.specs.Streams.{moment_of}
use Rattle.ua_chunk.specs.Written.{close_frame}
use Rattle.ua_channel.specs.Token.{newest_id}
use Rattle.ua_conn.specs.client.Commands.{Close}
use Rattle.ua_conn.specs.client.Questions.{close_asked_body}
use Rattle.ua_conn.specs.client.Feeding.{ClientShown, AcceptsAll}
use Rattle.ua_conn.specs.client.Telling.{against, shown_of}
use Rattle.ua_conn.proofs.ClientEnd.TellingLemmas.{refused, closes}
use Rattle.ua_conn.proofs.client.Client.close.Goals as goal

pub returns-in-Some-clause-refused : goal.returns-in-Some-clause-refused
returns-in-Some-clause-refused c = refused c.args.self.now Close c.in-Some.fault (sym c.in-Some.ensures)

pub returns-clause-accepted : goal.returns-clause-accepted
returns-clause-accepted c =
    let s = c.self.inside in
    let now = moment_of c.args.now in
    let moment : c.later-now.result ≡ max s.moment now = c.later-now.ensures.moment ∙ ap (λ z. max s.moment (moment_of z)) (to_z-of_z w64 c.args.now c.ranges.now) in
    let says : ℕ → List ℕ = λ m. s.output.items ++ close_frame s.connection.waits.known.channel (newest_id s.connection.waits.known.tokens) s.connection.next s.next_id (close_asked_body m s.next_id) in
    rw (← c.self.view_is)
    (subst (λ m. AcceptsAll (shown_of s.connection s.closed s.next_id s.moment s.buffer.bytes s.output.items s.failed) now Close (shown_of c.close.new.self true (s.next_id + 1) m s.buffer.bytes c.close.new.out.items s.failed)) (sym moment)
    (closes s.connection c.close.new.self s.closed s.failed s.next_id s.moment now s.buffer.bytes s.output.items c.close.new.out.items
    (subst (λ (v : ClientShown). against v Close ≡ None) (sym c.self.view_is) (sym c.in_default.ensures)) (c.in_ok-close.ensures.said ∙ ap says moment) c.in_ok-close.ensures.after))
