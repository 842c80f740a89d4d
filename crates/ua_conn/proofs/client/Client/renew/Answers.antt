use Rattle.std.proofs.Common.{w64, None, ◌≡◌, ◌+◌, ℕ, List, ◌++◌, max, sym, ap, subst, ◌∙◌}
use Rattle.std.proofs.lemmas.Int.{to_z-of_z}
use Rattle.ua_frame.specs.Streams.{moment_of}
use Rattle.ua_chunk.specs.Written.{open_frame}
use Rattle.ua_conn.specs.client.Commands.{Renew}
use Rattle.ua_conn.specs.client.Questions.{open_asked_body}
use Rattle.ua_conn.specs.client.Feeding.{ClientShown, AcceptsAll}
use Rattle.ua_conn.specs.client.Telling.{against, shown_of}
use Rattle.ua_conn.proofs.ClientEnd.TellingLemmas.{refused, renews}
use Rattle.ua_conn.proofs.client.Client.renew.Goals as goal

pub returns-in-Some-clause-refused : goal.returns-in-Some-clause-refused
returns-in-Some-clause-refused c = refused c.args.self.now Renew c.in-Some.fault (sym c.in-Some.ensures)

pub returns-clause-accepted : goal.returns-clause-accepted
returns-clause-accepted c =
    let s = c.self.inside in
    let now = moment_of c.args.now in
    let moment : c.later-now.result ≡ max s.moment now = c.later-now.ensures.moment ∙ ap (λ z. max s.moment (moment_of z)) (to_z-of_z w64 c.args.now c.ranges.now) in
    let says : ℕ → List ℕ = λ m. s.output.items ++ open_frame s.connection.waits.known.channel s.connection.next s.next_id (open_asked_body m s.next_id 1 s.connection.config.lifetime) in
    rw (← c.self.view_is)
    (subst (λ m. AcceptsAll (shown_of s.connection s.closed s.next_id s.moment s.buffer.bytes s.output.items s.failed) now Renew (shown_of c.renew.new.self s.closed (s.next_id + 1) m s.buffer.bytes c.renew.new.out.items s.failed)) (sym moment)
    (renews s.connection c.renew.new.self s.closed s.failed s.next_id s.moment now s.buffer.bytes s.output.items c.renew.new.out.items
    (subst (λ (v : ClientShown). against v Renew ≡ None) (sym c.self.view_is) (sym c.in_default.ensures)) (c.in_ok-renew.ensures.said ∙ ap says moment) c.in_ok-renew.ensures.after))
