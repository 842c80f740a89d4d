use Rattle.std.proofs.Common.{w64, ◌≡◌, ◌∙◌, ◌++◌, ℕ, List, Option, Some, None, true, false, max, is_some, refl, sym, ap, subst}
use Rattle.std.proofs.lemmas.Int.{to_z-of_z}
use Rattle.ua_frame.specs.Streams.{Piece, moment_of}
use Rattle.ua_service.specs.declared.request.Request.{Request}
use Rattle.ua_conn.specs.server.Held.{Held}
use Rattle.ua_conn.specs.server.Taking.{Running}
use Rattle.ua_conn.specs.server.Feeding.{Hears, HearsPart}
use Rattle.ua_conn.specs.server.FeedingLaws.{left_at}
use Rattle.ua_conn.proofs.ServerEnd.PieceLemmas.{feeds, feeds_part}
use Rattle.ua_conn.proofs.server.Server.feed.Goals as goal

is_none_by : {A : Type 0} (o : Option A) → is_some o ≡ false → o ≡ None
is_none_by None h = refl
is_none_by (Some x) h = absurd (cc)

is_some_by : {A B : Type 0} (o : Option A) → is_some o ≡ true → o ≡ None → B
is_some_by None h e = absurd (cc)
is_some_by (Some x) h e = absurd (cc)

not_both : {A B : Type 0} (o : Option A) (x : A) → o ≡ None → o ≡ Some x → B
not_both o x p q = absurd (cc)

pub returns-in_err-end-clause-part : goal.returns-in_err-end-clause-part
returns-in_err-end-clause-part c =
    let r : Running = c.self.inside.connection in
    let h : Held = record { known = r.known; next = r.next; moment = c.self.inside.moment; rest = c.self.inside.buffer.bytes } in
    let x : Piece = record { moment = moment_of c.args.now; bytes = c.args.piece.now } in
    let now : c.later-now.result ≡ max h.moment x.moment = c.later-now.ensures.moment ∙ ap (λ z. max h.moment (moment_of z)) (to_z-of_z w64 c.args.now c.ranges.now) in
    let P : ℕ → Type 0 = λ t. HearsPart r t (h.rest ++ x.bytes) c.args.out.now.items c.take_frames-heard.new.out.items in
    let heard = subst P now c.in_err-end.ensures.part in
    λ _. (rw (← c.self.view_is) (feeds_part r.site h x r.moment c.args.out.now.items c.take_frames-heard.new.out.items heard))

pub returns-then-is_some-clause-fed : goal.returns-then-is_some-clause-fed
returns-then-is_some-clause-fed c =
    let r : Running = c.self.inside.connection in
    let h : Held = record { known = r.known; next = r.next; moment = c.self.inside.moment; rest = c.self.inside.buffer.bytes } in
    let x : Piece = record { moment = moment_of c.args.now; bytes = c.args.piece.now } in
    let new = c.take_frames-heard.new in
    let now : c.later-now.result ≡ max h.moment x.moment = c.later-now.ensures.moment ∙ ap (λ z. max h.moment (moment_of z)) (to_z-of_z w64 c.args.now c.ranges.now) in
    let P : ℕ → List Request → Type 0 = λ t q. Hears r new.connection t (h.rest ++ x.bytes) (record { bytes = c.args.out.now.items; asked = q }) (record { bytes = new.out.items; asked = new.asked.items }) new.buffer.bytes c.in_ok-end.end in
    let heard = subst (P (max h.moment x.moment)) c.new-requests.ensures.items (subst (λ t. P t c.new-requests.result.items) now c.in_ok-end.ensures.heard) in
    let came : is_some c.in_ok-end.end ≡ true = sym c.is_some.ensures ∙ c.if-is_some.true in
    rw (← c.self.view_is) (feeds r.site h x r.moment new.connection c.args.out.now.items new.out.items new.asked.items new.buffer.bytes c.in_ok-end.end _ heard
    (λ n. is_some_by c.in_ok-end.end came n) (λ e _. refl))

pub returns-clause-fed : goal.returns-clause-fed
returns-clause-fed c =
    let r : Running = c.self.inside.connection in
    let h : Held = record { known = r.known; next = r.next; moment = c.self.inside.moment; rest = c.self.inside.buffer.bytes } in
    let x : Piece = record { moment = moment_of c.args.now; bytes = c.args.piece.now } in
    let new = c.take_frames-heard.new in
    let now : c.later-now.result ≡ max h.moment x.moment = c.later-now.ensures.moment ∙ ap (λ z. max h.moment (moment_of z)) (to_z-of_z w64 c.args.now c.ranges.now) in
    let none : c.in_ok-end.end ≡ None = is_none_by c.in_ok-end.end (sym c.is_some.ensures ∙ c.if-is_some.false) in
    let P : ℕ → List Request → Type 0 = λ t q. Hears r new.connection t (h.rest ++ x.bytes) (record { bytes = c.args.out.now.items; asked = q }) (record { bytes = new.out.items; asked = new.asked.items }) new.buffer.bytes c.in_ok-end.end in
    let heard = subst (P (max h.moment x.moment)) c.new-requests.ensures.items (subst (λ t. P t c.new-requests.result.items) now c.in_ok-end.ensures.heard) in
    rw (← c.self.view_is) (feeds r.site h x r.moment new.connection c.args.out.now.items new.out.items new.asked.items new.buffer.bytes c.in_ok-end.end _ heard
    (λ _ i. record { site = new.connection.site; held = record { known = new.connection.known; next = new.connection.next; moment = now i; rest = new.buffer.bytes }; failed = false })
    (λ e y. not_both c.in_ok-end.end e none y))

pub returns-then-is_some-clause-rest : goal.returns-then-is_some-clause-rest
returns-then-is_some-clause-rest c = λ none. is_some_by c.in_ok-end.end (sym c.is_some.ensures ∙ c.if-is_some.true) none

pub returns-clause-rest : goal.returns-clause-rest
returns-clause-rest c =
    rw (← c.self.view_is) (λ none. c.in_ok-end.ensures.heard.rest none ∙ left_at c.later-now.result (c.self.inside.buffer.bytes ++ c.args.piece.now))
