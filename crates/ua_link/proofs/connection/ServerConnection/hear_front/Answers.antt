use Rattle.std.proofs.Common.{arith, rules, w64, ◌≡◌, ◌/◌, ◌<◌, ◌≤◌, ◌∙◌, refl, sym, ap, subst, true, drop, length, min, None, nat_lt, if◌then◌else◌, length-append}
use Rattle.std.proofs.lemmas.Int.{to_z-of_z}
use mir.Val.{SFits}
use Rattle.ua_link.specs.Fronts.{wanted}
use Rattle.ua_link.specs.Connections.{Shown, is_heard}
use Rattle.ua_link.proofs.HearLemmas.{heard_open, heard_some, heard_bound, took_all, front_heard, front_cut, some_wanted}
use Rattle.ua_link.proofs.connection.ServerConnection.hear_front.Goals as goal

pub returns-clause-hears : goal.returns-clause-hears
returns-clause-hears c = rw (← c.self.view_is) (
    let inside = c.self.inside in
    let fits : SFits w64 inside.came = search rules in
    let fed = simp to_z-of_z at c.in-Ok.ensures.fed in
    let old : Shown = record { server = inside.server; waiting = inside.waiting; came = inside.came; owed = drop inside.out inside.said.items; ending = inside.ending; left = inside.left; begun = inside.begun; latest = inside.latest; active = inside.active; frame = inside.frame } in
    let heard : is_heard old ≡ true = subst (λ (v : Shown). is_heard v ≡ true) (sym c.self.view_is) c.requires.heard in
    let piece = c.front-piece.result.now in
    let none = heard_open old heard in
    let front = c.self.invariant.5 none in
    let cut = front_cut inside.waiting piece c.drop_front.new.self c.min-n.result c.wanted.result c.len.result c.front-piece.ensures c.drop_front.ensures c.min-n.ensures c.len.ensures.number in
    let most : length piece ≤ wanted inside.front.got inside.front.missing = omega (arith, cut.1, c.wanted.ensures) in
    let some : 0 < length piece = cut.2 (omega (arith, c.wanted.ensures, some_wanted inside.front.got inside.front.missing)) (omega (arith, c.len.ensures.number, heard_some old heard)) in
    let ends = c.ending_with-self-inside.ensures c.drop_front.new.self c.len-3.ensures.number in
    let least = c.min-self-inside.ensures ∙ ap (λ k. min inside.out (k / 2)) (c.len-2.ensures ∙ c.feed-fed.new.out.ok.0) in
    let all = took_all old _ piece inside.front.header inside.front.got inside.front.missing inside.out c.min-self-inside.result inside.said.items c.feed-fed.new.out.items _ c.in-Ok.fed.end c.feed-fed.new.self
    fed front most some cut.0 (heard_bound old heard) refl c.self.invariant.0 least refl refl ends in
    front_heard old _ piece inside.front.header inside.front.got inside.front.missing c.in-Ok.fed.end none front most cut.0 ends c.in-Ok.ensures.rest (subst (λ (v : Shown). v.ending ≡ None → c.frame_begun-frame.result ≡ (if nat_lt 0 (length v.server.held.rest) then v.frame else v.latest)) (sym c.self.view_is) c.frame_begun-frame.ensures.begun none) all refl refl refl refl refl)

pub returns-clause-less : goal.returns-clause-less
returns-clause-less c = rw (← c.self.view_is) (
    let inside = c.self.inside in
    let old : Shown = record { server = inside.server; waiting = inside.waiting; came = inside.came; owed = drop inside.out inside.said.items; ending = inside.ending; left = inside.left; begun = inside.begun; latest = inside.latest; active = inside.active; frame = inside.frame } in
    let heard : is_heard old ≡ true = subst (λ (v : Shown). is_heard v ≡ true) (sym c.self.view_is) c.requires.heard in
    let piece = c.front-piece.result.now in
    let cut = front_cut inside.waiting piece c.drop_front.new.self c.min-n.result c.wanted.result c.len.result c.front-piece.ensures c.drop_front.ensures c.min-n.ensures c.len.ensures.number in
    let some : 0 < length piece = cut.2 (omega (arith, c.wanted.ensures, some_wanted inside.front.got inside.front.missing)) (omega (arith, c.len.ensures.number, heard_some old heard)) in
    omega (arith, ap length cut.0, length-append piece c.drop_front.new.self, some))
