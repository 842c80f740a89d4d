use Rattle.std.proofs.Common.{arith, ◌≡◌, ◌+◌, ◌-◌, ◌≤◌, ℕ, List, take, drop, length, sym, ap, ◌∙◌}
use Rattle.std.proofs.lemmas.List.{drop-take, drop-drop, length-take}
use Rattle.ua_link.proofs.waiting.Waiting.drop_front.Goals as goal

left_behind : (room : List ℕ) (start end n : ℕ) → n ≤ length (take (end - start) (drop start room)) → take (end - (start + n)) (drop (start + n) room) ≡ drop n (take (end - start) (drop start room))
left_behind room start end n le =
    let m = end - (start + n) in
    let within : n ≤ end - start = omega (arith, le, length-take (end - start) (drop start room)) in
    let all : n + m ≡ end - start = omega (arith, within) in
    ap (take m) (sym (drop-drop n start room)) ∙ sym (drop-take n m (drop start room)) ∙ ap (λ (k : ℕ). drop n (take k (drop start room))) all

pub returns : goal.returns
returns c = rw (← c.self.view_is) (left_behind c.self.inside.room.items c.self.inside.start c.self.inside.end c.args.n (rw (c.self.view_is) c.requires))
