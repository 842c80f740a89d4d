use Rattle.std.proofs.Common.{arith, ◌≡◌, ℕ, ◌+◌, ◌-◌, ◌≤◌, List, Option, ap, ◌∙◌, length, take, drop, take-add, take_all, length-drop, sym, subst}
use Rattle.std.proofs.KnownBytes.{Appends-trans}
use Rattle.std.specs.Io.KnownBytes.{Appends}
use Rattle.ua_link.proofs.sending.send_all.Goals as goal

unsent : (bytes : List ℕ) (s : ℕ) → take (length bytes - s) (drop s bytes) ≡ drop s bytes
unsent bytes s = take_all (length bytes - s) (drop s bytes) (omega (arith, length-drop s bytes))

within_all : (bytes : List ℕ) (s n : ℕ) → s ≤ length bytes → n ≤ length (take (length bytes - s) (drop s bytes)) → s + n ≤ length bytes
within_all bytes s n l h = omega (arith, ap length (unsent bytes s), length-drop s bytes)

more_sent : (a b c : Option (List ℕ)) (bytes : List ℕ) (s n : ℕ) → Appends a b (take s bytes) → Appends b c (take n (take (length bytes - s) (drop s bytes))) → Appends a c (take (s + n) bytes)
more_sent a b c bytes s n p q =
    subst (Appends a c) (sym (take-add s n bytes)) (Appends-trans a b c _ _ p (subst (λ l. Appends b c (take n l)) (unsent bytes s) q))

pub sends-preserved : goal.sends-preserved
sends-preserved g c =
    let output = g.L.Link.output in
    let bytes = c.args.bytes.now in
    record {
      within = within_all bytes c.sends.sent c.in-Ok.n c.sends.invariant.within c.in-Ok.ensures.bound;
      sent = more_sent (output c.args.link.now) (output c.sends.link) (output c.send.new.self) bytes c.sends.sent c.in-Ok.n c.sends.invariant.sent c.in-Ok.ensures.bytes;
      kept = c.send.ensures.kept ∙ c.sends.invariant.kept;
      counted = c.in-Ok.ensures.counted ∙ c.sends.invariant.counted;
    }
