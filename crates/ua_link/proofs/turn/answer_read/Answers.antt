use Rattle.std.proofs.Common.{◌≡◌, w64, refl, sym, ap, ◌∙◌, inl, inr, length}
use Rattle.std.proofs.lemmas.Int.{to_z-of_z}
use mir.Val.{SFits}
use Rattle.ua_link.proofs.TurnLemmas.{ending_so, heard}
use Rattle.ua_link.proofs.turn.answer_read.Goals as goal

pub returns-in_default-clause-heard : goal.returns-in_default-clause-heard
returns-in_default-clause-heard g c = λ ps h e. inr (record {
  ending = c.ended.ensures.ending;
  written = c.ended.ensures.written;
  hands = c.ended.ensures.requests;
  output = refl;
  counted = refl;
  failed = c.in_default.ensures.failed;
})

pub returns-in-Ok-send_all-clause-heard : goal.returns-in-Ok-send_all-clause-heard
returns-in-Ok-send_all-clause-heard g c = λ ps h e.
    let site = c.args.server.now.site in
    let now = c.args.now in
    let bytes = c.args.bytes.now in
    let fits : SFits w64 now = c.ranges.now in
    let fed = (simp to_z-of_z at c.in-Ok.ensures.fed) ps h e in
    let ending = c.ending_after-end.ensures ∙ ending_so site ps now bytes _ _ _ _ _ fed in
    let len : c.len.result ≡ length c.feed.new.out.items = c.len.ensures ∙ sym c.deref.ensures.len ∙ ap length c.deref.ensures.value in
    inl (heard site ps now bytes _ _ _ _ _ _ _ _ fed c.new-said.ensures.items refl (rw (len, ← c.deref.ensures.value) c.in-Ok-send_all.ensures.sent) (inl (record {
      written = len;
      ending = ending;
      counted = c.in-Ok-send_all.ensures.counted;
    })))
