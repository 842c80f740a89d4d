use Rattle.std.proofs.Common.{subst, OnOk, ◌≡◌, ◌++◌, string_bytes, List, ℕ}
use Rattle.ua_print.proofs.FrameLines.{close_row}
use Rattle.ua_print.proofs.frame_line.add_close_frame.Goals as goal

pub returns : goal.returns
returns c =
    let line = close_row c.args.chunk.now c.args.offset c.args.size _ _ _ c.put_chunk-at.ensures.written c.put_number-at.ensures.written c.put_number-at-2.ensures.written in
    subst (λ (l : List ℕ). OnOk c.add_row.result (string_bytes c.add_row.new.text ≡ string_bytes c.args.text.now ++ l)) line c.add_row.ensures
