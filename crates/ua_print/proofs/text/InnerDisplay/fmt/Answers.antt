use Rattle.std.proofs.Common.{refl, true}
use Rattle.std.proofs.lemmas.Grind.{put_two}
use Rattle.ua_print.specs.Printed.{escaped}
use Rattle.ua_print.proofs.Texts.{run_within, run_written}
use Rattle.ua_print.proofs.text.InnerDisplay.fmt.Goals as goal

pub runs-preserved : goal.runs-preserved
runs-preserved g c =
    let bytes = c.args.self.now.0.now in
    let run = c.plain_run-run.result.now in
    record {
      within = run_within bytes run c.runs.start c.runs.invariant.within c.plain_run-run.ensures.within;
      written = λ plain.
          let before = c.runs.invariant.written plain in
          put_two _ _ _ _ _ _ _ before (c.in_ok-write_str.ensures.writes before.plain (refl {a = true})) (run_written escaped bytes run c.runs.start c.plain_run-run.ensures.front c.plain_run-run.ensures.same);
    }
