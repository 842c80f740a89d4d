use Rattle.std.proofs.Common.{take}
use Rattle.ua_conn.specs.Between.{Between, run_of}
use Rattle.ua_conn.specs.Story.{Setup, World, run}
use Rattle.ua_conn.proofs.conversation.ends.Ends.run.Given as goal

abbrev pub invariant-steps : goal.invariant-steps
invariant-steps l = (s : Setup) (w : World) → Between s w (run_of l.fn.self) → Between s (run s w (take l.step-index l.schedule)) (run_of l.self)
