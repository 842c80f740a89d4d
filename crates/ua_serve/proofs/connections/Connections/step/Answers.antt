use Rattle.ua_serve.proofs.StepLemmas.{stand, told, numbered}
use Rattle.ua_serve.proofs.connections.Connections.step.Goals as goal

pub returns-clause-stand : goal.returns-clause-stand
returns-clause-stand g c = stand _ _ _ _ _ _ _ _ c.args.self.now c.step_at.new.self c.args.place c.step_at.result c.step_at.ensures.steps

pub returns-clause-told : goal.returns-clause-told
returns-clause-told g c = told _ _ _ _ _ _ _ _ c.args.self.now c.step_at.new.self c.args.place c.step_at.result c.step_at.ensures.steps

pub returns-clause-numbered : goal.returns-clause-numbered
returns-clause-numbered g c = numbered _ _ _ _ _ _ _ _ c.args.self.now c.step_at.new.self c.args.place c.step_at.result c.step_at.ensures.steps
