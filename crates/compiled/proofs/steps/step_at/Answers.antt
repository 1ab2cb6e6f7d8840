use Rattle.semantics.proofs.FlatLaws.{steps_at}
use Rattle.compiled.proofs.steps.step_at.Goals as goal

pub returns : goal.returns
returns c = rw c.from.ensures (steps_at _ _ _ c.requires)
