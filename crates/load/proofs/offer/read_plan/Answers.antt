use Rattle.text.specs.Bytes.{bytes}
use Rattle.load.proofs.offer.read_plan.Goals as goal

pub returns-in-Moves : goal.returns-in-Moves
unfolding bytes
returns-in-Moves c =
    rw (c.in-Moves.is, ← c.move_count-moves.ensures) c.read_plan.ensures.is

pub returns-in-Steps : goal.returns-in-Steps
unfolding bytes
returns-in-Steps c =
    rw (c.in-Steps.is, ← c.args.job.now.sized.steps) c.read_plan-in-Steps.ensures.is
