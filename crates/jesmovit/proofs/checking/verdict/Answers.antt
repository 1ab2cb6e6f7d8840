use Rattle.jesmovit.proofs.SaysLaws.{says_moves, says_steps}
use Rattle.jesmovit.proofs.checking.verdict.Goals as goal

pub returns-in-Moves : goal.returns-in-Moves
returns-in-Moves c = let j = c.args.job.now in says_moves j.task.head j.task.rows.now c.args.plan.now c.in-Moves.is j.ready c.check_moves.ensures

pub returns-in-Steps : goal.returns-in-Steps
returns-in-Steps c = let j = c.args.job.now in says_steps j.task.head j.task.rows.now c.args.plan.now c.in-Steps.is c.check_steps.ensures
