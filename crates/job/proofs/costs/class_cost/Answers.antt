use Rattle.job.proofs.CostLaws.{cost_at}
use Rattle.job.proofs.costs.class_cost.Goals as goal

pub returns : goal.returns
returns c = cost_at c.args.rows.now c.args.class c.requires.0
