use Rattle.job.proofs.CostLaws.{house_within}
use Rattle.load.proofs.TaskLaws.{costs_within}
use Rattle.load.proofs.task.class_costs.Goals as goal

pub returns-then-not-given-clause-within : goal.returns-then-not-given-clause-within
returns-then-not-given-clause-within c = house_within

pub returns-clause-within : goal.returns-clause-within
returns-clause-within c = costs_within c.args.text.now c.read_costs.result c.map_err.result _ c.read_costs.ensures c.map_err.ensures.cases
