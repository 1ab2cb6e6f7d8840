use Rattle.std.proofs.Common.{arith, ap}
use Rattle.job.specs.declared.task.Task.{Task}
use Rattle.domain.specs.Domain.{domain_at}
use Rattle.compiled.proofs.ExploredLaws.{keeps_none}
use Rattle.compiled.proofs.explored.Explored.at.Goals as goal

pub invariant_of-result : goal.invariant_of-result
invariant_of-result c = record {
  inside = omega (arith, c.requires, c.at.ensures.1, ap (λ (t : Task). (domain_at t).states) c.at.ensures.0);
  keeps = keeps_none _ _;
}
