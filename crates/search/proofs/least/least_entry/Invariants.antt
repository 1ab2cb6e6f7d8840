use Rattle.std.proofs.Common.{◌-◌}
use Rattle.domain.specs.Domain.{domain_at}
use Rattle.search.specs.Filling.{Lowest}
use Rattle.search.proofs.least.least_entry.Given as goal

abbrev pub invariant-loop-state : goal.invariant-loop-state
invariant-loop-state l = Lowest (domain_at l.job.task) l.job.positions l.costs (l.job.positions - 1) l.state l.least
