use Rattle.std.proofs.Common.{◌<◌}
use Rattle.domain.specs.Domain.{domain_at}
use Rattle.validate.proofs.MoveLaws.{Checking}
use Rattle.validate.proofs.moves.check_moves.Given as goal

abbrev pub invariant-loop-i : goal.invariant-loop-i
invariant-loop-i l = Checking l.job l.plan l.world l.set l.cost l.i × (l.world.state < (domain_at l.world.task).states)
