use Rattle.std.proofs.Common.{arith}
use Rattle.domain.proofs.DomainLaws.{states_few}
use Rattle.search.proofs.fill.fill.Goals as goal

pub of-queue-requires-clause-few : goal.of-queue-requires-clause-few
of-queue-requires-clause-few c = omega (arith, c.args.job.now.counted, states_few c.args.job.now.task.stored)
