use Rattle.compiled.proofs.ReadyLaws.{ready_listed}
use Rattle.search.proofs.table.Table.of.Goals as goal

pub of-requires : goal.of-requires
of-requires c = ready_listed c.args.job.ready
