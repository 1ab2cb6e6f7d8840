use Rattle.std.proofs.Common.{rules}
use Rattle.job.specs.Store.{rows_from}
use Rattle.reader.proofs.reading.start.Goals as goal

pub returns : goal.returns
unfolding rows_from
returns c = λ l. search rules
