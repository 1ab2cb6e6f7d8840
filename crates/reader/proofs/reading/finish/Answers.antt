use Rattle.std.proofs.Common.{rules}
use Rattle.job.specs.ReadJob.{ended}
use Rattle.reader.proofs.reading.finish.Goals as goal

pub returns-in_default : goal.returns-in_default
unfolding ended
returns-in_default c = λ l. search rules

pub returns : goal.returns
unfolding ended
returns c = λ l. search rules
