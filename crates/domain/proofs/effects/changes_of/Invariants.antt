use Rattle.std.proofs.Common.{take, drop}
use Rattle.job.specs.StoredTask.{stored_job}
use Rattle.domain.specs.Effects.{ChangesAre}
use Rattle.domain.proofs.effects.changes_of.Given as goal

abbrev pub invariant-loop-k : goal.invariant-loop-k
invariant-loop-k l =
    ChangesAre l.task.head.counts.facts l.values (take l.k (drop l.made.first (stored_job l.task).effects)) l.cleared l.set
