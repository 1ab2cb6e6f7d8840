use Rattle.std.proofs.Common.{take}
use Rattle.job.specs.StoredTask.{stored_job}
use Rattle.domain.specs.State.{values}
use Rattle.domain.proofs.ValueLaws.{Same}
use Rattle.domain.proofs.formulas.formula_values.Given as goal

abbrev pub invariant-loop-k : goal.invariant-loop-k
invariant-loop-k l = Same l.values (values l.state (take l.k (stored_job l.task).formulas))
