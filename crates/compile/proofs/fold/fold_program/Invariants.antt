use Rattle.job.specs.StoredTask.{stored_job}
use Rattle.compile.proofs.FoldLaws.{Folded}
use Rattle.compile.proofs.fold.fold_program.Given as goal

abbrev pub invariant-loop-i : goal.invariant-loop-i
invariant-loop-i g l = Folded (g.S.Shapes.algebra l.shapes) (stored_job l.task).program l.i l.values
