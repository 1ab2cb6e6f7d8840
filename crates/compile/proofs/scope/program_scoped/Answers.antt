use Rattle.std.proofs.Common.{ℕ, eqb, ap, ◌∙◌, arith}
use Rattle.job.proofs.StoredLaws.{limited}
use Rattle.compile.proofs.PickNeeds.{none_needed}
use Rattle.compile.proofs.scope.program_scoped.Goals as goal

pub fold_program-requires : goal.fold_program-requires
fold_program-requires c = omega (arith, (limited c.args.task.now.stored).program)

pub returns : goal.returns
returns c = ap (λ (k : ℕ). eqb k 0) c.fold_program.ensures ∙ none_needed _
