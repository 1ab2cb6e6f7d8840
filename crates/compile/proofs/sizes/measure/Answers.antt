use Rattle.std.proofs.Common.{arith}
use Rattle.job.proofs.StoredLaws.{limited}
use Rattle.compile.proofs.FitLaws.{measured}
use Rattle.compile.proofs.sizes.measure.Goals as goal

pub fold_program-added-requires : goal.fold_program-added-requires
fold_program-added-requires c = omega (arith, (limited c.args.task.now.stored).program)

pub returns : goal.returns
returns c =
    let task = c.args.task.now in
    measured task.head task.rows.now c.requires c.fold_program-added.ensures (rw (c.from.ensures, c.from-2.ensures) at c.capped.ensures)
