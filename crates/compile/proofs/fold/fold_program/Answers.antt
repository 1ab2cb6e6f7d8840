use Rattle.std.proofs.Common.{arith}
use Rattle.job.proofs.StoredLaws.{some_row}
use Rattle.compile.proofs.FoldLaws.{refers_within, folded_none, folded_more, folded_last}
use Rattle.compile.proofs.fold.fold_program.Goals as goal

pub loop-i-init : goal.loop-i-init
loop-i-init g c = folded_none _ _ _

pub row_value-requires : goal.row_value-requires
row_value-requires g c = refers_within (omega arith) c.construct_at-construct.result c.construct_at-construct.ensures.refers

pub loop-i-preserved : goal.loop-i-preserved
loop-i-preserved g c = folded_more _ _ c.loop-i.invariant c.construct_at-construct.ensures c.row_value.ensures (omega arith)

pub overflow_sub-result : goal.overflow_sub-result
overflow_sub-result g c = omega (arith, some_row c.args.task.now.stored)

pub bounds-values-rows : goal.bounds-values-rows
bounds-values-rows g c = omega (arith, some_row c.args.task.now.stored)

pub returns : goal.returns
returns g c =
    let some = some_row c.args.task.now.stored in
    folded_last _ c.args.task.now.head c.args.task.now.rows.now c.index-values-rows.result c.loop-i.invariant (omega arith) (omega arith)
    (omega arith) c.index-values-rows.is
