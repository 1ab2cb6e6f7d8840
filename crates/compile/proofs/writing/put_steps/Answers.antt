use Rattle.std.proofs.Common.{arith}
use Rattle.semantics.specs.CompilingTable.{flat}
use Rattle.compile.proofs.LaidLaws.{laid_none, list_more}
use Rattle.compile.proofs.writing.put_steps.Goals as goal

pub loop-step-init : goal.loop-step-init
unfolding flat
loop-step-init c = (omega arith, laid_none _ _)

pub loop-step-preserved : goal.loop-step-preserved
unfolding flat
loop-step-preserved c = (omega arith, list_more c.args.steps.now c.loop-step.step-index _ c.loop-step-test.true c.loop-step.invariant.1 c.put_step-next.ensures)
