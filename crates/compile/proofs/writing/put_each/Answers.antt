use Rattle.std.proofs.Common.{arith}
use Rattle.semantics.specs.CompilingTable.{flat, copies}
use Rattle.compile.proofs.LaidLaws.{laid_none, each_more}
use Rattle.compile.proofs.writing.put_each.Goals as goal

pub loop-k-init : goal.loop-k-init
unfolding flat copies
loop-k-init g c = (omega arith, λ f e. laid_none _ _)

pub loop-k-preserved : goal.loop-k-preserved
unfolding flat
loop-k-preserved g c = (
  omega arith,
  λ f e.
      let k = c.loop-k.k in
      each_more f k c.step.result (e k c.step.result c.loop-k-test.true c.step.ensures) (c.loop-k.invariant.1 f e) c.put_step-next.ensures,
)
