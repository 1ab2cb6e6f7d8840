use Rattle.std.proofs.Common.{arith, sym}
use lib.Pow.{pow-add, pow-lt}
use Rattle.limits.specs.Limits.{most_facts}
use Rattle.job.proofs.states.state_count.Goals as goal

pub overflow_mul-count : goal.overflow_mul-count
overflow_mul-count c = record { fits = omega (arith, pow-lt {i = c.loop.counter} {j = most_facts} (omega arith)) }

pub loop-preserved : goal.loop-preserved
loop-preserved c = rw c.loop.invariant (sym (pow-add 2 c.loop.counter 1))
