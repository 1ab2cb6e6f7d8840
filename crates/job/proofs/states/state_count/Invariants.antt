use Rattle.std.proofs.Common.{◌≡◌}
use Rattle.job.specs.StateCount.{state_count}
use Rattle.job.proofs.states.state_count.Given as goal

abbrev pub invariant-loop : goal.invariant-loop
invariant-loop l = l.count ≡ state_count l.counter
