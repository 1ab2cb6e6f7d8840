use Rattle.std.proofs.Common.{suc, ◌+◌, ◌-◌, ◌*◌}
use Rattle.limits.specs.Limits.{most_positions}
use Rattle.semantics.specs.Cells.{sum}
use Rattle.search.proofs.SweepLaws.{SweepGoes}
use Rattle.search.proofs.sweep.sweep_state.Given as goal

abbrev pub invariant-loop-p : goal.invariant-loop-p
invariant-loop-p l = SweepGoes l.initial.table l.initial.sweep l.table l.sweep l.p

abbrev pub decreases-loop-p : goal.decreases-loop-p
decreases-loop-p l =
    sum l.table.costs.now * suc most_positions + (l.positions - l.p)
