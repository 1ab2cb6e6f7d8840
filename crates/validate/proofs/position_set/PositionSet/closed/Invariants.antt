use Rattle.std.proofs.Common.{◌-◌}
use Rattle.limits.specs.Limits.{most_positions}
use Rattle.compiled.specs.Steps.{silent_by}
use Rattle.validate.proofs.SetLaws.{Closing}
use Rattle.validate.proofs.position_set.PositionSet.closed.Given as goal

abbrev pub invariant-loop-at : goal.invariant-loop-at
invariant-loop-at l = Closing (silent_by l.values) l.index.list.now l.initial.set l.set l.at

abbrev pub decreases-loop-at : goal.decreases-loop-at
decreases-loop-at l = most_positions - l.at
