use Rattle.validate.proofs.MarkLaws.{none_counted}
use Rattle.validate.proofs.position_set.PositionSet.empty.Goals as goal

pub invariant_of-result : goal.invariant_of-result
invariant_of-result c = record { counted = none_counted }
