use Rattle.semantics.specs.PositionSets.{is_move}
use Rattle.validate.proofs.SetLaws.{Advancing}
use Rattle.validate.proofs.position_set.PositionSet.advanced.Given as goal

abbrev pub invariant-loop-p : goal.invariant-loop-p
invariant-loop-p l = Advancing (is_move l.m) l.index.list.now l.fn.self l.next l.p-index
