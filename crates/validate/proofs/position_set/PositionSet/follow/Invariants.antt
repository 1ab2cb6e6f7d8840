use Rattle.std.proofs.Common.{Bool}
use Rattle.semantics.specs.Label.{Label}
use Rattle.compiled.specs.StepIndex.{link_of}
use Rattle.compiled.proofs.StepWalk.{StepWalk}
use Rattle.validate.specs.Positions.{Tests}
use Rattle.validate.proofs.FollowLaws.{Following}
use Rattle.validate.proofs.position_set.PositionSet.follow.Given as goal

abbrev pub invariant-loop-next : goal.invariant-loop-next
invariant-loop-next g l = record {
  at : StepWalk l.index.list.now l.p (λ _ _. Unit {0}) l.next;
  follows : (on : Label → Bool) → Tests g.F.Fn l.wanted on → Following on l.index.list.now l.p l.initial.self l.self l.next;
}

abbrev pub decreases-loop-next : goal.decreases-loop-next
decreases-loop-next g l = link_of l.next
