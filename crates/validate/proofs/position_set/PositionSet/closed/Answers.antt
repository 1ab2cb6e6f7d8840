use Rattle.std.proofs.Common.{rules}
use Rattle.validate.proofs.MarkLaws.{member_inside}
use Rattle.validate.proofs.SetLaws.{closing_start, closing_more, closing_end}
use Rattle.validate.proofs.position_set.PositionSet.closed.Goals as goal

pub loop-at-init : goal.loop-at-init
loop-at-init c = closing_start _ _ _

pub follow-requires-clause-inside : goal.follow-requires-clause-inside
follow-requires-clause-inside c = member_inside c.loop-at.set.counted _ c.loop-at-test.true

pub loop-at-preserved : goal.loop-at-preserved
loop-at-preserved c = closing_more _ _ _ c.args.index.now.indexed.listed c.loop-at.invariant c.loop-at-test.true (c.follow.ensures _ (search rules))

pub returns : goal.returns
returns c = closing_end _ _ _ c.loop-at.invariant c.loop-at-test.false
