use Rattle.std.proofs.Common.{◌<◌, arith, rules}
use Rattle.std.proofs.lemmas.List.{length-take, get_or-take}
use Rattle.semantics.specs.PositionSets.{is_move}
use Rattle.validate.proofs.SetLaws.{advancing_start, advancing_more, advancing_end}
use Rattle.validate.proofs.position_set.PositionSet.advanced.Goals as goal

pub loop-p-init : goal.loop-p-init
loop-p-init c = advancing_start _ _ _ c.empty-next.ensures.marks

pub loop-p-preserved : goal.loop-p-preserved
unfolding is_move
loop-p-preserved c =
    let s = c.args.self in
    let h : c.loop-p.p-index < s.count = omega (arith, length-take s.count s.members) in
    advancing_more _ _ _ c.loop-p.invariant h (rw get_or-take at (c.follow.ensures (is_move c.args.m) (search rules)))

pub returns : goal.returns
returns c =
    let s = c.args.self in
    advancing_end _ _ _ c.loop-p.invariant (omega (arith, length-take s.count s.members, s.counted.few, s.counted.room))
