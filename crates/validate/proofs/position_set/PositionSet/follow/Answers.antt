use Rattle.std.proofs.Common.{sym, ◌∙◌}
use Rattle.compiled.proofs.StepWalk.{step_inside, steps_begin, steps_more, next_inside, steps_fall}
use Rattle.validate.proofs.FollowLaws.{follow_begin, follow_past, follow_more, follow_end}
use Rattle.validate.proofs.position_set.PositionSet.follow.Goals as goal
use Rattle.validate.proofs.position_set.PositionSet.follow.Goals.{then-wanted, else-wanted}

pub loop-next-init : goal.loop-next-init
loop-next-init g c = record {
  at = steps_begin _ c.last_from-next.ensures;
  follows = λ on tests. follow_begin _ _ _ _ c.last_from-next.ensures;
}

pub step-step-requires : goal.step-step-requires
step-step-requires g c = next_inside c.loop-next.invariant.at c.in-Some.is

pub mark-requires : goal.mark-requires
mark-requires g c = (step_inside c.args.index.now.indexed.listed c.step-step.ensures).1

pub before-next-requires : goal.before-next-requires
before-next-requires g c = next_inside c.loop-next.invariant.at c.in-Some.is

pub loop-next-smaller : goal.loop-next-smaller
loop-next-smaller g c = steps_fall c.loop-next.invariant.at c.in-Some.is c.step-step.ensures c.before-next.ensures

pub loop-next-preserved : goal.loop-next-preserved
loop-next-preserved g c =
    let is = c.in-Some.is in
    let before = c.before-next.ensures in
    record {
      at = steps_more c.loop-next.invariant.at is c.step-step.ensures before _ (λ l q x. tt) tt;
      follows = λ on tests. (
          let x = c.loop-next.invariant.follows on tests in
          let takes = tests c.step-step.result c.wanted.result c.wanted.ensures in
          elim c.if-wanted.branch [
            | then-wanted w ↦ rw w.self-is (follow_more _ _ _ _ x is c.step-step.ensures before (sym takes ∙ w.if-wanted.true)
                (step_inside c.args.index.now.indexed.listed c.step-step.ensures).1 w.mark.ensures)
            | else-wanted w ↦ rw w.self-is (follow_past _ _ _ _ x is c.step-step.ensures before (sym takes ∙ w.if-wanted.false))
          ]
          );
    }

pub returns : goal.returns
returns g c = λ on tests. follow_end _ _ _ _ (c.loop-next.invariant.follows on tests) c.in_default.is
