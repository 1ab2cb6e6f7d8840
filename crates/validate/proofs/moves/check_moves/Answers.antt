use Rattle.std.proofs.Common.{Some, ◌∙◌, ap, arith}
use Rattle.job.specs.declared.task.Task.{Task}
use Rattle.domain.specs.Domain.{domain_at}
use Rattle.compiled.proofs.ReadyLaws.{ready_listed}
use Rattle.validate.proofs.MoveLaws.{closed_in, checking_start, checking_none, checking_stuck, checking_more, checking_end}
use Rattle.validate.proofs.moves.check_moves.Goals as goal

pub of-index-requires : goal.of-index-requires
of-index-requires c = ready_listed c.args.job.now.ready

pub loop-i-init : goal.loop-i-init
loop-i-init c =
    let at = c.at-world.ensures in (
      checking_start _ _ c.at-world.result at.0 (at.1 ∙ c.start.ensures.start) c.closed-set.result c.start-2.result c.start-2.ensures
          (rw c.of-index.ensures at (closed_in c.at-world.result _ _ c.closed-set.ensures)),
      omega (arith, at.1, c.start.ensures.inside, ap (λ (t : Task). (domain_at t).states) at.0),
    )

pub returns-in_default : goal.returns-in_default
returns-in_default c = checking_none _ _ c.loop-i.invariant.0 c.loop-i-test.true c.in_default.ensures.after

pub returns-then-set-eq0 : goal.returns-then-set-eq0
returns-then-set-eq0 c =
    let next = c.at-world-in-loop-i.result in
    let at = c.at-world-in-loop-i.ensures in
    let list = c.of-index.ensures in
    checking_stuck _ _ c.loop-i.invariant.0 c.loop-i-test.true next (ap Some at.1 ∙ c.in-Some.ensures.after) at.0 c.advanced.result c.closed-set-in-loop-i.result
    (rw list at c.advanced.ensures) (rw list at (closed_in next _ _ c.closed-set-in-loop-i.ensures)) c.if-set-eq0.true

pub loop-i-preserved : goal.loop-i-preserved
loop-i-preserved c =
    let next = c.at-world-in-loop-i.result in
    let at = c.at-world-in-loop-i.ensures in
    let list = c.of-index.ensures in
    let cost = c.cost-cost.ensures in (
      checking_more _ _ c.loop-i.invariant.0 c.loop-i-test.true next (ap Some at.1 ∙ c.in-Some.ensures.after) at.0 c.advanced.result c.closed-set-in-loop-i.result
          (rw list at c.advanced.ensures) (rw list at (closed_in next _ _ c.closed-set-in-loop-i.ensures)) c.if-set-eq0.false cost.0 cost.1,
      omega (arith, at.1, c.in-Some.ensures.within, ap (λ (t : Task). (domain_at t).states) at.0, ap (λ (t : Task). (domain_at t).states) c.loop-i.invariant.0.here),
    )

pub returns : goal.returns
returns c = c.finish.ensures ∙ checking_end _ _ c.loop-i.invariant.0 c.loop-i-test.false c.has.ensures c.goal_holds.ensures

pub successor-requires : goal.successor-requires
successor-requires c =
    (omega (arith, c.requires.below _ c.loop-i-test.true, ap (λ (t : Task). (domain_at t).moves) c.loop-i.invariant.0.here), c.loop-i.invariant.1)
