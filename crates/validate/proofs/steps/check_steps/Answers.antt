use Rattle.std.proofs.Common.{◌∙◌, arith}
use Rattle.domain.proofs.DomainLaws.{stored_bounded}
use Rattle.compiled.proofs.ReadyLaws.{last_final}
use Rattle.validate.proofs.StepLaws.{stepping_start, stepping_blocked, stepping_more, stepping_end}
use Rattle.validate.proofs.steps.check_steps.Goals as goal

pub loop-i-init : goal.loop-i-init
loop-i-init c = stepping_start (stored_bounded c.args.job.now.task.stored) c.start-state.ensures.start

pub make_step-requires : goal.make_step-requires
make_step-requires c = record {
  i_in_bounds = omega (arith, c.requires.below _ c.loop-i-test.true, c.args.job.now.ready.whole);
  state_in_bounds = c.loop-i.invariant.state;
}

pub returns-in_default : goal.returns-in_default
returns-in_default c =
    stepping_blocked c.loop-i.invariant c.loop-i-test.true (rw c.args.job.now.ready.steps at c.in_default.ensures)

pub overflow_add-cost : goal.overflow_add-cost
overflow_add-cost c =
    let made = rw c.args.job.now.ready.steps at c.in-Some.ensures in
    let more = stepping_more c.loop-i.invariant c.loop-i-test.true (stored_bounded c.args.job.now.task.stored) made in
    record { fits = omega (arith, more.cost, c.loop-i-test.true, c.requires.few) }

pub loop-i-preserved : goal.loop-i-preserved
loop-i-preserved c =
    let made = rw c.args.job.now.ready.steps at c.in-Some.ensures in
    stepping_more c.loop-i.invariant c.loop-i-test.true (stored_bounded c.args.job.now.task.stored) made

pub returns : goal.returns
returns c =
    let end = stepping_end c.loop-i.invariant c.loop-i-test.false in
    let goal_is = rw (c.at-world.ensures.0, c.at-world.ensures.1) at c.goal_holds.ensures in
    c.finish.ensures ∙ rw (goal_is, last_final c.args.job.now.ready) end
