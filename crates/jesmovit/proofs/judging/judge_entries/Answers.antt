use Rattle.std.proofs.Common.{ℕ, Option, unwrap_or, refl, ap, ◌∙◌}
use Rattle.jesmovit.proofs.SaysLaws.{says_moves}
use Rattle.jesmovit.proofs.JudgeLaws.{judged_other, judged_plan}
use Rattle.jesmovit.proofs.judging.judge_entries.Goals as goal

pub returns-in_default : goal.returns-in_default
returns-in_default c =
    let j = c.args.job.now in
    judged_other _ c.args.table.now c.check_moves-verdict.result
    (says_moves j.task.head j.task.rows.now c.args.plan.now refl j.ready c.check_moves-verdict.ensures) c.in_default.not-Plan

pub returns : goal.returns
returns c =
    let j = c.args.job.now in
    judged_plan _ c.args.table.now c.check_moves-verdict.result
    (says_moves j.task.head j.task.rows.now c.args.plan.now refl j.ready c.check_moves-verdict.ensures)
    c.in-Plan.is j.ready.positions c.least_cost.ensures.filled c.least_cost.ensures.least
    (λ d e. c.unwrap_or-least.ensures ∙ ap (λ (o : Option ℕ). unwrap_or o c.in-Plan.cost) e) c.compare.ensures
