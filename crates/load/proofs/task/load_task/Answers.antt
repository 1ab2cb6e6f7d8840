use mathlib.Core.Path.{◌≡◌, ◌∙◌, ap, sym}
use lib.ListN.{length}
use Rattle.std.proofs.Common.{rules}
use Rattle.std.proofs.lemmas.Result.{err_from_is_err_and}
use Rattle.limits.specs.Limits.{class_count}
use Rattle.load.specs.Refusals.{passed}
use Rattle.load.proofs.TaskLaws.{task_of_lem, priced_stored, priced_sized, priced_task}
use Rattle.load.proofs.task.load_task.Goals as goal

pub returns-in_err-measured : goal.returns-in_err-measured
returns-in_err-measured c =
    let p = err_from_is_err_and c.from_residual.result c.from_residual.ensures.1 in
    rw (p.1, p.2) (task_of_lem c.args.given c.args.text.now c.args.costs.now c.in_err-measured.ensures.value)

pub returns-in_err-costs : goal.returns-in_err-costs
returns-in_err-costs c =
    let p = err_from_is_err_and c.from_residual-in_err-costs.result c.from_residual-in_err-costs.ensures.1 in
    rw (p.1, p.2)
    (c.in_err-costs.ensures.value _ ∙ task_of_lem c.args.given c.args.text.now c.args.costs.now c.in_ok-measured.ensures.value)

pub invariant_of-task : goal.invariant_of-task
invariant_of-task c =
    let sixteen : length c.in_ok-costs.costs ≡ class_count = search rules in
    record { stored = priced_stored c.in_ok-costs.costs c.in_ok-measured.ensures.stored c.in_ok-costs.ensures.within sixteen c.put_costs.ensures }

pub invariant_of-result : goal.invariant_of-result
invariant_of-result c =
    let sixteen : length c.in_ok-costs.costs ≡ class_count = search rules in
    record {
      sized = priced_sized c.in_ok-costs.costs c.in_ok-measured.ensures.stored c.in_ok-costs.ensures.within sixteen c.put_costs.ensures c.in_ok-measured.ensures.sized;
      counted = c.state_count.ensures;
    }

pub returns : goal.returns
returns c =
    let sixteen : length c.in_ok-costs.costs ≡ class_count = search rules in
    ap passed (sym (priced_task c.in_ok-costs.costs c.in_ok-measured.ensures.stored c.in_ok-costs.ensures.within sixteen c.put_costs.ensures))
    ∙ c.in_ok-costs.ensures.value _ ∙ task_of_lem c.args.given c.args.text.now c.args.costs.now c.in_ok-measured.ensures.value
