use mathlib.Core.Path.{◌∙◌}
use Rattle.std.proofs.lemmas.Result.{err_from_is_err_and}
use Rattle.job.specs.StoredTask.{stored_task}
use Rattle.load.specs.Refusals.{Handed}
use Rattle.load.proofs.LoadingLaws.{texts_of, chain, list_short, table_short, all_long, cells_few, cells_enough}
use Rattle.load.proofs.loading.load.Goals as goal

pub returns-in_err-job : goal.returns-in_err-job
returns-in_err-job c =
    let h : Handed = record { request = c.args.request; job = c.args.text.now; plan = c.args.plan.now; costs = c.args.costs.now } in
    let p = err_from_is_err_and c.from_residual.result c.from_residual.ensures.1 in
    record { is = rw (p.1, p.2) (chain h (texts_of h c.in_err-job.ensures)) }

pub returns-in_err-load_plan : goal.returns-in_err-load_plan
returns-in_err-load_plan c =
    let h : Handed = record { request = c.args.request; job = c.args.text.now; plan = c.args.plan.now; costs = c.args.costs.now } in
    let p = err_from_is_err_and c.from_residual-in_err-load_plan.result c.from_residual-in_err-load_plan.ensures.1 in
    record { is = rw (p.1, p.2) (chain h (c.in_err-load_plan.ensures ∙ texts_of h c.in_ok-job.ensures)) }

pub returns-then-request-places : goal.returns-then-request-places
returns-then-request-places c =
    let h : Handed = record { request = c.args.request; job = c.args.text.now; plan = c.args.plan.now; costs = c.args.costs.now } in
    let texts = c.in_ok-load_plan.ensures ∙ texts_of h c.in_ok-job.ensures in
    let need = c.list_need-places.ensures in
    record { is = rw (c.too_short.ensures, need) (list_short h texts (rw need at c.if-request-places.true)) }

pub returns-then-cells-need : goal.returns-then-cells-need
returns-then-cells-need c =
    let h : Handed = record { request = c.args.request; job = c.args.text.now; plan = c.args.plan.now; costs = c.args.costs.now } in
    let texts = c.in_ok-load_plan.ensures ∙ texts_of h c.in_ok-job.ensures in
    let few = cells_few c.args.request (stored_task c.in_ok-job.job.task) c.table_need-need.ensures c.unwrap_or-cells.ensures c.if-cells-need.true in
    record {
      is = rw (c.too_short-then-cells-need.ensures, few.0)
          (table_short h texts (rw c.list_need-places.ensures at c.if-request-places.false) few.1);
    }

pub returns : goal.returns
returns c =
    let h : Handed = record { request = c.args.request; job = c.args.text.now; plan = c.args.plan.now; costs = c.args.costs.now } in
    let texts = c.in_ok-load_plan.ensures ∙ texts_of h c.in_ok-job.ensures in
    let enough = cells_enough c.args.request (stored_task c.in_ok-job.job.task) c.table_need-need.ensures c.unwrap_or-cells.ensures c.if-cells-need.false in
    record { is = rw c.as_slice.ensures.value (all_long h texts (rw c.list_need-places.ensures at c.if-request-places.false) enough) }
