use Rattle.std.proofs.Common.{◌∙◌, arith, ap}
use Rattle.limits.specs.Limits.{most_formulas}
use Rattle.job.specs.Store.{formula_in}
use Rattle.job.specs.StoredTask.{stored_job}
use Rattle.job.proofs.StoredLaws.{limited, formula_count}
use Rattle.domain.specs.State.{values}
use Rattle.domain.specs.Meaning.{told}
use Rattle.domain.specs.Domain.{holds_in}
use Rattle.domain.proofs.MeaningLaws.{told_meaning}
use Rattle.domain.proofs.ValueLaws.{none_same, values_more, all_same}
use Rattle.domain.proofs.formulas.formula_values.Goals as goal

pub loop-k-init : goal.loop-k-init
unfolding values
loop-k-init c = none_same most_formulas

pub loop-k-preserved : goal.loop-k-preserved
loop-k-preserved c =
    let t = c.args.task.now in
    let l = c.loop-k in
    let n = formula_count t.head t.rows.now in
    let m = (limited t.stored).formulas in
    let f = formula_in c.formula_at-formula.result in
    let v = c.value.ensures ∙ ap (told c.args.state l.values) c.from.ensures ∙ told_meaning c.args.state l.values f in
    values_more c.args.state (stored_job t).formulas l.k l.values c.value.result f (omega arith) (omega arith) l.invariant v c.formula_at-formula.ensures

pub returns : goal.returns
unfolding holds_in
returns c =
    let t = c.args.task.now in
    let n = formula_count t.head t.rows.now in
    all_same c.args.state (stored_job t).formulas c.loop-k.k c.loop-k.values (omega arith) c.loop-k.invariant
