use Rattle.std.proofs.Common.{◌∙◌}
use Rattle.std.proofs.lemmas.Result.{err_from_is_err_and}
use Rattle.load.proofs.JobLaws.{load_refused, load_stored, load_told}
use Rattle.load.proofs.task.load_job.Goals as goal

pub returns-in_default-clause-value : goal.returns-in_default-clause-value
returns-in_default-clause-value c = load_refused c.args.text.now _ (rw c.unwrap_err.ensures at c.read_job-answer.ensures)

pub invariant_of-measure : goal.invariant_of-measure
invariant_of-measure c = record {
  stored = load_stored c.args.text.now c.read_job-answer.new.rows _ _ (rw c.in-Ok.is at c.read_job-answer.ensures) (c.read_job-answer.auto.rows ∙ c.requires) c.put_house_costs.ensures;
}

pub returns-in_err-sizes-clause-value : goal.returns-in_err-sizes-clause-value
returns-in_err-sizes-clause-value c =
    let p = err_from_is_err_and c.from_residual.result c.from_residual.ensures.1 in
    let told = load_told c.args.text.now c.read_job-answer.new.rows _ _ (rw c.in-Ok.is at c.read_job-answer.ensures) (c.read_job-answer.auto.rows ∙ c.requires) c.put_house_costs.ensures in
    rw (p.1, p.2) (c.in_err-sizes.ensures.value ∙ told)

pub returns-clause-value : goal.returns-clause-value
returns-clause-value c =
    c.in_ok-sizes.ensures.value
    ∙ load_told c.args.text.now c.read_job-answer.new.rows _ _ (rw c.in-Ok.is at c.read_job-answer.ensures) (c.read_job-answer.auto.rows ∙ c.requires) c.put_house_costs.ensures
