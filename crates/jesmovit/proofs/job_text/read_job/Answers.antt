use Rattle.std.proofs.Common.{sym, ◌∙◌, ap}
use Rattle.job.proofs.StoreLaws.{counts_of_lem}
use Rattle.reader.specs.Reading.{outcome_of}
use Rattle.load.specs.Refusals.{passed}
use Rattle.jesmovit.specs.JobText.{counts_in}
use Rattle.jesmovit.proofs.job_text.read_job.Goals as goal

pub returns-in_default : goal.returns-in_default
returns-in_default c =
    let t = c.read_job-answer.new.rows in
    sym (ap (λ a. counts_in (outcome_of a t)) c.unwrap_err.ensures) ∙ ap counts_in c.read_job-answer.ensures

pub returns : goal.returns
returns c =
    let t = c.read_job-answer.new.rows in
    ap passed (sym (counts_of_lem c.in-Ok.read.head t)) ∙ sym (ap (λ a. counts_in (outcome_of a t)) c.in-Ok.is)
    ∙ ap counts_in c.read_job-answer.ensures
