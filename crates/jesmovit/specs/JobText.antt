-- What reading a job text promises.
use Rattle.std.specs.Prelude.{ℕ, ◌≡◌, Result, List}
use Rattle.job.specs.Job.{counts_of}
use Rattle.job.specs.ReadJob.{Outcome, read, refused, read_job}
use Rattle.job.specs.declared.head.Counts.{Counts}
use Rattle.load.specs.Refusals as C
use Rattle.load.specs.Refusals.{Checked}
use Rattle.jesmovit.specs.Outcomes.{read_outcome}
use Rattle.job.specs.declared.refusal.Refusal.{Refusal}

-- the counts of the job that is read, or the refusal's number and place
abbrev pub counts_in : Outcome → Checked Counts
counts_in (read lines job) = C.passed (counts_of job)
counts_in (refused number place) = C.refused number place

abbrev pub Reads : List ℕ → Result Counts Refusal → Type 0
Reads text answer = read_outcome answer ≡ counts_in (read_job text)
