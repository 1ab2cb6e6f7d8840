-- What checks and the search are handed: a job that was read, and the steps of its compiled job.
use Rattle.std.specs.Prelude.{ℕ, ◌*◌, ◌≡◌, true, List, length}
use Rattle.job.specs.Store.{job_of}
use Rattle.job.specs.Stored.{Stored}
use Rattle.job.specs.declared.head.Head.{Head}
use Rattle.compile.specs.CompiledJob.{steps_of, position_count, step_count, fits}
use Rattle.compiled.specs.StepList.{steps_on}

-- a job whose compiled job is within the limits, as head and rows, and a list that holds its steps
-- and nothing else
pub record Ready (head : Head) (rows list : List ℕ) (count : ℕ) : Type 0 where
  pub stored : Stored head rows
  pub fit : fits (job_of head rows) ≡ true
  pub whole : length list ≡ step_count (job_of head rows) * 4
  pub steps : steps_on list ≡ steps_of (job_of head rows)
  pub positions : count ≡ position_count (job_of head rows)
