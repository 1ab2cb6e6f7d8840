-- What is not refused, said without reading it: "Texts are accepted where no reason but 6 refuses
-- them."
use Rattle.std.specs.Prelude.{ℕ, ◌≤◌, ◌≡◌, true, false, Some, None, List, [], length}
use Rattle.limits.specs.Limits.{most_positions, most_steps}
use Rattle.text.specs.Lines.{lines}
use Rattle.job.specs.Job.{Job}
use Rattle.job.specs.Task.{Task, house_costs}
use Rattle.job.specs.WellFormed.{WellFormed}
use Rattle.compile.specs.CompiledJob.{position_count, step_count, program_scoped}
use Rattle.lists.specs.PlanText.{IsPlanText}
use Rattle.lists.specs.CostsText.{IsCostsText}
use Rattle.load.specs.Refusals.{Handed, Offer, key_for, bound_for, list_need, table_need, cells_in}
use Rattle.load.specs.declared.request.Given.{Given}
use Rattle.load.specs.declared.request.Sort.{Sort}
use Rattle.theorems.specs.JobText.{job_text}

-- no reason from 1 to 4, nor 8, refuses the text of a well-formed job whose program has a pick for
-- each variable: "At most 256 positions and 1,024 steps."
pub record AcceptedJob (text : List ℕ) (j : Job) : Type 0 where
  pub right : WellFormed j
  pub scoped : program_scoped j ≡ true
  pub positions : position_count j ≤ most_positions
  pub steps : step_count j ≤ most_steps
  pub written : text ≡ job_text j

-- reason 8 refuses the text of a well-formed job whose program has a variable without its pick, at
-- this place: "with the last job line, before 4"
pub record UnscopedJob (text : List ℕ) (place : ℕ) (j : Job) : Type 0 where
  pub right : WellFormed j
  pub unscoped : program_scoped j ≡ false
  pub written : text ≡ job_text j
  pub last_line : place ≡ length (lines text)

-- nor does reason 7 refuse a costs text, where one is given: "The house numbers remain for those
-- who hand in none."
pub record AcceptedTask (g : Given) (text costs : List ℕ) (t : Task) : Type 0 where
  pub its_job : AcceptedJob text t.job
  pub its_costs : g.costs ≡ true → IsCostsText costs t.costs
  pub house : g.costs ≡ false → t.costs ≡ house_costs

-- nor does reason 5 refuse a plan text: "`plan=K`, K from 0 to 4,000, then K lines `m=move`, or
-- `t=step`", of moves or steps that the job has
abbrev pub AcceptedPlan : Sort → Job → List ℕ → List ℕ → Type 0
AcceptedPlan sort j plan entries = IsPlanText (key_for sort) (bound_for sort j) plan entries

-- the texts; where no plan text is handed in there are no entries
pub record AcceptedTexts (h : Handed) (o : Offer) : Type 0 where
  pub its_task : AcceptedTask h.request.given h.job h.costs o.task
  pub its_plan : (sort : Sort) → h.request.plan ≡ Some sort → AcceptedPlan sort o.task.job h.plan o.entries
  pub alone : h.request.plan ≡ None → o.entries ≡ []

-- and a list and a table that are long enough
pub record Accepted (h : Handed) (o : Offer) : Type 0 where
  pub texts : AcceptedTexts h o
  pub list : list_need o.task.job ≤ h.request.places
  pub table : table_need h.request o.task ≤ cells_in h.request
