-- The order of refusals: "The first bad line decides; on it, form before 2 before 3. Then 4, 5, 6."
-- Reason 8 comes "before 4", reason 7 "after the job's refusals 1 to 4 and before 5".
use Rattle.std.specs.Prelude.{ℕ, ◌*◌, cond, Option, Some, None, is_some, unwrap_or, Ok, Err, List, [], leb, length}
use Rattle.job.specs.Job.{Job}
use Rattle.job.specs.Task.{Task, at_house_costs}
use Rattle.job.specs.ReadJob as R
use Rattle.job.specs.ReadJob.{Outcome, read_job}
use Rattle.domain.specs.Domain.{domain_of}
use Rattle.compile.specs.CompiledJob.{position_count, step_count, fits, program_scoped}
use Rattle.lists.specs.CountedList.{ListOutcome}
use Rattle.lists.specs.CostsText.{read_costs}
use Rattle.lists.specs.PlanText.{read_plan, move_key, step_key}
use Rattle.load.specs.declared.request.Given.{Given}
use Rattle.load.specs.declared.request.Request.{Request}
use Rattle.load.specs.declared.request.Sort.{Sort}
use Rattle.load.specs.declared.request.Sort.TheVariants.{Moves, Steps}

-- what is handed in: the texts, and beside them which there are and how long list and table are
pub record Handed : Type 0 where
  pub request : Request
  pub job : List ℕ
  pub plan : List ℕ
  pub costs : List ℕ

-- what no reason refuses so far, or the refusal's number and place
pub data Checked (A : Type 0) : Type 0 where
  passed : A → Checked A
  refused : ℕ → ℕ → Checked A

-- the next reason is looked at where none before it refuses
abbrev pub next : {A B : Type 0} → Checked A → (A → Checked B) → Checked B
next (passed a) reason = reason a
next (refused number place) reason = refused number place

-- 8: "A variable with too few enclosing picks … is refused as 8 with the last job line, before 4";
-- 4 "too many positions or steps", at the last job line
abbrev pub compilable : Outcome → Checked Job
compilable (R.read lines j) = cond (program_scoped j) (cond (fits j) (passed j) (refused 4 lines)) (refused 8 lines)
compilable (R.refused number place) = refused number place

-- reasons 1 to 3, 8 and 4: "Texts are accepted where no reason but 6 refuses them."
unfoldable pub job_in : List ℕ → Checked Job
job_in text = compilable (read_job text)

-- 7: "A bad cost text is refused as 7 with its line"
abbrev pub with_costs : Job → ListOutcome → Checked Task
with_costs j (Ok costs) = passed (record { job = j; costs = costs })
with_costs j (Err line) = refused 7 line

-- "The house numbers remain for those who hand in none."
abbrev pub costs_in : Given → List ℕ → Job → Checked Task
costs_in g costs j = cond g.costs (with_costs j (read_costs costs)) (passed (at_house_costs j))

-- reasons 1 to 3, 8, 4 and 7
unfoldable pub task_in : Given → List ℕ → List ℕ → Checked Task
task_in g text costs = next (job_in text) (costs_in g costs)

-- a task, and the entries of a plan that is offered for it
pub record Offer : Type 0 where
  pub task : Task
  pub entries : List ℕ

-- 5 "plan text of wrong form, K too large, entry not in job", at the plan's line
abbrev pub offered : Task → ListOutcome → Checked Offer
offered t (Ok es) = passed (record { task = t; entries = es })
offered t (Err line) = refused 5 line

-- "`m=move`, or `t=step` for step lists"
abbrev pub key_for : Sort → List ℕ
key_for Moves = move_key
key_for Steps = step_key

-- "entry not in job": how many moves, or steps, it has
abbrev pub bound_for : Sort → Job → ℕ
bound_for Moves j = length j.moves
bound_for Steps j = step_count j

-- where there is no plan text there are no entries
abbrev pub plan_in : Option Sort → List ℕ → Task → Checked Offer
plan_in (Some sort) plan t = offered t (read_plan (key_for sort) (bound_for sort t.job) plan)
plan_in None plan t = passed (record { task = t; entries = [] })

-- reasons 1 to 3, 8, 4, 7 and 5
unfoldable pub texts_in : Handed → Checked Offer
texts_in h = next (task_in h.request.given h.job h.costs) (plan_in h.request.plan h.plan)

-- 6 "list or table handed in too short", with the length needed
abbrev pub long_enough : {A : Type 0} → ℕ → ℕ → A → Checked A
long_enough places need a = cond (leb need places) (passed a) (refused 6 need)

-- "The compiled list needs four numbers a step"
abbrev pub list_need : Job → ℕ
list_need j = step_count j * 4

-- "The cost table has one number for each (world w, position q)"
abbrev pub table_size : Task → ℕ
table_size t = (domain_of t).states * position_count t.job

-- where there is no table none is needed
abbrev pub table_need : Request → Task → ℕ
table_need r t = cond (is_some r.cells) (table_size t) 0

abbrev pub cells_in : Request → ℕ
cells_in r = unwrap_or r.cells 0

-- all reasons that come before a verdict: "Where it and a cost table are both too short, it
-- decides."
unfoldable pub loading : Handed → Checked Offer
loading h =
    next (next (texts_in h) (λ o. long_enough h.request.places (list_need o.task.job) o))
    (λ o. long_enough (cells_in h.request) (table_need h.request o.task) o)
