-- A costs text loaded beside a job: refused by 7, or its costs stored behind the job's rows.
-- Assumes nothing.
use Prim.Native.Nat.{ℕ}
use mathlib.Core.Path.{◌≡◌, refl, sym, ◌∙◌, ap, subst}
use mathlib.Core.Bool.{Bool, true, false, cond}
use mathlib.Core.List.{List}
use lib.ListN.{length}
use lib.Seq.{sets}
use Rattle.laws.proofs.Tests.{never}
use Rattle.limits.specs.Limits.{class_count}
use Rattle.job.specs.Job.{Job}
use Rattle.job.specs.Task.{Task, house_costs, at_house_costs, class_cost, CostsWithin}
use Rattle.job.specs.Store.{costs_from, job_of, stored_costs, task_of}
use Rattle.job.specs.Stored.{Stored}
use Rattle.job.specs.declared.head.Head.{Head}
use Rattle.job.proofs.CostLaws.{costs_put, job_kept, costs_stored}
use Rattle.compile.specs.declared.sizes.Sizes.{Sizes}
use Rattle.std.specs.Prelude.{Result, Ok, Err, MatchResult, IfOk}
use Rattle.std.specs.Result.{IsErrAnd}
use Rattle.std.proofs.lemmas.Result.{err_from_is_err_and}
use Rattle.job.specs.declared.refusal.Refusal.{Refusal}
use Rattle.lists.specs.CountedList.{ListOutcome}
use Rattle.lists.specs.CostsText.{read_costs}
use Rattle.lists.proofs.ListTold.{costs_told}
use Rattle.load.specs.Refusals.{Checked, passed, next, job_in, with_costs, costs_in, task_in}
use Rattle.load.specs.Sized.{Sized}
use Rattle.load.specs.declared.request.Given.{Given}
use Rattle.load.proofs.StageLaws.{passed_next}

module _ (g : Given) (costs : List ℕ) (j : Job) where
  pub costs_by_given : {b : Bool} → g.costs ≡ b → cond b (with_costs j (read_costs costs)) (passed (at_house_costs j)) ≡ costs_in g costs j
  costs_by_given f = ap (λ (b : Bool). cond b (with_costs j (read_costs costs)) (passed (at_house_costs j))) (sym f)

  -- costs that were given were read, and with none given they are the house's; the job stays
  module _ {t : Task} (e : costs_in g costs j ≡ passed t) where
    given_taken : g.costs ≡ true → (t.job ≡ j) × (read_costs costs ≡ Ok t.costs)
    given_taken f = by (read_costs costs) refl (costs_by_given f ∙ e)
      where
        by : (o : ListOutcome) → read_costs costs ≡ o → with_costs j o ≡ passed t → (t.job ≡ j) × (read_costs costs ≡ Ok t.costs)
        by (Ok cs) h k =
            let z : ◌≡◌ {A = Task} (record { job = j; costs = cs }) t = cc in
            (sym (ap (λ (x : Task). x.job) z), h ∙ ap (λ (x : Task). Ok x.costs) z)
        by (Err line) h k = never (cc)

    none_taken : g.costs ≡ false → at_house_costs j ≡ t
    none_taken f = let z : passed (at_house_costs j) ≡ passed t = costs_by_given f ∙ e in cc

    pub costs_taken : g.costs ≡ true → read_costs costs ≡ Ok t.costs
    costs_taken f = (given_taken f).1

    pub costs_house : g.costs ≡ false → t.costs ≡ house_costs
    costs_house f = sym (ap (λ (x : Task). x.costs) (none_taken f))

    pub costs_job : t.job ≡ j
    costs_job = by g.costs refl
      where
        by : (b : Bool) → g.costs ≡ b → t.job ≡ j
        by true f = (given_taken f).0
        by false f = sym (ap (λ (x : Task). x.job) (none_taken f))

-- costs that were read, with a refusal in place of the line
pub costs_within : (text : List ℕ) (read : Result (List ℕ) ℕ) (r : Result (List ℕ) Refusal) (Q : ℕ → Refusal → Type 0) → read ≡ read_costs text
    → MatchResult read (λ costs. r ≡ Ok costs) (λ line. IsErrAnd r (Q line)) → IfOk r CostsWithin
unfolding class_cost
costs_within text (Ok costs) r Q e m = rw m (costs_told text costs (sym e)).each
costs_within text (Err line) r Q e m = let p = err_from_is_err_and r m in rw p.1 tt

-- costs written behind a stored job's
module _ {h : Head} {rows after : List ℕ} (costs : List ℕ) (stored : Stored h rows) (within : CostsWithin costs) (sixteen : length costs ≡ class_count)
    (put : after ≡ sets rows costs_from costs) where
  same_job : job_of h after ≡ job_of h rows
  same_job = ap (job_of h) put ∙ job_kept rows costs sixteen stored.size h stored.job

  pub priced_stored : Stored h after
  priced_stored = subst (Stored h) (sym put) (costs_stored rows costs sixteen stored.size h stored.job within)

  pub priced_sized : {s : Sizes} → Sized (job_of h rows) s → Sized (job_of h after) s
  priced_sized {s} x = subst (λ (j : Job). Sized j s) (sym same_job) x

  pub priced_task : record { job = job_of h rows; costs = costs } ≡ task_of h after
  priced_task = rw (same_job, ap stored_costs put ∙ costs_put rows costs sixteen stored.size)

-- a job text, then a costs text
module _ (g : Given) (text costs : List ℕ) where
  pub task_of_lem : {c : Checked Job} → c ≡ job_in text → next c (costs_in g costs) ≡ task_in g text costs
  unfolding task_in
  task_of_lem e = ap (λ (x : Checked Job). next x (costs_in g costs)) e

  pub task_taken : {t : Task} → task_in g text costs ≡ passed t → (j : Job) × (job_in text ≡ passed j) × (costs_in g costs j ≡ passed t)
  unfolding task_in
  task_taken e = passed_next (job_in text) (costs_in g costs) e
