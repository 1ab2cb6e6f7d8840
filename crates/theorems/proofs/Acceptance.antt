-- Demand 1: which texts, lists and tables are not refused, of every operation.
-- Assumes nothing.
use Prim.Native.Nat.{ℕ, ◌^◌, ◌≤◌, ◌*◌}
use mathlib.Core.Path.{◌≡◌, refl, sym, ◌∙◌, ap, subst}
use mathlib.Core.Bool.{Bool, true, false}
use mathlib.Core.List.{List}
use mathlib.Core.Logic.{◌↔◌}
use native.Mathlib.Omega.{arith}
use native.Mathlib.Nat.{mul-le-mul, pow-le-pow_right}
use lib.ListN.{length}
use Rattle.limits.specs.Limits.{most_states, most_positions, most_steps}
use Rattle.text.specs.Bytes.{bytes}
use Rattle.text.specs.Lines.{lines}
use Rattle.text.proofs.LineText.{plain}
use Rattle.job.specs.Job.{Job}
use Rattle.job.specs.Task.{Task, class_cost, CostsWithin}
use Rattle.job.specs.ReadJob.{read, read_job}
use Rattle.job.specs.WellFormed.{WellFormed}
use Rattle.job.proofs.CostLaws.{house_within}
use Rattle.reader.proofs.ReadLaws.{read_well_formed, read_lines_lem}
use Rattle.compile.proofs.FitLaws.{few_positions, few_steps}
use Rattle.std.specs.Prelude.{Ok, Option, Some, None, []}
use Rattle.lists.specs.PlanText.{read_plan}
use Rattle.load.specs.Refusals.{Handed, Checked, passed, next, compilable, job_in, with_costs, costs_in, task_in}
use Rattle.load.specs.Refusals.{Offer, offered, key_for, bound_for, plan_in, texts_in}
use Rattle.load.specs.Refusals.{list_need, table_size, loading}
use Rattle.load.specs.declared.request.Given.{Given}
use Rattle.load.specs.declared.request.Sort.{Sort}
use Rattle.load.specs.declared.request.Sort.TheVariants.{Moves, Steps}
use Rattle.load.proofs.JobLaws.{passed_read, fit}
use Rattle.load.proofs.TaskLaws.{costs_job, costs_taken, costs_house, task_taken}
use Rattle.load.proofs.OfferLaws.{plan_taken}
use Rattle.load.proofs.LoadingLaws.{texts_taken, loading_iff}
use Rattle.theorems.specs.JobText.{job_lines, job_text}
use Rattle.theorems.specs.Accepted.{AcceptedJob, AcceptedTask, AcceptedPlan, AcceptedTexts, Accepted}
use Rattle.theorems.proofs.TextLaws.{text_read}
use Rattle.theorems.proofs.ToldLaws.{read_text}
use Rattle.theorems.proofs.ListTexts.{plan_text_iff, costs_text_iff}

-- of reading: a text is read as a job just where the job is well formed and the text is its text
pub read_iff : (text : List ℕ) (n : ℕ) (j : Job) → (read_job text ≡ read n j) ↔ (WellFormed j × (text ≡ job_text j) × (n ≡ length (lines text)))
read_iff text n j = (
  λ e. (read_well_formed text n j e, read_text text n j e, read_lines_lem text n j e),
  λ h.
      let t = text_read j h.0 in
      ap read_job h.1 ∙ t ∙ ap (λ k. read k j) (read_lines_lem (job_text j) (length (job_lines j)) j t ∙ ap (λ q. length (lines q)) (sym h.1) ∙ sym h.2),
)

-- of a job text: reasons 1 to 4, and 8
module _ (text : List ℕ) (j : Job) where
  job_passes : AcceptedJob text j → job_in text ≡ passed j
  unfolding job_in
  job_passes a = ap compilable ((read_iff text (length (lines text)) j).1 (a.right, a.written, refl)) ∙ rw (a.scoped, fit j a.positions a.steps)

  pub job_iff : (job_in text ≡ passed j) ↔ AcceptedJob text j
  job_iff = (
    λ e.
        let r = passed_read text j e in
        let w = (read_iff text r.lines j).0 r.is_read in
        record { right = w.0; scoped = r.scoped; positions = few_positions j r.fit; steps = few_steps j r.fit; written = w.1 },
    job_passes,
  )

entry_key_plain : (s : Sort) → plain (key_for s) ≡ true
unfolding bytes
entry_key_plain Moves = refl
entry_key_plain Steps = refl

-- of a plan text: reason 5
module _ (sort : Sort) (j : Job) (plan entries : List ℕ) where
  module _ (text : List ℕ) (accepted : AcceptedJob text j) where
    bound_small : (s : Sort) → bound_for s j ≤ 65536
    bound_small Moves = omega (arith, accepted.right.moves)
    bound_small Steps = omega (arith, accepted.steps)

    pub plan_iff : (read_plan (key_for sort) (bound_for sort j) plan ≡ Ok entries) ↔ AcceptedPlan sort j plan entries
    plan_iff = plan_text_iff (key_for sort) (bound_for sort j) plan entries (entry_key_plain sort) (bound_small sort)

-- of a job text and a costs text: reasons 1 to 4, 8 and 7
module _ (g : Given) (text costs : List ℕ) (t : Task) where
  -- without a costs text, and with one
  costs_pass : (b : Bool) → g.costs ≡ b → AcceptedTask g text costs t → costs_in g costs t.job ≡ passed t
  costs_pass true e a = rw e (ap (with_costs t.job) ((costs_text_iff costs t.costs).1 (a.its_costs e)))
  costs_pass false e a = rw e (ap (λ (cs : List ℕ). passed (record { job = t.job; costs = cs })) (sym (a.house e)))

  task_passes : AcceptedTask g text costs t → task_in g text costs ≡ passed t
  unfolding task_in
  task_passes a = ap (λ (c : Checked Job). next c (costs_in g costs)) (job_passes text t.job a.its_job) ∙ costs_pass g.costs refl a

  task_passed : task_in g text costs ≡ passed t → AcceptedTask g text costs t
  task_passed e =
      let (j, f, k) = task_taken g text costs e in
      record {
        its_job = (job_iff text t.job).0 (f ∙ ap passed (sym (costs_job g costs j k)));
        its_costs = λ c. (costs_text_iff costs t.costs).0 (costs_taken g costs j k c);
        house = λ c. costs_house g costs j k c;
      }

  pub task_iff : (task_in g text costs ≡ passed t) ↔ AcceptedTask g text costs t
  task_iff = (task_passed, task_passes)

  -- no class costs more than the greatest cost
  pub accepted_within : AcceptedTask g text costs t → CostsWithin t.costs
  unfolding class_cost
  accepted_within a = by g.costs refl
    where
      by : (b : Bool) → g.costs ≡ b → CostsWithin t.costs
      by true e = (a.its_costs e).each
      by false e = subst CostsWithin (sym (a.house e)) house_within

-- of what is handed in
module _ (h : Handed) (o : Offer) where
  abbrev planned : Task → Checked Offer
  planned t = plan_in h.request.plan h.plan t

  -- what is handed in without a plan text, and with one
  plan_passes : (p : Option Sort) → h.request.plan ≡ p → AcceptedTexts h o → plan_in p h.plan o.task ≡ passed o
  plan_passes (Some sort) e a =
      ap (offered o.task) ((plan_iff sort o.task.job h.plan o.entries h.job a.its_task.its_job).1 (a.its_plan sort e))
  plan_passes None e a = ap (λ (es : List ℕ). passed (record { task = o.task; entries = es })) (sym (a.alone e))

  texts_pass : AcceptedTexts h o → texts_in h ≡ passed o
  unfolding texts_in
  texts_pass a =
      ap (λ (c : Checked Task). next c planned) (task_passes h.request.given h.job h.costs o.task a.its_task)
      ∙ plan_passes h.request.plan refl a

  alone_is : {t : Task} → plan_in None h.plan t ≡ passed o → record { task = t; entries = [] } ≡ o
  alone_is e = cc

  its_task : {t : Task} (p : Option Sort) → plan_in p h.plan t ≡ passed o → t ≡ o.task
  its_task {t} (Some sort) e = (plan_taken sort h.plan t o e).0
  its_task None e = ap (λ (x : Offer). x.task) (alone_is e)

  planned_as : (t : Task) {p : Option Sort} → h.request.plan ≡ p → planned t ≡ passed o → plan_in p h.plan t ≡ passed o
  planned_as t f e = subst (λ (q : Option Sort). plan_in q h.plan t ≡ passed o) f e

  texts_passed : texts_in h ≡ passed o → AcceptedTexts h o
  texts_passed e =
      let (t, f, k) = texts_taken h e in
      let a = (task_iff h.request.given h.job h.costs o.task).0 (f ∙ ap passed (its_task h.request.plan k)) in
      record {
        its_task = a;
        its_plan = λ sort p. (plan_iff sort o.task.job h.plan o.entries h.job a.its_job).0 (plan_taken sort h.plan t o (planned_as t p k)).1;
        alone = λ p. ap (λ (x : Offer). x.entries) (sym (alone_is (planned_as t p k)));
      }

  -- its texts: reasons 1 to 4, 8, 7 and 5
  pub texts_iff : (texts_in h ≡ passed o) ↔ AcceptedTexts h o
  texts_iff = (texts_passed, texts_pass)

  -- all of it, for every operation
  pub accepted_iff : (loading h ≡ passed o) ↔ Accepted h o
  accepted_iff = (
    λ e. let x = (loading_iff h o).0 e in record { texts = texts_passed x.0; list = x.1; table = x.2 },
    λ a. (loading_iff h o).1 (texts_pass a.texts, a.list, a.table),
  )

-- as the header says: 4,096 numbers of a list, and 1,048,576 of a table, are enough for every job
pub needs_within : (text : List ℕ) (t : Task) → AcceptedJob text t.job → (list_need t.job ≤ most_steps * 4) × (table_size t ≤ most_states * most_positions)
needs_within text t a =
    let few : 2 ^ t.job.scalars.facts ≤ most_states = pow-le-pow_right (omega arith) a.right.facts in
    (omega (arith, a.steps), omega (arith, mul-le-mul few a.positions))
