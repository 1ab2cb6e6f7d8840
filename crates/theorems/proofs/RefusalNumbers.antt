-- The numbers by which each operation refuses.
-- Assumes nothing.
use Prim.Native.Nat.{ℕ, ◌+◌, ◌≤◌}
use mathlib.Core.Path.{◌≡◌, refl, subst}
use mathlib.Core.Bool.{true, cond}
use mathlib.Core.List.{List, [], ◌∷◌}
use Rattle.std.specs.Prelude.{Ok, Err, Option, Some, None, IsSome}
use Rattle.load.specs.declared.request.Sort.{Sort}
use native.Mathlib.Omega.{arith}
use lib.Dec.{eqb, leb}
use borrow.Author.Tests.{eqb-false}
use Rattle.laws.proofs.Tests.{never, cond_has}
use Rattle.job.specs.Job.{Job, counts_of}
use Rattle.job.specs.Task.{Task, at_house_costs}
use Rattle.job.specs.Line.{line_numbers}
use Rattle.job.specs.Fault.{fault}
use Rattle.job.specs.ReadJob as R
use Rattle.job.specs.ReadJob.{Reading, Outcome, is_end, ended, read_from, begun, read_job}
use Rattle.job.proofs.FaultLaws.{fault_small}
use Rattle.text.specs.Lines.{lines}
use Rattle.lists.specs.CountedList.{ListOutcome}
use Rattle.lists.specs.CostsText.{read_costs}
use Rattle.lists.specs.PlanText.{read_plan}
use Rattle.compile.specs.CompiledJob.{fits, program_scoped}
use Rattle.load.specs.Refusals.{Handed, Checked, passed, refused, next, compilable, job_in, with_costs, costs_in, task_in}
use Rattle.load.specs.Refusals.{offered, key_for, bound_for, plan_in, texts_in}
use Rattle.load.specs.Refusals.{list_need, table_need, cells_in, loading}
use Rattle.theorems.specs.RefusalNumbers.{UpTo, JobNumber, of_line, of_variable, of_size, TextNumber, of_job, of_costs, of_plan}
use Rattle.theorems.specs.RefusalNumbers.{LoadNumber, of_text, too_short}

-- whatever refusal it is, its number meets P
abbrev RefusedBy : {A : Type 0} → (ℕ → Type 0) → Checked A → Type 0
RefusedBy P c = (number place : ℕ) → c ≡ refused number place → P number

-- reasons 1, 2 and 3
abbrev Ranged : Outcome → Type 0
Ranged o = (number place : ℕ) → o ≡ R.refused number place → UpTo 3 number

reading_refuses : (n : ℕ) (s : Reading) (ls : List (List ℕ)) → Ranged (read_from n s ls)
unfolding read_from ended
reading_refuses n s [] = cond_has Ranged (is_end s.next) (R.read n s.job) (R.refused 1 (n + 1)) (λ z a b e. never (cc))
    (λ z a b e. let y : a ≡ 1 = cc in (omega arith, omega arith))
reading_refuses n s (line ∷ ls) =
    let reason = fault s.next (counts_of s.job) (line_numbers s.next line) in
    cond_has Ranged (eqb reason 0) _ (R.refused reason (n + 1)) (λ z. reading_refuses (n + 1) _ ls)
    (λ z a b e. let y : reason ≡ a = cc in (
      omega (arith, eqb-false reason 0 z),
      omega
          (arith, fault_small s.next (counts_of s.job) (line_numbers s.next line)),
    ))

-- of reading a job
pub read_number : (text : List ℕ) (number place : ℕ) → read_job text ≡ R.refused number place → UpTo 3 number
unfolding read_job
read_number text = reading_refuses 0 begun (lines text)

-- a chain refuses as its parts do
next_refuses : {A B : Type 0} (P : ℕ → Type 0) (c : Checked A) (f : A → Checked B) → RefusedBy P c → ((a : A) → RefusedBy P (f a)) → RefusedBy P (next c f)
next_refuses P (passed a) f x y = y a
next_refuses P (refused m q) f x y = λ number place e. x number place (cc)

-- the stage of reason 6
length_refuses : {A : Type 0} (P : ℕ → Type 0) (a : A) (need places : ℕ) → P 6 → RefusedBy P (cond (leb need places) (passed a) (refused 6 need))
length_refuses P a need places six =
    cond_has (RefusedBy P) (leb need places) (passed a) (refused 6 need) (λ z number place e. never (cc))
    (λ z number place e. let y : 6 ≡ number = cc in subst P y six)

compilable_refuses : (o : Outcome) → Ranged o → RefusedBy JobNumber (compilable o)
compilable_refuses (R.read n j) r =
    cond_has (RefusedBy JobNumber) (program_scoped j) (cond (fits j) (passed j) (refused 4 n)) (refused 8 n)
    (λ v. cond_has (RefusedBy JobNumber) (fits j) (passed j) (refused 4 n) (λ z a b e. never (cc))
    (λ z a b e. let y : 4 ≡ a = cc in subst JobNumber y of_size))
    (λ v a b e. let y : 8 ≡ a = cc in subst JobNumber y of_variable)
compilable_refuses (R.refused m p) r = λ a b e. let y : m ≡ a = cc in let x = r m p refl in of_line {number = a} (omega (arith, x.0), omega (arith, x.1))

-- of a job text: reasons 1 to 4, and 8
pub job_number : (text : List ℕ) (number place : ℕ) → job_in text ≡ refused number place → JobNumber number
unfolding job_in
job_number text = compilable_refuses (read_job text) (read_number text)

-- of what is handed in, with or without costs and plan texts
module _ (h : Handed) where
  abbrev ByText : {A : Type 0} → Checked A → Type 0
  ByText = RefusedBy (TextNumber h)

  costed_refuses : (j : Job) → h.request.given.costs ≡ true → (o : ListOutcome) → ByText (with_costs j o)
  costed_refuses j f (Ok cs) = λ a b e. never (cc)
  costed_refuses j f (Err line) = λ a b e. let y : 7 ≡ a = cc in subst (TextNumber h) y (of_costs f)

  costs_refuse : (j : Job) → ByText (costs_in h.request.given h.costs j)
  costs_refuse j =
      cond_has ByText h.request.given.costs _ (passed (at_house_costs j)) (λ z. costed_refuses j z (read_costs h.costs)) (λ z a b e. never (cc))

  offered_refuses : (t : Task) → IsSome h.request.plan → (o : ListOutcome) → ByText (offered t o)
  offered_refuses t f (Ok es) = λ a b e. never (cc)
  offered_refuses t f (Err line) = λ a b e. let y : 5 ≡ a = cc in subst (TextNumber h) y (of_plan f)

  plan_refuses : (t : Task) → ByText (plan_in h.request.plan h.plan t)
  plan_refuses t = by h.request.plan refl
    where
      by : (p : Option Sort) → h.request.plan ≡ p → ByText (plan_in p h.plan t)
      by (Some sort) e = offered_refuses t (rw e refl) (read_plan (key_for sort) (bound_for sort t.job) h.plan)
      by None e = λ a b f. never (cc)

  -- of the texts alone
  pub texts_number : (number place : ℕ) → texts_in h ≡ refused number place → TextNumber h number
  unfolding texts_in task_in
  texts_number =
      next_refuses (TextNumber h) (task_in h.request.given h.job h.costs) _
      (next_refuses (TextNumber h) (job_in h.job) _ (λ a b e. of_job (job_number h.job a b e)) costs_refuse) plan_refuses

  -- of every operation but reading
  pub load_number : (number place : ℕ) → loading h ≡ refused number place → LoadNumber h number
  unfolding loading
  load_number =
      next_refuses (LoadNumber h) _ _
      (next_refuses (LoadNumber h) (texts_in h) _ (λ a b e. of_text (texts_number a b e))
      (λ o. length_refuses (LoadNumber h) o (list_need o.task.job) h.request.places too_short))
      (λ o. length_refuses (LoadNumber h) o (table_need h.request o.task) (cells_in h.request) too_short)
