-- A plan text loaded beside a task: refused by 5, or its entries handed on.
-- Assumes nothing.
use Prim.Native.Nat.{ℕ}
use mathlib.Core.Path.{◌≡◌, refl, subst}
use mathlib.Core.List.{List}
use Rattle.laws.proofs.Tests.{never}
use Rattle.job.specs.Task.{Task}
use Rattle.lists.specs.CountedList.{ListOutcome}
use Rattle.lists.specs.PlanText.{read_plan}
use Rattle.load.specs.Refusals.{passed, Offer, offered, key_for, bound_for, plan_in}
use Rattle.load.specs.declared.request.Sort.{Sort}
use Rattle.std.specs.Prelude.{Some, Ok, Err}

-- what is offered was read
module _ (sort : Sort) (plan : List ℕ) (t : Task) (o : Offer) where
  abbrev Taken : Offer → Type 0
  Taken x = (t ≡ x.task) × (read_plan (key_for sort) (bound_for sort x.task.job) plan ≡ Ok x.entries)

  taken_by : (p : ListOutcome) → read_plan (key_for sort) (bound_for sort t.job) plan ≡ p → offered t p ≡ passed o → Taken o
  taken_by (Ok es) g h = let z : record { task = t; entries = es } ≡ o = cc in subst Taken z (refl, g)
  taken_by (Err line) g h = never (cc)

  pub plan_taken : plan_in (Some sort) plan t ≡ passed o → (t ≡ o.task) × (read_plan (key_for sort) (bound_for sort o.task.job) plan ≡ Ok o.entries)
  plan_taken e = taken_by (read_plan (key_for sort) (bound_for sort t.job) plan) refl e
