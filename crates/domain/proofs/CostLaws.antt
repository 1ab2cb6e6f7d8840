-- What a move costs: its class, and where its formula holds the second one too; at most what two classes
-- may cost.
-- Assumes nothing.
use Rattle.std.proofs.Common.{ℕ, ◌+◌, ◌≤◌, ◌≡◌, Bool, true, false, cond, List, sym, ap, ◌∙◌, arith}
use Rattle.laws.proofs.Tests.{cond_has}
use Rattle.limits.specs.Limits.{most_cost}
use Rattle.job.specs.Job.{Move, move_at}
use Rattle.job.specs.Task.{Task, class_cost, CostsWithin}
use Rattle.job.specs.Store.{task_of}
use Rattle.job.specs.Stored.{Stored}
use Rattle.job.specs.declared.head.Head.{Head}
use Rattle.job.proofs.StoredLaws.{move_count}
use Rattle.domain.specs.Domain.{holds_in, cost_in, domain_in}

-- by the move's classes, whether or not the formula of the second holds
module _ (a : Task) (m w : ℕ) {x : Move} (is : x ≡ move_at a.job m) {own second : ℕ} (own_is : own ≡ class_cost a.costs x.class)
    (second_is : second ≡ class_cost a.costs x.second) where
  pub cost_told : own + cond (holds_in a.job x.when w) second 0 ≡ cost_in a m w
  unfolding cost_in
  cost_told = rw (← is, own_is, second_is)

  cost_by : (on : Bool) → holds_in a.job x.when w ≡ on → own + cond on second 0 ≡ cost_in a m w
  cost_by on e = ap (λ b. own + cond b second 0) (sym e) ∙ cost_told

  pub cost_both : holds_in a.job x.when w ≡ true → own + second ≡ cost_in a m w
  cost_both e = cost_by true e

  pub cost_first : holds_in a.job x.when w ≡ false → own ≡ cost_in a m w
  cost_first e = omega (arith, cost_by false e)

  pub cost_plain : second ≡ 0 → own ≡ cost_in a m w
  unfolding cost_in
  cost_plain free = rw (← is) (cond_has (λ (n : ℕ). own ≡ class_cost a.costs x.class + n) (holds_in a.job x.when w) (class_cost a.costs x.second) 0
      (λ e. omega arith) (λ e. omega arith))

-- two classes at the most
pub cost_within : (t : Task) (m w : ℕ) → CostsWithin t.costs → cost_in t m w ≤ most_cost
unfolding cost_in
cost_within t m w c =
    let x : Move = move_at t.job m in
    cond_has (λ (n : ℕ). class_cost t.costs x.class + n ≤ most_cost) (holds_in t.job x.when w) (class_cost t.costs x.second) 0
    (λ e. omega (arith, c x.class, c x.second)) (λ e. omega (arith, c x.class))

pub told_within : {head : Head} {rows : List ℕ} → Stored head rows → (m w : ℕ) {r : ℕ} → r ≡ (domain_in head rows).cost m w
    → (r ≡ (domain_in head rows).cost m w) × (r ≤ most_cost)
told_within {head} {rows} s m w e = (e, omega (arith, e, cost_within (task_of head rows) m w s.costs))

-- what the code's sums rest on
pub ruleset as_counted = (move_count, cost_both, cost_first, cost_plain, told_within)
