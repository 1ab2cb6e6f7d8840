-- Request (g), as written: what a list of moves costs, summed along its states (document 02: worlds), and
-- the least of such sums. It cites the class costs, and no definition of what a move costs.
use Rattle.std.specs.Prelude.{ℕ, ◌+◌, ◌≤◌, ◌≡◌, true, false, List, [], ◌∷◌}
use Rattle.std.specs.Prelude.{Some}
use Rattle.job.specs.Job.{move_at}
use Rattle.job.specs.Task.{Task, class_cost}
use Rattle.semantics.specs.Plan.{Allowed}
use Rattle.domain.specs.Domain.{domain_of}
use Rattle.compile.specs.Program.{program_of}

-- what the two classes of a move cost
abbrev pub first_cost : Task → ℕ → ℕ
first_cost t m = class_cost t.costs (move_at t.job m).class

abbrev pub second_cost : Task → ℕ → ℕ
second_cost t m = class_cost t.costs (move_at t.job m).second

-- "The move's cost in a world is its first class, plus the second where the formula holds in the world
-- before the move"; the moves after it start from the state after it
pub data CostsAlong (t : Task) : ℕ → List ℕ → ℕ → Type 0 where
  no_move : {w : ℕ} → CostsAlong t w [] 0
  first_alone : {w u m : ℕ} {ms : List ℕ} {c : ℕ} → (domain_of t).holds (move_at t.job m).when w ≡ false → (domain_of t).successor m w ≡ Some u
      → CostsAlong t u ms c → CostsAlong t w (m ∷ ms) (first_cost t m + c)
  with_second : {w u m : ℕ} {ms : List ℕ} {c : ℕ} → (domain_of t).holds (move_at t.job m).when w ≡ true → (domain_of t).successor m w ≡ Some u
      → CostsAlong t u ms c → CostsAlong t w (m ∷ ms) (first_cost t m + second_cost t m + c)

-- "A plan's cost is summed along its worlds"
abbrev pub PlanCosts : Task → List ℕ → ℕ → Type 0
PlanCosts t ms c = Allowed (domain_of t) (program_of t.job) ms × CostsAlong t (domain_of t).start ms c

-- "and so is the least": a plan costs this, and no plan costs less
pub record LeastAlong (t : Task) (c : ℕ) : Type 0 where
  pub best : List ℕ
  pub costs : PlanCosts t best c
  pub least : (ms : List ℕ) (d : ℕ) → PlanCosts t ms d → c ≤ d

-- the plain sum of the first classes
unfoldable pub class_sum : Task → List ℕ → ℕ
class_sum t [] = 0
class_sum t (m ∷ ms) = first_cost t m + class_sum t ms
