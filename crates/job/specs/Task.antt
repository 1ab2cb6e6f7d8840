-- A job and the class costs that its moves are counted with.
use Rattle.std.specs.Prelude.{ℕ, ◌≤◌, List, [], ◌∷◌, get_or}
use Rattle.limits.specs.Limits.{most_class_cost}
use Rattle.job.specs.Job.{Job}

pub record Task : Type 0 where
  pub job : Job
  pub costs : List ℕ

-- the house numbers: "Cost in tenths of a second, classes 0 to 15"
abbrev pub house_costs : List ℕ
house_costs = 0 ∷ 5 ∷ 12 ∷ 20 ∷ 30 ∷ 45 ∷ 60 ∷ 90 ∷ 120 ∷ 180 ∷ 240 ∷ 360 ∷ 600 ∷ 900 ∷ 1800 ∷ 3600 ∷ []

abbrev pub at_house_costs : Job → Task
at_house_costs j = record { job = j; costs = house_costs }

-- what a class costs
unfoldable pub class_cost : List ℕ → ℕ → ℕ
class_cost costs class = get_or costs class 0

-- no class costs more than the greatest cost of one
abbrev pub CostsWithin : List ℕ → Type 0
CostsWithin costs = (class : ℕ) → class_cost costs class ≤ most_class_cost
