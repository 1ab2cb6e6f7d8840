-- The steps of a list.
use Rattle.std.specs.Prelude.{ℕ, ◌+◌, ◌*◌, ◌/◌, ◌≤◌, ◌<◌, List, length, get_or}
use Rattle.limits.specs.Limits.{most_steps, most_positions}
use Rattle.semantics.specs.CompilingTable.{Step, steps_in}

-- the steps of a list that holds nothing else
abbrev pub steps_on : List ℕ → List Step
steps_on list = steps_in (length list / 4) list

-- where step k starts
abbrev pub start_in : List ℕ → ℕ → ℕ
start_in list k = get_or list (k * 4 + 1) 0

-- at most so many of them, between so many positions
pub record Listed (list : List ℕ) : Type 0 where
  pub few : length list ≤ most_steps * 4
  pub from : (k : ℕ) → k < length list / 4 → start_in list k < most_positions
  pub to : (k : ℕ) → k < length list / 4 → get_or list (k * 4 + 2) 0 < most_positions
