-- The entries of a plan.
use Rattle.std.specs.Prelude.{ℕ, ◌≤◌, ◌<◌, List, length, get_or}
use Rattle.limits.specs.Limits.{most_entries}

-- at most so many entries, each below the bound
pub record EntriesBelow (plan : List ℕ) (bound : ℕ) : Type 0 where
  pub few : length plan ≤ most_entries
  pub below : (i : ℕ) → i < length plan → get_or plan i 0 < bound
