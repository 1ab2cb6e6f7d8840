-- A job that was read and its class costs, as its head and its rows.
use Rattle.std.specs.Prelude.{ℕ, ◌≤◌, ◌≡◌, List, length}
use Rattle.limits.specs.Limits.{most_facts, most_formulas, most_moves, most_effects, most_objects, most_program}
use Rattle.job.specs.Task.{CostsWithin}
use Rattle.job.specs.Store.{store_size, job_of, stored_costs}
use Rattle.job.specs.WellFormed.{WellFormed}
use Rattle.job.specs.declared.head.Counts.{Counts}
use Rattle.job.specs.declared.head.Head.{Head}

pub record Stored (head : Head) (rows : List ℕ) : Type 0 where
  pub size : length rows ≡ store_size
  pub job : WellFormed (job_of head rows)
  pub costs : CostsWithin (stored_costs rows)

-- at most so many of each
pub record Limited (c : Counts) : Type 0 where
  pub facts : c.facts ≤ most_facts
  pub formulas : c.formulas ≤ most_formulas
  pub moves : c.moves ≤ most_moves
  pub effects : c.effects ≤ most_effects
  pub objects : c.objects ≤ most_objects
  pub program : c.program ≤ most_program
