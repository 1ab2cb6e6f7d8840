-- Where a step list is a plan, its moves are a plan of the same cost, and a move list that is a
-- plan has such a step list.
-- Assumes nothing.
use Prim.Native.Nat.{ℕ}
use mathlib.Core.Path.{◌≡◌}
use mathlib.Core.List.{List}
use Rattle.job.specs.Task.{Task}
use Rattle.semantics.specs.Path.{moves_in}
use Rattle.semantics.specs.Verdict.{plan}
use Rattle.semantics.proofs.VerdictLaws.{step_plan_is_move_plan, move_plan_has_step_plan}
use Rattle.domain.specs.Domain.{domain_of}
use Rattle.compile.specs.Program.{program_of}
use Rattle.compile.specs.CompiledJob.{steps_of}
use Rattle.load.specs.View.{view_of}
use Rattle.load.specs.declared.request.Sort.TheVariants.{Moves, Steps}
use Rattle.jesmovit.specs.Checking.{Says}

module _ (t : Task) where
  pub step_plan_moves : (is : List ℕ) (c : ℕ) → Says Steps (view_of (record { task = t; entries = is })) (plan c)
      → Says Moves (view_of (record { task = t; entries = moves_in (steps_of t.job) is })) (plan c)
  step_plan_moves is c s = step_plan_is_move_plan (domain_of t) (program_of t.job) is c s

  pub move_plan_steps : (ms : List ℕ) (c : ℕ) → Says Moves (view_of (record { task = t; entries = ms })) (plan c)
      → (is : List ℕ) × (moves_in (steps_of t.job) is ≡ ms) × Says Steps (view_of (record { task = t; entries = is })) (plan c)
  move_plan_steps ms c s = move_plan_has_step_plan (domain_of t) (program_of t.job) ms c s
