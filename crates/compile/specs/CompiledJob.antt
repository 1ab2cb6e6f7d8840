-- The compiled job of a job, and its limits.
use Rattle.std.specs.Prelude.{ℕ, ◌+◌, Bool, ◌&&◌, List, leb, length}
use Rattle.limits.specs.Limits.{most_positions, most_steps}
use Rattle.job.specs.Job.{Job}
use Rattle.semantics.specs.CompilingTable.{Step, program_steps, program_end}
use Rattle.semantics.specs.Scope.{scoped}
use Rattle.compile.specs.Program.{program_of}

-- the steps and the final position of a job's program
abbrev pub steps_of : Job → List Step
steps_of j = program_steps (length j.moves) j.scalars.objects (program_of j)

abbrev pub final_position_of : Job → ℕ
final_position_of j = program_end j.scalars.objects (program_of j)

abbrev pub position_count : Job → ℕ
position_count j = final_position_of j + 1

abbrev pub step_count : Job → ℕ
step_count j = length (steps_of j)

-- "At most 256 positions and 1,024 steps."
unfoldable pub fits : Job → Bool
fits j = leb (position_count j) most_positions && leb (step_count j) most_steps

-- no "variable with too few enclosing picks" is "met while reading down from the recipe"
abbrev pub program_scoped : Job → Bool
program_scoped j = scoped 0 (program_of j)
