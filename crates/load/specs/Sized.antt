-- The sizes that come with a loaded job are its compiled job's, which is within the limits.
use Rattle.std.specs.Prelude.{◌≡◌, true}
use Rattle.job.specs.Job.{Job}
use Rattle.compile.specs.CompiledJob.{position_count, step_count, fits, program_scoped}
use Rattle.compile.specs.declared.sizes.Sizes.{Sizes}

pub record Sized (j : Job) (sizes : Sizes) : Type 0 where
  pub scoped : program_scoped j ≡ true
  pub fit : fits j ≡ true
  pub positions : sizes.positions ≡ position_count j
  pub steps : sizes.steps ≡ step_count j
