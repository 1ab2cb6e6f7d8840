-- "The sample and its printout": what the judge prints where nothing is refused.
use Rattle.std.specs.Prelude.{ℕ, ◌≡◌, List, [], ◌∷◌, ◌++◌, length}
use Rattle.semantics.specs.CompilingTable.{Step, arc, kind_of, arg_of}
use Rattle.semantics.specs.Judgement.{Judgement, Finds}
use Rattle.load.specs.View.{View, view_steps, positions_of}
use Rattle.report.specs.Printout.{line, step_line, judgement_lines}

-- a line for each step, in their order
unfoldable pub lines_of : List Step → List ℕ
lines_of [] = []
lines_of (arc l from to ∷ L) = step_line (kind_of l) from to (arg_of l) ++ lines_of L

-- the compiled job
abbrev pub compiled_job_lines : View → List ℕ
compiled_job_lines v = line "positions" (positions_of v) ++ line "steps" (length (view_steps v)) ++ lines_of (view_steps v)

-- and a judgement that holds of the moves
pub record Printed (v : View) (printout : List ℕ) : Type 0 where
  pub judgement : Judgement
  pub finds : Finds v.domain v.program v.entries judgement
  pub prints : printout ≡ compiled_job_lines v ++ judgement_lines judgement
