-- Steps as code reads them.
use Rattle.std.specs.Prelude.{ℕ, Bool, true, false, not, List, get_or}
use Rattle.semantics.specs.Label.{Label, noop, holds, fails, make}
use Rattle.compile.specs.Label as C
use Rattle.semantics.specs.Path.{StepAt}
use Rattle.compiled.specs.StepList.{steps_on, start_in}
use Rattle.compiled.specs.declared.steps.OutStep.{OutStep}

abbrev pub label_of : OutStep → Label
label_of step = C.label_of step.label

-- step k of a list
abbrev pub IsStep : List ℕ → ℕ → OutStep → Type 0
IsStep list k step = StepAt (steps_on list) k (start_in list k) (label_of step) step.to

-- silent steps that can be made, by the formulas' values
unfoldable pub silent_by : List Bool → Label → Bool
silent_by values noop = true
silent_by values (holds a) = get_or values a false
silent_by values (fails a) = not (get_or values a false)
silent_by values (make a) = false
