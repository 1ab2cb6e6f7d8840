-- A check's promise with its outcome equated with a definition.
use Rattle.std.specs.Prelude.{ℕ, ◌≡◌, List, length}
use Rattle.semantics.specs.Verdict.{Verdict}
use Rattle.semantics.specs.PositionSets.{verdict_by}
use Rattle.semantics.specs.StepVerdict.{step_verdict}
use Rattle.load.specs.Refusals.{Checked, passed, next}
use Rattle.load.specs.View.{View, view_steps, final_of, positions_of, view_in}
use Rattle.load.specs.declared.request.Sort.{Sort}
use Rattle.load.specs.declared.request.Sort.TheVariants.{Moves, Steps}
use Rattle.jesmovit.specs.Texts.{Texts}
use Rattle.jesmovit.specs.Outcomes.{check_outcome}
use Rattle.jesmovit.specs.Compiling.{list_in}
use Rattle.jesmovit.specs.Checking.{checking}
use Rattle.jesmovit.specs.Outcomes.{CheckResult}

-- on moves by sets of positions, on steps by the configuration that they lead to
abbrev pub verdict_for : Sort → View → Verdict
verdict_for Moves v = verdict_by (positions_of v) v.domain v.program v.entries
verdict_for Steps v = step_verdict v.domain (view_steps v) (final_of v) v.entries

-- the verdict, where nothing is refused
abbrev pub checked_as : Sort → Checked View → Checked Verdict
checked_as sort c = next c (λ v. passed (verdict_for sort v))

-- "each outcome is equated with a definition wherever it can be"
pub record CheckEquals (sort : Sort) (t : Texts) (list : List ℕ) (answer : CheckResult) (after : List ℕ) : Type 0 where
  pub outcome : check_outcome answer ≡ checked_as sort (view_in (checking sort t (length list)))
  pub holds : after ≡ list_in (view_in (checking sort t (length list))) list
