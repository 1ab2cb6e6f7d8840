-- Position sets that grow along steps.
use Rattle.std.specs.Prelude.{ℕ, ◌≤◌, ◌<◌, ◌≡◌, Bool, true, List, get_or, set}
use Rattle.semantics.specs.Label.{Label}
use Rattle.semantics.specs.CompilingTable.{Step}
use Rattle.semantics.specs.Path.{StepAt}
use Rattle.semantics.specs.PositionSets.{Marked}
use Rattle.std.specs.Fn.{Shared}
use Rattle.compiled.specs.Steps.{label_of}
use Rattle.compiled.specs.declared.steps.OutStep.{OutStep}
use Rattle.validate.specs.declared.position_set.PositionSet.{PositionSet}

-- T has the members of S, at their places
pub record Keeping (S T : PositionSet) : Type 0 where
  pub kept : (i : ℕ) → i < S.count → get_or T.members i 0 ≡ get_or S.members i 0
  pub more : S.count ≤ T.count

-- position q marked too
pub record Marking (q : ℕ) (S T : PositionSet) : Type 0 where
  pub keeping : Keeping S T
  pub is : T.marks ≡ set S.marks q true

-- where a mark comes from: it was there, or a step from p that is on leads to it
pub data Source (on : Label → Bool) (L : List Step) (p : ℕ) (S : List Bool) (q : ℕ) : Type 0 where
  old : Marked S q → Source on L p S q
  new : {k : ℕ} {l : Label} → StepAt L k p l q → on l ≡ true → Source on L p S q

-- marks added to those of S by steps from p
pub record Added (on : Label → Bool) (L : List Step) (p : ℕ) (S T : PositionSet) : Type 0 where
  pub keeping : Keeping S T
  pub grown : (q : ℕ) → Marked S.marks q → Marked T.marks q
  pub only : (q : ℕ) → Marked T.marks q → Source on L p S.marks q

-- all that steps from p add
pub record Followed (on : Label → Bool) (L : List Step) (p : ℕ) (S T : PositionSet) : Type 0 where
  pub added : Added on L p S T
  pub ends : (k q : ℕ) (l : Label) → StepAt L k p l q → on l ≡ true → Marked T.marks q

-- a closure that answers whether a step's label is on
abbrev pub Tests : {F : Type 0} → Shared F (OutStep × Unit {0}) Bool → F → (Label → Bool) → Type 0
Tests g f on = (step : OutStep) (r : Bool) → g.post f (step, tt) r → r ≡ on (label_of step)

-- the same by a closure, for whatever labels it is that it answers to be on
abbrev pub Follows : {F : Type 0} → Shared F (OutStep × Unit {0}) Bool → F → List Step → ℕ → PositionSet → PositionSet → Type 0
Follows g f L p S T = (on : Label → Bool) → Tests g f on → Followed on L p S T
