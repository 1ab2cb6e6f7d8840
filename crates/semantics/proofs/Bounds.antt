-- Bounds of states, positions and costs.
-- Assumes nothing.
use Prim.Native.Nat.{ℕ, ◌≤◌, ◌<◌}
use mathlib.Core.Path.{◌≡◌}
use Rattle.std.specs.Prelude.{Some}
use mathlib.Core.List.{List}
use native.Mathlib.Omega.{arith}
use Rattle.semantics.specs.Label.{Label}
use Rattle.semantics.specs.Domain.{Domain}
use Rattle.semantics.specs.Path.{Does, idles, passes, refutes, moves_on, StepAt}
use Rattle.semantics.specs.Plan.{cost}
use Rattle.semantics.specs.Cells.{Graph}
use Rattle.semantics.proofs.CostLaws.{cost_one}

-- states stay below their count, and no move costs more than `most`
pub record Bounded (D : Domain) (most : ℕ) : Type 0 where
  pub start : D.start < D.states
  pub successors : (m s t : ℕ) → s < D.states → D.successor m s ≡ Some t → t < D.states
  pub costs : (m s : ℕ) → D.cost m s ≤ most

-- steps stay between the positions, and states and costs within their bounds
pub record Closed (G : Graph) (most : ℕ) : Type 0 where
  pub bounded : Bounded G.domain most
  pub within : (i p q : ℕ) (l : Label) → StepAt G.steps i p l q → (p < G.positions) × (q < G.positions)

-- what a step does leads to a state, and costs no more than one move may
pub does_bounded : {D : Domain} {most : ℕ} {l : Label} {s t : ℕ} {ks : List ℕ} → Bounded D most → s < D.states → Does D l s ks t
    → (t < D.states) × (cost D s ks ≤ most)
unfolding cost
does_bounded b h idles = (h, omega arith)
does_bounded b h (passes k) = (h, omega arith)
does_bounded b h (refutes k) = (h, omega arith)
does_bounded {D} b h (moves_on {a} {s} {t} k) = (b.successors a s t h k, omega (arith, cost_one D s t a k, b.costs a s))
