-- The least cost as the search answers it, in the view's words.
-- Assumes nothing.
use Prim.Native.Nat.{ℕ}
use mathlib.Core.Path.{◌≡◌, subst}
use mathlib.Core.List.{List}
use Rattle.std.specs.Prelude.{Option}
use Rattle.semantics.specs.Domain.{Domain}
use Rattle.semantics.specs.CompilingTable.{Step}
use Rattle.semantics.specs.CostTable.{Filled, LeastOr, found, no_plan}
use Rattle.load.specs.View.{View}
use Rattle.jesmovit.specs.Judging.{LeastIs, costs, no_plan as none_is}

-- a table by its measured positions
pub table_of : {D : Domain} {L : List Step} {positions n : ℕ} {old new : List ℕ} → positions ≡ n → Filled D L positions old new → Filled D L n old new
table_of {D} {L} {old = old} {new} e x = subst (λ (k : ℕ). Filled D L k old new) e x

pub lowest_is : (v : View) {o : Option ℕ} → LeastOr v.domain v.program o → LeastIs v o
lowest_is v (found h x) = costs x
lowest_is v (no_plan h) = none_is h
