-- The plans of a short job in their order: the first one, and the next one after a list of moves.
use Rattle.std.specs.Prelude.{ℕ, ◌≤◌, List, length}
use Rattle.std.specs.Prelude.{Option, None, Some}
use Rattle.std.proofs.lemmas.List.Edits.{sets}
use Rattle.semantics.specs.Program.{Program}
use Rattle.semantics.specs.Domain.{Domain}
use Rattle.semantics.specs.Plan.{Allowed}
use Rattle.semantics.specs.Order.{Before}

-- a plan "within length L"
pub record Within (D : Domain) (σ : Program) (most : ℕ) (ms : List ℕ) : Type 0 where
  pub allowed : Allowed D σ ms
  pub few : length ms ≤ most

-- such a plan after a list, which "need not be a plan"
pub record After (D : Domain) (σ : Program) (most : ℕ) (given ms : List ℕ) : Type 0 where
  pub plan : Within D σ most ms
  pub after : Before given ms

-- of the lists that P holds of, the one that comes before all others
pub record Earliest (P : List ℕ → Type 0) (ms : List ℕ) : Type 0 where
  pub holds : P ms
  pub first : (ks : List ℕ) → P ks → Before ks ms → ⊥

-- its length or none is answered, and a list holds it then: "The plan goes into a list of eight
-- numbers, unused places unchanged"; "None means that no later plan within L exists, and writes
-- nothing."
pub data Lists (P : List ℕ → Type 0) (old : List ℕ) : Option ℕ → List ℕ → Type 0 where
  lists : {ms : List ℕ} → Earliest P ms → Lists P old (Some (length ms)) (sets old 0 ms)
  lists_none : ((ks : List ℕ) → P ks → ⊥) → Lists P old None old
