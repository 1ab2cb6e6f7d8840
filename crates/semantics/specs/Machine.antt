-- The verdict of a machine that takes the entries of a list, one after another.
use Rattle.std.specs.Prelude.{ℕ, suc, ◌+◌, Bool, cond, List, [], ◌∷◌}
use Rattle.std.specs.Prelude.{Option, None, Some}
use Rattle.semantics.specs.Domain.{Domain}
use Rattle.semantics.specs.Verdict.{Verdict, plan, blocked, unfinished, missed}

-- where an entry leads, and what it costs
pub record Arrival (C : Type 0) : Type 0 where
  pub to : C
  pub cost : ℕ

pub record Machine : Type 1 where
  pub Config : Type 0
  -- none where the entry can't be made
  pub take : Config → ℕ → Option (Arrival Config)
  pub state : Config → ℕ
  -- whether the program may be completed here
  pub complete : Config → Bool

-- a list's verdict, from that of the list without its first entry, which costs c
unfoldable pub onward : ℕ → Verdict → Verdict
onward c (plan d) = plan (c + d)
onward c (blocked i) = blocked (suc i)
onward c unfinished = unfinished
onward c missed = missed

-- where all entries are made: the program is completed or not, the goal holds or not
unfoldable pub finished : Bool → Bool → Verdict
finished complete goal = cond complete (cond goal (plan 0) missed) unfinished

-- the verdict on a list of entries from a configuration
unfoldable pub verdict_from : (D : Domain) (M : Machine) → M.Config → List ℕ → Verdict
verdict_from D M c [] = finished (M.complete c) (D.goal (M.state c))
verdict_from D M c (x ∷ xs) = elim (M.take c x) [
  | None ↦ blocked 0
  | Some a ↦ onward a.cost (verdict_from D M a.to xs)
]
