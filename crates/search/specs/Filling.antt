-- The cost table, swept state by state.
use Rattle.std.specs.Prelude.{ℕ, ◌≤◌, ◌<◌, ◌≡◌, Bool, true, List, Option, ltb, length, ◌⊎◌, get_or, drop}
use Rattle.std.specs.Bool.{then_some}
use Rattle.semantics.specs.CostTable.{unreached}
use Rattle.semantics.specs.Domain.{Domain}
use Rattle.semantics.specs.Cells.{Graph, cell, Runs, Relaxed}

-- the first n cells are unreached, the later ones as they were
pub record Cleared (n : ℕ) (old new : List ℕ) : Type 0 where
  pub size : length new ≡ length old
  pub clear : (k : ℕ) → k < n → get_or new k 0 ≡ unreached
  pub later : drop n new ≡ drop n old

-- nothing is left to follow
pub record Exhausted (G : Graph) (T T' : List ℕ) : Type 0 where
  pub runs : Runs G T T'
  pub relaxed : Relaxed G (λ i l s p z. z < unreached) T'

-- r is the least entry at position e of the first n states where the goal holds, or unreached
pub record Lowest (D : Domain) (positions : ℕ) (T : List ℕ) (e n r : ℕ) : Type 0 where
  pub top : r ≤ unreached
  pub below : (s : ℕ) → s < n → D.goal s ≡ true → r ≤ get_or T (cell positions s e) 0
  pub from : (r ≡ unreached) ⊎ ((s : ℕ) × (s < n) × (D.goal s ≡ true) × (get_or T (cell positions s e) 0 ≡ r))

-- the lesser of `least` and x, if the goal holds
pub data Lower (goal : Bool) (least x : ℕ) : ℕ → Type 0 where
  kept : (goal ≡ true → least ≤ x) → Lower goal least x least
  lower : goal ≡ true → x < least → Lower goal least x x

-- an entry as a cost, or none where it is unreached
abbrev pub least_in : ℕ → Option ℕ
least_in n = then_some (ltb n unreached) n
