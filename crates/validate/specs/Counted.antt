-- Position sets in code: marks, their count, and the marked positions in the order in which they
-- were marked.
use Rattle.std.specs.Prelude.{ℕ, zero, suc, ◌≤◌, ◌<◌, ◌≡◌, Bool, true, false, ◌||◌, List, eqb, length, get_or}
use Rattle.limits.specs.Limits.{most_positions}
use Rattle.semantics.specs.PositionSets.{Marked, count}

-- whether q is one of the first n members
unfoldable pub among : List ℕ → ℕ → ℕ → Bool
among members zero q = false
among members (suc n) q = eqb (get_or members n 0) q || among members n q

-- a mark for each position, n of them set, and the first n members are the marked positions
pub record Counted (marks : List Bool) (members : List ℕ) (n : ℕ) : Type 0 where
  pub size : length marks ≡ most_positions
  pub room : length members ≡ most_positions
  pub counted : n ≡ count marks
  pub few : n ≤ most_positions
  pub marked : (i : ℕ) → i < n → Marked marks (get_or members i 0)
  pub listed : (q : ℕ) → Marked marks q → among members n q ≡ true
