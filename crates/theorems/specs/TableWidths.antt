-- Entries of cost tables of any width.
use Rattle.std.specs.Prelude.{ℕ, ◌<◌, List}
use Rattle.semantics.specs.Domain.{Domain}
use Rattle.semantics.specs.CompilingTable.{Step}
use Rattle.semantics.specs.Path.{Path}
use Rattle.semantics.specs.CostTable.{LeastTo}

-- what a table has for a state and a position, whose number for what can't be reached is `far`: in
-- document 01 4,294,967,295
pub data EntryBelow (far : ℕ) (D : Domain) (L : List Step) (s p : ℕ) : ℕ → Type 0 where
  fitted : {c : ℕ} → c < far → LeastTo D L s p c → EntryBelow far D L s p c
  unreachable : ((is ms : List ℕ) → Path D L D.start 0 is ms s p → ⊥) → EntryBelow far D L s p far
