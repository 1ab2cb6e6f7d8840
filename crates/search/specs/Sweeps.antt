-- A state's cells of the cost table while it is swept.
use Rattle.std.specs.Prelude.{ℕ, suc, ◌*◌, ◌+◌, ◌-◌, ◌<◌, ◌≡◌, Bool, true, false, List, get_or}
use Rattle.semantics.specs.CostTable.{unreached}
use Rattle.semantics.specs.Cells.{Graph, Claim, total, sum}
use Rattle.domain.specs.Domain.{domain_at}
use Rattle.compiled.specs.StepList.{steps_on}
use Rattle.compiled.specs.declared.CompiledJob.{CompiledJob}

-- a compiled job's cells and the steps between them
abbrev pub graph_of : CompiledJob → Graph
graph_of job = record { domain = domain_at job.task; steps = steps_on job.list.now; positions = job.positions }

-- what falls with each sweep: the entries, and where they stay, the distance of the n keys from
-- `unreached`
abbrev pub potential : ℕ → List ℕ → List ℕ → ℕ
potential n T queue = sum T * suc unreached + total (λ x. unreached - x) queue n

-- the steps from cells with an entry below their state's key
abbrev pub Keyed : List ℕ → Claim
Keyed queue i l s p z = z < get_or queue s 0

-- of state w only those of which Q holds: position and entry
abbrev pub Only : List ℕ → ℕ → (ℕ → ℕ → Type 0) → Claim
Only queue w Q i l s p z = (z < get_or queue s 0) × (s ≡ w → Q p z)

-- cells with nothing to follow: those with an entry below k, those that are reached before position
-- `next`, and those that are marked
pub data Processed (k next : ℕ) (marks : List Bool) (r z : ℕ) : Type 0 where
  below : z < k → Processed k next marks r z
  passed : r < next → z < unreached → Processed k next marks r z
  marked : get_or marks r false ≡ true → Processed k next marks r z
