-- A state that is swept, and the table meanwhile.
use Rattle.std.specs.Prelude.{ℕ, ◌≡◌}
use Rattle.semantics.specs.Cells.{Relaxed}
use Rattle.compiled.specs.declared.explored.Arrival.{Arrival}
use Rattle.compiled.specs.declared.steps.OutStep.{OutStep}
use Rattle.search.specs.declared.table.Table.{Table}
use Rattle.search.specs.declared.sweep.Sweep.{Sweep}
use Rattle.search.specs.Sweeps.{Only, Processed}
use Rattle.search.specs.Table.{graph_in}
use Rattle.search.specs.Relaxation.{Relaxing, Stepped, Scanned}

-- the state that is swept
abbrev pub swept : Sweep → ℕ
swept s = s.explored.world.state

-- the same state, with the same key
pub record SameState (old new : Sweep) : Type 0 where
  pub world : new.explored.world ≡ old.explored.world
  pub key : new.key ≡ old.key

abbrev pub Relaxes : Table → Sweep → ℕ → Arrival → ℕ → Table → Sweep → ℕ → Type 0
Relaxes t s x target next t' s' r = Relaxing (graph_in t) (swept s) x target next t.costs.now t.queue.now s.marks t'.costs.now t'.queue.now s'.marks r

abbrev pub Steps : Table → Sweep → ℕ → OutStep → ℕ → Table → Sweep → ℕ → Type 0
Steps t s x step next t' s' r = Stepped (graph_in t) (swept s) x step next t.costs.now t.queue.now s.marks t'.costs.now t'.queue.now s'.marks r

abbrev pub Scans : Table → Sweep → ℕ → Table → Sweep → ℕ → Type 0
Scans t s p t' s' r = Scanned (graph_in t) (swept s) s.key p t.costs.now t.queue.now t'.costs.now t'.queue.now s'.marks r

-- the steps are followed from the cells before position p
abbrev pub FollowedTo : Table → Sweep → ℕ → Type 0
FollowedTo t s p = Relaxed (graph_in t) (Only t.queue.now (swept s) (Processed s.key p s.marks)) t.costs.now
