-- The cost table of a compiled job while it is filled.
use Rattle.std.specs.Prelude.{◌≡◌}
use Rattle.semantics.specs.Cells.{Graph, Relaxed}
use Rattle.search.specs.declared.table.Table.{Table}
use Rattle.search.specs.Sweeps.{graph_of, Keyed}
use Rattle.search.specs.Relaxation.{Better}

-- the graph of its job
abbrev pub graph_in : Table → Graph
graph_in table = graph_of table.job

-- nothing but costs and keys may have changed
pub record Keeps (old new : Table) : Type 0 where
  pub job : new.job ≡ old.job
  pub same_reference : new.costs.ghost_name ≡ old.costs.ghost_name

-- the steps are followed from all cells with an entry below their state's key
abbrev pub Followed : Table → Type 0
Followed t = Relaxed (graph_in t) (Keyed t.queue.now) t.costs.now

abbrev pub Improved : Table → Table → Type 0
Improved t t' = Better (graph_in t) t.costs.now t.queue.now t'.costs.now t'.queue.now
