use Rattle.search.specs.Sweeps.{potential}
use Rattle.search.specs.Table.{graph_in}
use Rattle.search.proofs.FillLaws.{Settling}
use Rattle.search.proofs.fill.settle.Given as goal

abbrev pub invariant-loop-state : goal.invariant-loop-state
invariant-loop-state l = Settling l.initial.table l.table

abbrev pub decreases-loop-state : goal.decreases-loop-state
decreases-loop-state l = potential (graph_in l.initial.table).domain.states l.table.costs.now l.table.queue.now
