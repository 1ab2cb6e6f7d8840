use Rattle.compiled.specs.StepIndex.{link_of}
use Rattle.search.proofs.SweepLaws.{ScanGoes}
use Rattle.search.proofs.sweep.Sweep.scan.Given as goal

abbrev pub invariant-loop-left : goal.invariant-loop-left
invariant-loop-left l = ScanGoes l.initial.table l.initial.self l.table l.self l.x l.p l.next l.left

abbrev pub decreases-loop-left : goal.decreases-loop-left
decreases-loop-left l = link_of l.left
