use Rattle.compiled.specs.StepIndex.{Linked, StepsRead}
use Rattle.compiled.proofs.index.StepIndex.of.Given as goal

abbrev pub invariant-loop-k : goal.invariant-loop-k
invariant-loop-k l = Linked l.list l.k l.last l.steps × StepsRead l.list l.k l.steps
