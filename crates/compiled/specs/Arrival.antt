-- Where a step leads, as the code's answer says it.
use Rattle.std.specs.Prelude.{Option, None, Some}
use Rattle.semantics.specs.Machine as M
use Rattle.semantics.specs.StepVerdict.{Configuration, arrival}
use Rattle.compiled.specs.declared.explored.Arrival.{Arrival}

abbrev pub arrival_of : Option Arrival → Option (M.Arrival Configuration)
arrival_of None = None
arrival_of (Some a) = Some (arrival a.state a.position a.cost)
