use Rattle.std.proofs.Common.{◌≡◌, ◌+◌, ◌*◌, map, take}
use Rattle.semantics.specs.CompilingTable.{flat}
use Rattle.compile.specs.Laid.{arc_of, LaidOver}
use Rattle.compile.proofs.writing.put_steps.Given as goal

abbrev pub invariant-loop-step : goal.invariant-loop-step
invariant-loop-step l =
    (l.next ≡ l.initial.next + l.step-index * 4) × LaidOver (flat (map arc_of (take l.step-index l.steps))) l.initial.list l.initial.next l.list l.next
