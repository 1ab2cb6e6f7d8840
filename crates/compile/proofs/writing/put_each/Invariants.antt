use Rattle.std.proofs.Common.{◌≡◌, ℕ, ◌+◌, ◌*◌}
use Rattle.semantics.specs.CompilingTable.{Step as Arc, flat}
use Rattle.compile.specs.Laid.{each, Gives, LaidOver}
use Rattle.compile.proofs.writing.put_each.Given as goal

abbrev pub invariant-loop-k : goal.invariant-loop-k
invariant-loop-k g l =
    (l.next ≡ l.initial.next + l.k * 4)
    × ((f : ℕ → Arc) → Gives (goal.F-post g l.step) l.count f → LaidOver (flat (each l.k f)) l.initial.list l.initial.next l.list l.next)
