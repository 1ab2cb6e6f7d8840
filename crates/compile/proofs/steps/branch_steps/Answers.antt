use Rattle.std.proofs.Common.{add-one, refl}
use Rattle.semantics.specs.CompilingTable.{branch_steps}
use Rattle.compile.proofs.steps.branch_steps.Goals as goal

pub returns : goal.returns
unfolding branch_steps
returns c =
    let labels = c.guard_labels-first.ensures in
    (rw (← labels.0, ← labels.1, ← (add-one c.args.n), ← (add-one c.args.p), ← (add-one c.args.from.position)) c.put_steps.ensures, refl)
