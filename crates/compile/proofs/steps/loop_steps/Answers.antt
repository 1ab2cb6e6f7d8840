use Rattle.std.proofs.Common.{add-one, refl}
use Rattle.semantics.specs.CompilingTable.{while_steps, star_steps}
use Rattle.compile.proofs.steps.loop_steps.Goals as goal
use Rattle.compile.proofs.steps.loop_steps.Goals.{in-Free, in-On}

pub returns : goal.returns
unfolding while_steps star_steps
returns c = elim c.match-guard.branch [
  | in-Free w ↦ (rw (w.in-Free.is, ← (add-one c.args.n), ← (add-one c.args.from.position)) (rw w.steps-is at c.put_steps.ensures), refl)
  | in-On w ↦ (rw (w.in-On.is, ← (add-one c.args.n), ← (add-one c.args.from.position)) (rw w.steps-is at c.put_steps.ensures), refl)
]
