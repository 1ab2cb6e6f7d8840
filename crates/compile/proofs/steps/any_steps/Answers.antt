use Rattle.std.proofs.Common.{◌+◌, refl, rules}
use Rattle.semantics.specs.Label.{make}
use Rattle.semantics.specs.CompilingTable.{arc}
use Rattle.compile.proofs.LaidLaws.{moves_each}
use Rattle.compile.proofs.steps.any_steps.Goals as goal

pub returns : goal.returns
returns c =
    let n = c.args.from.position in
    (rw (← (moves_each c.args.moves n)) (c.put_each.ensures.laid (λ m. arc (make m) n (n + 1)) (λ k s h p. search rules)), refl)
