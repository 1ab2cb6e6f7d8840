use Rattle.std.proofs.Common.{arith, refl}
use Rattle.compiled.proofs.IndexLaws.{linked_none, linked_more, read_none, read_more}
use Rattle.compiled.proofs.index.StepIndex.of.Goals as goal

pub loop-k-init : goal.loop-k-init
loop-k-init c = (linked_none _, read_none _)

pub loop-k-preserved : goal.loop-k-preserved
loop-k-preserved c =
    let x = c.loop-k.invariant in (
      linked_more _ _ _ _ _ _ refl x.0 (omega (arith, c.requires.few)) c.start_at-from.ensures (omega (arith, c.start_at-from.ensures, c.requires.from)),
      read_more _ _ _ _ x.1 (omega (arith, c.requires.few)) c.step_at-step.ensures,
    )
