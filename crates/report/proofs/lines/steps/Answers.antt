use Rattle.std.proofs.Common.{arith}
use Rattle.std.proofs.lemmas.List.{length-take}
use Rattle.report.proofs.StepLaws.{step_put, steps_put}
use Rattle.report.proofs.lines.steps.Goals as goal

pub returns-clause-text : goal.returns-clause-text
returns-clause-text c =
    let all = c.as_chunks in
    steps_put c.args.list.now all.result.0.now c.loop-kind.kind-index _ _ c.loop-kind.invariant.text (grind (arith, length-take, all.ensures.front_len))

pub loop-kind-preserved : goal.loop-kind-preserved
loop-kind-preserved c =
    let all = c.as_chunks.ensures in
    record { text = step_put _ _ _ _ _ c.loop-kind.invariant.text all.front all.front_len c.loop-kind-test.true c.line.ensures.text; short = omega arith }
