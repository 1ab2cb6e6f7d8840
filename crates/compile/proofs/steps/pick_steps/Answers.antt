use Rattle.std.proofs.Common.{◌+◌, ◌*◌, refl, rules}
use Rattle.semantics.specs.Label.{noop}
use Rattle.semantics.specs.CompilingTable.{arc}
use Rattle.compile.proofs.LaidLaws.{laid_pick}
use Rattle.compile.proofs.steps.pick_steps.Goals as goal

pub returns : goal.returns
returns c =
    let n = c.args.n in
    let a = c.args.apart in
    let into = c.put_each-entered.ensures.laid (λ k. arc noop n (n + 1 + a * k)) (λ k s h p. search rules) in
    let out = c.put_each-left.ensures.laid (λ k. arc noop (n + a + a * k) (n + 1 + a * c.args.objects)) (λ k s h p. search rules) in
    (laid_pick c.args.objects n a into out, refl)
