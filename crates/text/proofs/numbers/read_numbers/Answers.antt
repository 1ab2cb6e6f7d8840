use Rattle.std.proofs.Common.{sym, ◌∙◌, ap}
use Rattle.text.specs.Numbers.{numbers_outcome}
use Rattle.text.specs.Progress.{partial_of}
use Rattle.text.proofs.NumberLaws.{read_all, not_done}
use Rattle.text.proofs.numbers.read_numbers.Goals as goal

pub returns-in-Done : goal.returns-in-Done
returns-in-Done c =
    let l = c.loop-b in
    ap (λ q. numbers_outcome (partial_of q l.out)) (sym c.in-Done.is) ∙ sym (read_all c.args.value.now _ l.b-index l.p l.out l.invariant.1 c.loop-b-test.false)

pub returns-in_default : goal.returns-in_default
returns-in_default c =
    let l = c.loop-b in
    sym (read_all c.args.value.now _ l.b-index l.p l.out l.invariant.1 c.loop-b-test.false ∙ not_done l.p l.out c.in_default.not-Done)
