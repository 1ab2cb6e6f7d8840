use Rattle.std.proofs.Common.{arith}
use Rattle.search.proofs.FillLaws.{settling_start, settling_more, settling_end, settling_followed, chosen_some}
use Rattle.search.proofs.fill.settle.Goals as goal

pub loop-state-init : goal.loop-state-init
loop-state-init c = settling_start c.requires

pub sweep_state-requires-clause-inside : goal.sweep_state-requires-clause-inside
sweep_state-requires-clause-inside c =
    omega (arith, (chosen_some c.choose.ensures c.in-Some.is).0, c.loop-state.table.keys)

pub sweep_state-requires-clause-due : goal.sweep_state-requires-clause-due
sweep_state-requires-clause-due c = (chosen_some c.choose.ensures c.in-Some.is).1

pub sweep_state-requires-clause-followed : goal.sweep_state-requires-clause-followed
sweep_state-requires-clause-followed c = settling_followed c.loop-state.invariant

pub loop-state-preserved : goal.loop-state-preserved
loop-state-preserved c =
    let x = c.sweep_state.ensures in
    settling_more {t' = c.sweep_state.new.table} c.loop-state.invariant x.improved
    (record { job = x.keeps.job; same_reference = x.keeps.same_reference })

pub returns-clause-exhausted : goal.returns-clause-exhausted
returns-clause-exhausted c =
    settling_end c.loop-state.invariant c.choose.ensures c.in_default.is
