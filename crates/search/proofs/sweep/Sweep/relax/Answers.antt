use Rattle.std.proofs.Common.{◌≡◌, ◌+◌, arith}
use Rattle.compiled.proofs.ReadyLaws.{positions_few}
use Rattle.search.specs.Relaxation.{kept, within, lowered}
use Rattle.search.proofs.sweep.Sweep.relax.Goals as goal

pub returns-then-table-i-clause-relaxes : goal.returns-then-table-i-clause-relaxes
returns-then-table-i-clause-relaxes c = kept (rw (← c.cell-i.ensures.0) (omega arith))

pub returns-then-t-self-clause-relaxes : goal.returns-then-t-self-clause-relaxes
returns-then-t-self-clause-relaxes c =
    let e : c.saturating_add-sum.result ≡ c.args.x + c.args.target.cost = omega arith in
    rw (c.cell-i.ensures.0, e) (lowered (rw (← c.cell-i.ensures.0) (omega arith)) (rw e at c.lower.ensures))

pub bounds-self-p : goal.bounds-self-p
bounds-self-p c = omega (arith, c.requires.position_inside, positions_few c.args.table.now.job.ready)

pub returns-clause-relaxes : goal.returns-clause-relaxes
returns-clause-relaxes c =
    let e : c.saturating_add-sum.result ≡ c.args.x + c.args.target.cost = omega arith in
    rw (c.cell-i.ensures.0, e) (within {r = c.min.result} (rw (← c.cell-i.ensures.0) (omega arith)) c.if-t-self.false (omega arith) (omega arith))
