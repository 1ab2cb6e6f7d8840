use Rattle.std.proofs.Common.{refl, arith}
use Rattle.search.proofs.GraphLaws.{graph_closed}
use Rattle.search.proofs.SweepLaws.{sweep_begins, sweep_ends, sweep_followed, sweep_goes_on}
use Rattle.search.proofs.sweep.sweep_state.Goals as goal

pub loop-p-init : goal.loop-p-init
loop-p-init c =
    let t = c.args.table.now in
    record {
      keeps = record { job = refl; same_reference = refl };
      same = record { world = refl; key = refl };
      sweeping = sweep_begins t.queue.now c.at.ensures.1 c.take.ensures.key c.take.ensures.taken (omega (arith, c.requires.inside, t.keys)) c.requires.followed;
    }

pub scan-p-requires-clause-followed : goal.scan-p-requires-clause-followed
scan-p-requires-clause-followed c = sweep_followed c.loop-p.invariant

pub loop-p-preserved : goal.loop-p-preserved
loop-p-preserved c =
    sweep_goes_on c.loop-p.invariant c.scan-p.ensures.scans c.scan-p.ensures.same_state c.scan-p.ensures.keeps

pub returns-clause-improved : goal.returns-clause-improved
returns-clause-improved c =
    let t = c.args.table.now in
    sweep_ends t.queue.now c.at.ensures.1 c.take.ensures.key c.take.ensures.taken (omega (arith, c.requires.inside, t.keys)) (graph_closed t.job)
    c.requires.inside c.requires.due c.loop-p.invariant.sweeping c.loop-p-test.false
