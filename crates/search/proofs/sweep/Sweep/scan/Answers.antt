use Rattle.std.proofs.Common.{ℕ, IsTrue, get_or, refl, ap, arith}
use Rattle.compiled.proofs.ReadyLaws.{positions_few}
use Rattle.search.proofs.GraphLaws.{graph_closed}
use Rattle.search.proofs.RelaxationLaws.{world_inside, scanned_none, scanning_start, scanning_end}
use Rattle.search.proofs.SweepLaws.{scan_falls, scan_goes_on}
use Rattle.search.proofs.sweep.Sweep.scan.Goals as goal

pub is_due-requires : goal.is_due-requires
is_due-requires c = omega (arith, c.requires.inside, positions_few c.args.table.now.job.ready)

pub returns-then-not-is_due-clause-scans : goal.returns-then-not-is_due-clause-scans
returns-then-not-is_due-clause-scans c =
    let s = c.args.self.now in
    let t = c.args.table.now in
    let here = ap (λ (i : ℕ). get_or t.costs.now i 0) c.cell-i.ensures.0 in
    scanned_none t.job s.explored.world.state s.key c.args.p (world_inside t.job s.explored.world c.requires.same_task s.explored.inside) c.requires.inside t.cells
    s.marks (omega arith) c.requires.followed here (λ y. let h : IsTrue c.is_due.result = c.is_due.ensures.1 y in absurd (cc))

pub bounds-self-p : goal.bounds-self-p
bounds-self-p c = omega (arith, c.requires.inside, positions_few c.args.table.now.job.ready)

pub last_from-left-requires : goal.last_from-left-requires
last_from-left-requires c = omega (arith, c.requires.inside, positions_few c.args.table.now.job.ready)

pub loop-left-init : goal.loop-left-init
loop-left-init c =
    let s = c.args.self.now in
    let t = c.args.table.now in
    let here = ap (λ (i : ℕ). get_or t.costs.now i 0) c.cell-i.ensures.0 in
    let on : IsTrue c.is_due.result = cc in
    record {
      keeps = record { job = refl; same_reference = refl };
      same = record { world = refl; key = refl };
      scanning = scanning_start t.job s.explored.world.state s.key c.args.p (world_inside t.job s.explored.world c.requires.same_task s.explored.inside)
          c.requires.inside t.cells s.marks (omega arith) c.requires.followed here (c.is_due.ensures.0 on).1 c.last_from-left.ensures;
    }

pub follow-next-requires-clause-inside : goal.follow-next-requires-clause-inside
follow-next-requires-clause-inside c =
    ((graph_closed c.loop-left.table.job).within _ _ _ _ c.step-step.ensures).1

pub loop-left-smaller : goal.loop-left-smaller
loop-left-smaller c =
    scan_falls c.loop-left.invariant c.in-Some.is _ c.step-step.ensures c.follow-next.ensures.keeps c.before-left.ensures

pub loop-left-preserved : goal.loop-left-preserved
loop-left-preserved c =
    let s = c.args.self.now in
    let t = c.args.table.now in
    scan_goes_on c.loop-left.invariant c.in-Some.is _ c.step-step.ensures c.follow-next.ensures.keeps c.before-left.ensures
    (world_inside t.job s.explored.world c.requires.same_task s.explored.inside) c.requires.inside
    c.follow-next.ensures.steps c.follow-next.ensures.same_state

pub returns-clause-scans : goal.returns-clause-scans
returns-clause-scans c =
    let s = c.args.self.now in
    let t = c.args.table.now in
    scanning_end t.job s.explored.world.state s.key c.args.p (world_inside t.job s.explored.world c.requires.same_task s.explored.inside) c.requires.inside t.cells
    c.loop-left.invariant.scanning c.in_default.is
