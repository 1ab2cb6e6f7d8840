use Rattle.std.proofs.Common.{sym, arith}
use Rattle.layout.proofs.LayingLaws.{lining_fits, lining_stop, lining_more, lining_end}
use Rattle.layout.proofs.sheet.put_lines.Goals as goal

pub put_line-requires-clause-fits : goal.put_line-requires-clause-fits
put_line-requires-clause-fits c =
    lining_fits _ _ c.requires.entries_below c.loop-i.invariant c.loop-i-test.true (rw (c.at-world.ensures.0, c.at-world.ensures.1) at c.cost-cost.ensures.0)

pub returns-in_default : goal.returns-in_default
returns-in_default c =
    let cost = rw (c.at-world.ensures.0, c.at-world.ensures.1) at c.cost-cost.ensures.0 in
    let stops = rw (c.in_default.is, c.at-world.ensures.0, c.at-world.ensures.1) at c.successor.ensures.after in
    let z = lining_stop _ _ c.requires.entries_below c.loop-i.invariant c.loop-i-test.true cost c.requires.room c.put_line.ensures (sym stops) in
    record { lines = z.0; count = z.1; within = omega arith }

pub loop-i-preserved : goal.loop-i-preserved
loop-i-preserved c =
    let cost = rw (c.at-world.ensures.0, c.at-world.ensures.1) at c.cost-cost.ensures.0 in
    let goes = rw (c.in-Some.is, c.at-world.ensures.0, c.at-world.ensures.1) at c.successor.ensures.after in
    lining_more _ _ c.requires.entries_below c.loop-i.invariant c.loop-i-test.true cost c.requires.room c.put_line.ensures c.in-Some.next (sym goes)

pub returns : goal.returns
returns c =
    let z = lining_end _ _ c.loop-i.i c.loop-i.invariant (omega arith) in
    record { lines = z.0; count = omega (arith, z.1); within = omega arith }
