use Rattle.layout.proofs.LayingLaws.{Lining}
use Rattle.layout.proofs.sheet.put_lines.Given as goal

abbrev pub invariant-loop-i : goal.invariant-loop-i
invariant-loop-i l = Lining l.task l.plan l.initial.out l.out l.state l.total l.i
