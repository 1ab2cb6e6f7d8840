use Rattle.std.proofs.Common.{◌-◌, replicate}
use Rattle.layout.specs.Sheet.{blank_line, page_lines}
use Rattle.layout.proofs.LayingLaws.{Laying}
use Rattle.layout.proofs.sheet.fill_page.Given as goal

abbrev pub invariant-loop-i : goal.invariant-loop-i
invariant-loop-i l =
    Laying l.count (replicate (page_lines l.count - l.count) blank_line) (replicate (page_lines l.count - l.i) blank_line) l.initial.out l.out l.i
