use Rattle.std.proofs.Common.{arith}
use Rattle.layout.specs.Sheet.{page_lines}
use Rattle.layout.proofs.LayingLaws.{laying_start, filling_more, filling_end}
use Rattle.layout.proofs.sheet.fill_page.Goals as goal

pub loop-i-init : goal.loop-i-init
loop-i-init c = laying_start _ _ _

pub loop-i-preserved : goal.loop-i-preserved
loop-i-preserved c =
    filling_more c.args.count (page_lines c.args.count) c.loop-i.invariant (omega (arith, c.page_lines-i-end.ensures)) c.requires.room c.put_blank.ensures

pub returns : goal.returns
returns c = filling_end c.args.count (page_lines c.args.count) c.loop-i.invariant (omega (arith, c.page_lines-i-end.ensures))
