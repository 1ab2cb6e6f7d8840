use native.Mathlib.Omega.{arith}
use Rattle.jesmovit.proofs.WritingLaws.{lay_none, plan_need, lay_short, lay_sheet}
use Rattle.jesmovit.proofs.laying.lay_out.Goals as goal

pub returns-then-out-need : goal.returns-then-out-need
returns-then-out-need c =
    lay_short c.args.job.now.task.stored c.requires.entries_below _ _ c.args.verdict c.requires.says
    c.bytes_needed-need.ensures c.if-out-need.true c.too_short.ensures

pub returns-in_default : goal.returns-in_default
returns-in_default c =
    lay_none c.args.job.now.task.stored c.requires.entries_below _ _ c.args.verdict c.requires.says
    c.in_default.not-Plan c.compile.ensures

pub returns : goal.returns
returns c =
    lay_sheet c.args.job.now.task.stored c.requires.entries_below _ _ c.args.verdict c.requires.says
    c.bytes_needed-need.ensures c.in-Plan.is (omega (arith, c.if-out-need.false)) c.compile.ensures c.put_sheet.ensures
