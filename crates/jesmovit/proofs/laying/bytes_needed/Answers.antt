use mathlib.Core.Path.{sym, ◌∙◌, ap}
use Rattle.validate.specs.Verdict.{verdict_of}
use Rattle.jesmovit.specs.Writing.{bytes_for}
use Rattle.jesmovit.proofs.WritingLaws.{other_asks}
use Rattle.jesmovit.proofs.laying.bytes_needed.Goals as goal

pub returns-in-Plan : goal.returns-in-Plan
returns-in-Plan c = c.sheet_size-size.ensures ∙ sym (ap (λ v. bytes_for (verdict_of v) c.args.count) c.in-Plan.is)

pub returns-in_default : goal.returns-in_default
returns-in_default c = other_asks c.args.verdict c.in_default.not-Plan c.args.count
