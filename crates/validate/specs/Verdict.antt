-- Document 01's verdict and its values for each case of the answer.
use Rattle.semantics.specs.Verdict as S
use Rattle.semantics.specs.Verdict.{plan, blocked, unfinished, missed}
use Rattle.validate.specs.declared.verdict.Verdict.{Verdict}
use Rattle.validate.specs.declared.verdict.Verdict.TheVariants.{Plan, Blocked, Unfinished, Missed}

abbrev pub verdict_of : Verdict → S.Verdict
verdict_of (Plan cost) = plan cost
verdict_of (Blocked i) = blocked i
verdict_of Unfinished = unfinished
verdict_of Missed = missed
