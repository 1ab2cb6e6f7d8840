-- Document 01's number and values for each case of each answer: "A refusal returns its number and
-- place".
use Rattle.std.specs.Prelude.{ℕ, Option, Result}
use Rattle.job.specs.declared.head.Counts.{Counts}
use Rattle.job.specs.declared.refusal.Refusal.{Refusal}
use Rattle.semantics.specs.Verdict as S
use Rattle.semantics.specs.Judgement as J
use Rattle.compile.specs.declared.sizes.Sizes.{Sizes}
use Rattle.validate.specs.Verdict.{verdict_of}
use Rattle.validate.specs.declared.verdict.Verdict.{Verdict}
use Rattle.load.specs.Refusals.{Checked}
use Rattle.load.specs.Loaded.{checked_as}
use Rattle.jesmovit.specs.declared.judging.Judgement as Judgement
use Rattle.jesmovit.specs.declared.judging.Judged.{Judged}
use Rattle.jesmovit.specs.declared.laying.SheetAnswer as Sheet

-- what each operation answers
abbrev pub ReadResult : Type 0
ReadResult = Result Counts Refusal

abbrev pub CompileResult : Type 0
CompileResult = Result Sizes Refusal

abbrev pub CheckResult : Type 0
CheckResult = Result Verdict Refusal

abbrev pub LeastResult : Type 0
LeastResult = Result (Option ℕ) Refusal

abbrev pub JudgeResult : Type 0
JudgeResult = Result Judged Refusal

abbrev pub SheetResult : Type 0
SheetResult = Result Sheet.SheetAnswer Refusal

-- reading: the job's counts
abbrev pub read_outcome : ReadResult → Checked Counts
read_outcome answer = checked_as (λ counts. counts) answer

-- compiling: how many positions and steps there are
abbrev pub compile_outcome : CompileResult → Checked Sizes
compile_outcome answer = checked_as (λ sizes. sizes) answer

-- a check: one of the verdicts, with its values
abbrev pub check_outcome : CheckResult → Checked S.Verdict
check_outcome answer = checked_as verdict_of answer

-- the least cost: "the cost, or none"
abbrev pub least_outcome : LeastResult → Checked (Option ℕ)
least_outcome answer = checked_as (λ cost. cost) answer

-- "least or dearer with both costs; for others … the check's verdict"
abbrev pub judgement_of : Judgement.Judgement → J.Judgement
judgement_of (Judgement.TheVariants.Least cost) = J.least cost
judgement_of (Judgement.TheVariants.Dearer cost low) = J.dearer cost low
judgement_of (Judgement.TheVariants.Other v) = J.other (verdict_of v)

-- judging: the sizes of the compiled job, and the judgement
pub record SizedJudgement : Type 0 where
  pub sizes : Sizes
  pub judgement : J.Judgement

abbrev pub judge_outcome : JudgeResult → Checked SizedJudgement
judge_outcome answer = checked_as (λ j. record { sizes = j.sizes; judgement = judgement_of j.judgement }) answer

-- how much is written for a plan; of a list that isn't a plan the verdict
pub data WriteOutcome : Type 0 where
  wrote : ℕ → WriteOutcome
  said : S.Verdict → WriteOutcome

abbrev pub written_as : Sheet.SheetAnswer → WriteOutcome
written_as (Sheet.TheVariants.Laid bytes) = wrote bytes
written_as (Sheet.TheVariants.Said v) = said (verdict_of v)

abbrev pub sheet_outcome : SheetResult → Checked WriteOutcome
sheet_outcome answer = checked_as written_as answer
