-- The numbers of each answer for C, from its outcome.
use Rattle.std.specs.Prelude.{ℕ, [], ◌∷◌}
use Rattle.std.specs.Prelude.{Option, None, Some}
use Rattle.job.specs.declared.head.Counts.{Counts}
use Rattle.semantics.specs.Verdict.{Verdict, plan, blocked, unfinished, missed}
use Rattle.semantics.specs.Judgement.{Judgement, least, dearer, other}
use Rattle.compile.specs.declared.sizes.Sizes.{Sizes}
use Rattle.load.specs.Refusals.{Checked, passed, refused}
use Rattle.jesmovit.specs.Outcomes.{read_outcome, compile_outcome, check_outcome, least_outcome, judge_outcome, WriteOutcome, wrote, said, sheet_outcome}
use Rattle.std.specs.Prelude.{Result}
use Rattle.job.specs.declared.refusal.Refusal.{Refusal}
use Rattle.validate.specs.declared.verdict.Verdict as V
use Rattle.jesmovit.specs.declared.judging.Judged.{Judged}
use Rattle.jesmovit.specs.declared.laying.SheetAnswer.{SheetAnswer}
use Rattle.capi.specs.declared.numbers.Numbers.{Numbers}
use Rattle.capi.specs.declared.numbers.Coded.{Coded}

-- nothing is refused: 0, and five values
abbrev pub done : ℕ → ℕ → ℕ → ℕ → ℕ → Numbers
done a b c d e = record { number = 0; values = a ∷ b ∷ c ∷ d ∷ e ∷ [] }

-- "A refusal returns its number and place"
abbrev pub refusal_numbers : ℕ → ℕ → Numbers
refusal_numbers number place = record { number = number; values = place ∷ 0 ∷ 0 ∷ 0 ∷ 0 ∷ [] }

-- of an outcome, by what is said of the value
abbrev pub outcome_numbers : {B : Type 0} → (B → Numbers) → Checked B → Numbers
outcome_numbers say (passed b) = say b
outcome_numbers say (refused number place) = refusal_numbers number place

abbrev pub coded : ℕ → ℕ → ℕ → Coded
coded number first second = record { number = number; first = first; second = second }

-- the verdicts, numbered from 0 in the order of "Verdicts": "plan, with its cost", "blocked i",
-- "unfinished", "goal missed"
abbrev pub verdict_code : Verdict → Coded
verdict_code (plan cost) = coded 0 cost 0
verdict_code (blocked i) = coded 1 i 0
verdict_code unfinished = coded 2 0 0
verdict_code missed = coded 3 0 0

-- and on: "adds least or dearer with both costs; for others it repeats the check's verdict"
abbrev pub judgement_code : Judgement → Coded
judgement_code (least cost) = coded 4 cost cost
judgement_code (dearer cost low) = coded 5 cost low
judgement_code (other v) = verdict_code v

abbrev pub count_numbers : Counts → Numbers
count_numbers c = done c.facts c.formulas c.moves c.effects c.program

abbrev pub size_numbers : Sizes → Numbers
size_numbers s = done s.positions s.steps 0 0 0

abbrev pub code_numbers : Coded → Numbers
code_numbers o = done o.number o.first 0 0 0

-- and on: "answers the cost, or none"
abbrev pub cost_numbers : Option ℕ → Numbers
cost_numbers (Some cost) = done 6 cost 0 0 0
cost_numbers None = done 7 0 0 0 0

-- and on: the bytes of a sheet; "A list that isn't a plan gives its verdict"
abbrev pub laid_numbers : WriteOutcome → Numbers
laid_numbers (wrote bytes) = done 8 bytes 0 0 0
laid_numbers (said v) = code_numbers (verdict_code v)

abbrev pub judged_numbers : Sizes → Coded → Numbers
judged_numbers s o = done s.positions s.steps o.number o.first o.second

abbrev pub read_numbers : Result Counts Refusal → Numbers
read_numbers a = outcome_numbers count_numbers (read_outcome a)

abbrev pub compile_numbers : Result Sizes Refusal → Numbers
compile_numbers a = outcome_numbers size_numbers (compile_outcome a)

abbrev pub check_numbers : Result V.Verdict Refusal → Numbers
check_numbers a = outcome_numbers (λ v. code_numbers (verdict_code v)) (check_outcome a)

abbrev pub least_numbers : Result (Option ℕ) Refusal → Numbers
least_numbers a = outcome_numbers cost_numbers (least_outcome a)

abbrev pub judge_numbers : Result Judged Refusal → Numbers
judge_numbers a = outcome_numbers (λ g. judged_numbers g.sizes (judgement_code g.judgement)) (judge_outcome a)

abbrev pub sheet_numbers : Result SheetAnswer Refusal → Numbers
sheet_numbers a = outcome_numbers laid_numbers (sheet_outcome a)
