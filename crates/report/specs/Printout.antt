-- "The sample and its printout": what the programs print, a line each.
use Rattle.std.specs.Prelude.{ℕ, ◌*◌, List, [], ◌∷◌, ◌++◌, take}
use Prim.Native.String.{String}
use Rattle.std.specs.Prelude.{Option, None, Some}
use Rattle.text.specs.Bytes.{bytes}
use Rattle.text.specs.Written.{written, line_text}
use Rattle.job.specs.declared.head.Counts.{Counts}
use Rattle.semantics.specs.Verdict.{Verdict, plan, blocked, unfinished, missed}
use Rattle.semantics.specs.Judgement.{Judgement, least, dearer, other}
use Rattle.load.specs.Refusals.{Checked, passed, refused}
use Rattle.jesmovit.specs.Outcomes.{read_outcome, compile_outcome, check_outcome, least_outcome, judge_outcome, WriteOutcome, wrote, said, sheet_outcome}
use Rattle.std.specs.Prelude.{Result}
use Rattle.job.specs.declared.refusal.Refusal.{Refusal}
use Rattle.compile.specs.declared.sizes.Sizes.{Sizes}
use Rattle.validate.specs.declared.verdict.Verdict as V
use Rattle.jesmovit.specs.declared.judging.Judged.{Judged}
use Rattle.jesmovit.specs.declared.laying.SheetAnswer.{SheetAnswer}

-- `key=number`
abbrev pub line : String → ℕ → List ℕ
line key n = line_text (bytes key) (n ∷ [])

-- "An `s` line is kind, from, to, arg."
abbrev pub step_line : ℕ → ℕ → ℕ → ℕ → List ℕ
step_line kind from to arg = line_text (bytes "s") (kind ∷ from ∷ to ∷ arg ∷ [])

-- a line for each four numbers
unfoldable pub step_lines : List ℕ → List ℕ
step_lines [] = []
step_lines (a ∷ []) = []
step_lines (a ∷ b ∷ []) = []
step_lines (a ∷ b ∷ c ∷ []) = []
step_lines (a ∷ b ∷ c ∷ d ∷ list) = step_line a b c d ++ step_lines list

-- "`positions=3` `steps=2` `s=3,0,1,0` `s=3,1,2,1`": the steps stand at the list's front
abbrev pub compiled_lines : ℕ → ℕ → List ℕ → List ℕ
compiled_lines positions steps list = line "positions" positions ++ line "steps" steps ++ step_lines (take (steps * 4) list)

-- "A refusal prints only `refused=number,place`."
abbrev pub refused_line : ℕ → ℕ → List ℕ
refused_line number place = line_text (bytes "refused") (number ∷ place ∷ [])

-- of an outcome, by the lines of its value
abbrev pub printout : {B : Type 0} → (B → List ℕ) → Checked B → List ℕ
printout lines_of (passed b) = lines_of b
printout lines_of (refused number place) = refused_line number place

-- "`answer=blocked,i`, `answer=unfinished` or `answer=missed`"; a check says of a plan its cost,
-- and that it is one
abbrev pub verdict_lines : Verdict → List ℕ
verdict_lines (plan cost) = line "cost" cost ++ bytes "answer=plan\n"
verdict_lines (blocked i) = bytes "answer=blocked," ++ written (i ∷ [])
verdict_lines unfinished = bytes "answer=unfinished\n"
verdict_lines missed = bytes "answer=missed\n"

-- "`cost=25` `least=25`"
abbrev pub cost_lines : ℕ → ℕ → List ℕ
cost_lines cost low = line "cost" cost ++ line "least" low

-- "`answer=least`"; "A dearer plan differs in the numbers and `answer=dearer`; other verdicts
-- replace the last three lines"
abbrev pub judgement_lines : Judgement → List ℕ
judgement_lines (least cost) = cost_lines cost cost ++ bytes "answer=least\n"
judgement_lines (dearer cost low) = cost_lines cost low ++ bytes "answer=dearer\n"
judgement_lines (other v) = verdict_lines v

-- the least cost, or that there is none
abbrev pub least_lines : Option ℕ → List ℕ
least_lines (Some cost) = line "least" cost
least_lines None = bytes "answer=none\n"

-- the sheet, which stands at the output's front; or what a check says
abbrev pub written_lines : List ℕ → WriteOutcome → List ℕ
written_lines output (wrote count) = take count output
written_lines output (said v) = verdict_lines v

-- a job's counts
abbrev pub count_lines : Counts → List ℕ
count_lines c =
    line "facts" c.facts ++ line "formulas" c.formulas ++ line "moves" c.moves ++ line "effects" c.effects
    ++ line "objects" c.objects ++ line "program" c.program

-- "The judge program prints"
abbrev pub judge_printout : Result Judged Refusal → List ℕ → List ℕ
judge_printout a list =
    printout (λ g. compiled_lines g.sizes.positions g.sizes.steps list ++ judgement_lines g.judgement) (judge_outcome a)

-- the other programs' printouts, in the same lines
abbrev pub compile_printout : Result Sizes Refusal → List ℕ → List ℕ
compile_printout a list = printout (λ s. compiled_lines s.positions s.steps list) (compile_outcome a)

abbrev pub least_printout : Result (Option ℕ) Refusal → List ℕ
least_printout a = printout least_lines (least_outcome a)

abbrev pub check_printout : Result V.Verdict Refusal → List ℕ
check_printout a = printout verdict_lines (check_outcome a)

abbrev pub read_printout : Result Counts Refusal → List ℕ
read_printout a = printout count_lines (read_outcome a)

-- the output is the buffer that the sheet was written into
abbrev pub sheet_printout : Result SheetAnswer Refusal → List ℕ → List ℕ
sheet_printout a output = printout (written_lines output) (sheet_outcome a)
