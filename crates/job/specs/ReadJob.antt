-- What reading a text as a job answers.
use Rattle.std.specs.Prelude.{ℕ, ◌+◌, ◌-◌, Bool, true, false, cond, List, [], ◌∷◌, eqb, length, get_or}
use Rattle.std.specs.Prelude.{unwrap_or}
use Rattle.text.specs.Lines.{lines}
use Rattle.job.specs.Job as J
use Rattle.job.specs.Job.{add_formula, add_move, add_effect, add_row, scalars, with_scalars, formula_of, move_of, effect_of, row_of, counts_of}
use Rattle.job.specs.Line.{line_numbers}
use Rattle.job.specs.Fault.{fault}
use Rattle.job.specs.declared.line.Heading.{Heading}
use Rattle.job.specs.declared.line.Heading.TheVariants.{Job, Facts, Init, Formulas, Moves, Goal, Objects, Program}
use Rattle.job.specs.declared.line.RowSort.{RowSort}
use Rattle.job.specs.declared.line.RowSort.TheVariants.{Formula, Move, Effect, Row}
use Rattle.job.specs.declared.line.Line.{Line}
use Rattle.job.specs.declared.line.Line.TheVariants.{One, Of, End}

-- a text that is being read: the line that comes next, how many rows are due by the number of the
-- last line of one number, how many effects of the last move are due, and the job so far
pub record Reading : Type 0 where
  pub next : Line
  pub due : ℕ
  pub effects : ℕ
  pub job : J.Job

abbrev pub on : Line → ℕ → ℕ → J.Job → Reading
on next due effects job = record { next = next; due = due; effects = effects; job = job }

-- what comes once no more rows are due, and a row of which sort while they are: moves follow a
-- move's effects
abbrev pub past : RowSort → Line
past Formula = One Moves
past Move = One Goal
past Effect = One Goal
past Row = End

abbrev pub again : RowSort → RowSort
again Formula = Formula
again Move = Move
again Effect = Move
again Row = Row

-- "`formulas=N` … then N lines"; "Each is a line … followed by its E lines"; "`program=P` … then P
-- lines"
abbrev pub after_row : RowSort → ℕ → ℕ → Line
after_row k due effects = cond (eqb effects 0) (cond (eqb due 0) (past k) (Of (again k))) (Of Effect)

-- what comes after a line of one number n
abbrev pub after_one : Heading → ℕ → Line
after_one Job n = One Facts
after_one Facts n = One Init
after_one Init n = One Formulas
after_one Formulas n = after_row Formula n 0
after_one Moves n = after_row Move n 0
after_one Goal n = One Objects
after_one Objects n = One Program
after_one Program n = after_row Row n 0

-- the scalars after it
abbrev pub scalars_after : Heading → ℕ → J.Scalars → J.Scalars
scalars_after Job n s = s
scalars_after Facts n s = scalars n s.init s.goal s.objects
scalars_after Init n s = scalars s.facts n s.goal s.objects
scalars_after Formulas n s = s
scalars_after Moves n s = s
scalars_after Goal n s = scalars s.facts s.init n s.objects
scalars_after Objects n s = scalars s.facts s.init s.goal n
scalars_after Program n s = s

-- after a row: how many rows of its sort, and how many effects of the last move, are due, and the
-- job
abbrev pub due_after : RowSort → ℕ → ℕ
due_after Formula due = due - 1
due_after Move due = due - 1
due_after Effect due = due
due_after Row due = due - 1

abbrev pub effects_after : RowSort → ℕ → List ℕ → ℕ
effects_after Formula effects r = effects
effects_after Move effects r = get_or r 2 0
effects_after Effect effects r = effects - 1
effects_after Row effects r = effects

abbrev pub job_after : RowSort → J.Job → List ℕ → J.Job
job_after Formula j r = add_formula j (formula_of r)
job_after Move j r = add_move j (move_of (length j.effects) r)
job_after Effect j r = add_effect j (effect_of r)
job_after Row j r = add_row j (row_of r)

-- the numbers of a right line taken in
abbrev pub taken_one : Heading → Reading → ℕ → Reading
taken_one h s n = on (after_one h n) n s.effects (with_scalars s.job (scalars_after h n s.job.scalars))

abbrev pub taken_row : RowSort → Reading → List ℕ → Reading
taken_row k s r =
    on (after_row k (due_after k s.due) (effects_after k s.effects r)) (due_after k s.due) (effects_after k s.effects r) (job_after k s.job r)

abbrev pub taken_at : Line → Reading → List ℕ → Reading
taken_at (One h) s r = taken_one h s (get_or r 0 0)
taken_at (Of k) s r = taken_row k s r
taken_at End s r = s

unfoldable pub taken : Reading → List ℕ → Reading
taken s r = taken_at s.next s r

-- read: how many lines there are, and the job; refused: number and place
pub data Outcome : Type 0 where
  read : ℕ → J.Job → Outcome
  refused : ℕ → ℕ → Outcome

abbrev pub is_end : Line → Bool
is_end (One h) = false
is_end (Of k) = false
is_end End = true

-- "A missing line's place is one past the last."
unfoldable pub ended : ℕ → Reading → Outcome
ended n s = cond (is_end s.next) (read n s.job) (refused 1 (n + 1))

-- "The first bad line decides": reading goes on after n lines
unfoldable pub read_from : ℕ → Reading → List (List ℕ) → Outcome
read_from n s [] = ended n s
read_from n s (line ∷ rest) =
    let numbers = line_numbers s.next line in
    let reason = fault s.next (counts_of s.job) numbers in
    cond (eqb reason 0) (read_from (n + 1) (taken s (unwrap_or numbers [])) rest) (refused reason (n + 1))

abbrev pub begun : Reading
begun = on (One Job) 0 0 (record { scalars = scalars 0 0 0 0; formulas = []; moves = []; effects = []; program = [] })

unfoldable pub read_job : List ℕ → Outcome
read_job text = read_from 0 begun (lines text)
