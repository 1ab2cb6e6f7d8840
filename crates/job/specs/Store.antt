-- What the store of a task stands for: a head of numbers, and in one list the job's rows of eight
-- numbers each, every sort from a row of its own on, and the class costs behind them.
use Rattle.std.specs.Prelude.{ℕ, zero, suc, ◌+◌, ◌*◌, List, [], ◌∷◌, ◌++◌, get_or, take, drop, Option, option_map}
use Rattle.std.specs.Prelude.{Option}
use Rattle.limits.specs.Limits.{most_formulas, most_moves, most_effects, most_program, class_count}
use Rattle.job.specs.Job as J
use Rattle.job.specs.Job.{Job, formula_of, move_of, effect_of, row_of}
use Rattle.job.specs.Task.{Task}
use Rattle.job.specs.Line.{form_of}
use Rattle.job.specs.declared.head.Head.{Head}
use Rattle.job.specs.declared.line.Line.{Line}
use Rattle.job.specs.declared.stored.Formula.{Formula}
use Rattle.job.specs.declared.stored.Move.{Move}
use Rattle.job.specs.declared.stored.Effect.{Effect}
use Rattle.job.specs.declared.stored.ProgramRow.{ProgramRow}

-- how many numbers a row has
abbrev pub width : ℕ
width = 8

-- the numbers of a move's row that say how many effects it has, and which of all is its first
abbrev pub effect_count : ℕ
effect_count = 2

abbrev pub first_effect : ℕ
first_effect = 7

-- where the rows of each sort begin, how many rows there are in all, where the class costs begin,
-- and how many numbers they all take
abbrev pub formulas_from : ℕ
formulas_from = 0

abbrev pub moves_from : ℕ
moves_from = most_formulas

abbrev pub effects_from : ℕ
effects_from = moves_from + most_moves

abbrev pub program_from : ℕ
program_from = effects_from + most_effects

abbrev pub all_rows : ℕ
all_rows = program_from + most_program

abbrev pub costs_from : ℕ
costs_from = all_rows * width

abbrev pub store_size : ℕ
store_size = costs_from + class_count

-- row i of a list of rows
abbrev pub row_at : List ℕ → ℕ → List ℕ
row_at l i =
    get_or l (i * width) 0 ∷ get_or l (i * width + 1) 0 ∷ get_or l (i * width + 2) 0 ∷ get_or l (i * width + 3) 0
    ∷ get_or l (i * width + 4) 0 ∷ get_or l (i * width + 5) 0 ∷ get_or l (i * width + 6) 0 ∷ get_or l (i * width + 7) 0 ∷ []

-- n rows from row `first` on, as f reads them
unfoldable pub rows_from : {A : Type 0} → (List ℕ → A) → List ℕ → ℕ → ℕ → List A
rows_from f l first zero = []
rows_from f l first (suc n) = rows_from f l first n ++ (f (row_at l (first + n)) ∷ [])

-- a move's row has the number of its first effect, too
abbrev pub stored_move : List ℕ → J.Move
stored_move r = move_of (get_or r first_effect 0) r

abbrev pub job_of : Head → List ℕ → Job
job_of h l = record {
  scalars = J.scalars h.counts.facts h.init h.goal h.counts.objects;
  formulas = rows_from formula_of l formulas_from h.counts.formulas;
  moves = rows_from stored_move l moves_from h.counts.moves;
  effects = rows_from effect_of l effects_from h.counts.effects;
  program = rows_from row_of l program_from h.counts.program;
}

abbrev pub stored_costs : List ℕ → List ℕ
stored_costs l = take class_count (drop costs_from l)

abbrev pub task_of : Head → List ℕ → Task
task_of h l = record { job = job_of h l; costs = stored_costs l }

-- the rows that the code reads by name
abbrev pub formula_in : Formula → J.Formula
formula_in r = record { kind = r.kind; a = r.a; b = r.b }

abbrev pub move_in : Move → J.Move
move_in r = record {
  pre = r.pre;
  class = r.class;
  effects = r.effects;
  when = r.when;
  second = r.second;
  first = r.first;
}

abbrev pub effect_in : Effect → J.Effect
effect_in r = record { cond = r.cond; fact = r.fact; value = r.value }

abbrev pub row_in : ProgramRow → J.Row
row_in r = record { kind = r.kind; a = r.a; b = r.b; c = r.c }

-- a line's numbers, as many as its sort has
abbrev pub list_of : Line → List ℕ → List ℕ
list_of next r = take (form_of next).width r

abbrev pub numbers_of : Line → Option (List ℕ) → Option (List ℕ)
numbers_of next r = option_map (list_of next) r
