-- A job as its rows: "Rows of each sort count from 0."
use Rattle.std.specs.Prelude.{ℕ, List, [], ◌∷◌, ◌++◌, length, get_or}
use Rattle.job.specs.declared.head.Counts.{Counts}
use Rattle.job.specs.declared.stored as S

-- the rows are those that the code reads. `f=kind,a,b`
abbrev pub Formula : Type 0
Formula = S.Formula.Formula

-- `m=pre,class,E,formula,class`: "its first class, plus the second where the formula holds", which is
-- `when`; its effects are E of the job's effects, from number `first` on
abbrev pub Move : Type 0
Move = S.Move.Move

-- `e=cond,fact,value`
abbrev pub Effect : Type 0
Effect = S.Effect.Effect

-- `p=kind,a,b,c`: a row of the program (document 01: recipe)
abbrev pub Row : Type 0
Row = S.ProgramRow.ProgramRow

pub record Scalars : Type 0 where
  pub facts : ℕ
  pub init : ℕ
  pub goal : ℕ
  pub objects : ℕ

pub record Job : Type 0 where
  pub scalars : Scalars
  pub formulas : List Formula
  pub moves : List Move
  pub effects : List Effect
  pub program : List Row

abbrev pub scalars : ℕ → ℕ → ℕ → ℕ → Scalars
scalars facts init goal objects = record { facts = facts; init = init; goal = goal; objects = objects }

-- how many there are of each
abbrev pub counts : ℕ → ℕ → ℕ → ℕ → ℕ → ℕ → Counts
counts facts formulas moves effects objects program = record {
  facts = facts;
  formulas = formulas;
  moves = moves;
  effects = effects;
  objects = objects;
  program = program;
}

abbrev pub counts_of : Job → Counts
counts_of j = counts j.scalars.facts (length j.formulas) (length j.moves) (length j.effects) j.scalars.objects (length j.program)

-- rows from their numbers
abbrev pub formula_of : List ℕ → Formula
formula_of r = record { kind = get_or r 0 0; a = get_or r 1 0; b = get_or r 2 0 }

abbrev pub move_of : ℕ → List ℕ → Move
move_of first r = record {
  pre = get_or r 0 0;
  class = get_or r 1 0;
  effects = get_or r 2 0;
  when = get_or r 3 0;
  second = get_or r 4 0;
  first = first;
}

abbrev pub effect_of : List ℕ → Effect
effect_of r = record { cond = get_or r 0 0; fact = get_or r 1 0; value = get_or r 2 0 }

abbrev pub row_of : List ℕ → Row
row_of r = record { kind = get_or r 0 0; a = get_or r 1 0; b = get_or r 2 0; c = get_or r 3 0 }

-- the numbers of a move's line and of an effect's
abbrev pub move_numbers : Move → List ℕ
move_numbers m = m.pre ∷ m.class ∷ m.effects ∷ m.when ∷ m.second ∷ []

abbrev pub effect_numbers : Effect → List ℕ
effect_numbers e = e.cond ∷ e.fact ∷ e.value ∷ []

-- row i of its sort
abbrev pub formula_at : Job → ℕ → Formula
formula_at j i = get_or j.formulas i (formula_of [])

abbrev pub move_at : Job → ℕ → Move
move_at j i = get_or j.moves i (move_of 0 [])

abbrev pub effect_at : Job → ℕ → Effect
effect_at j i = get_or j.effects i (effect_of [])

abbrev pub program_row_at : Job → ℕ → Row
program_row_at j i = get_or j.program i (row_of [])

-- a job of these parts; a job with a row more, or with other scalars
abbrev pub job_with : Scalars → List Formula → List Move → List Effect → List Row → Job
job_with s fs ms es ps = record { scalars = s; formulas = fs; moves = ms; effects = es; program = ps }

abbrev pub add_formula : Job → Formula → Job
add_formula j f = job_with j.scalars (j.formulas ++ (f ∷ [])) j.moves j.effects j.program

abbrev pub add_move : Job → Move → Job
add_move j m = job_with j.scalars j.formulas (j.moves ++ (m ∷ [])) j.effects j.program

abbrev pub add_effect : Job → Effect → Job
add_effect j e = job_with j.scalars j.formulas j.moves (j.effects ++ (e ∷ [])) j.program

abbrev pub add_row : Job → Row → Job
add_row j r = job_with j.scalars j.formulas j.moves j.effects (j.program ++ (r ∷ []))

abbrev pub with_scalars : Job → Scalars → Job
with_scalars j s = job_with s j.formulas j.moves j.effects j.program
