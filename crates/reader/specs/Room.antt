-- What holds while a job is read: there is room for the rows that may still come.
use Rattle.std.specs.Prelude.{ℕ, ◌+◌, ◌*◌, ◌≤◌, ◌<◌, ◌≡◌}
use Rattle.limits.specs.Limits.{most_facts, most_formulas, most_moves, most_move_effects, most_effects, most_objects, most_program}
use Rattle.job.specs.declared.head.Counts.{Counts}
use Rattle.job.specs.declared.line.Line.{Line}
use Rattle.job.specs.declared.line.Line.TheVariants.{One, Of, End}
use Rattle.job.specs.declared.line.Heading.{Heading}
use Rattle.job.specs.declared.line.Heading.TheVariants.{Job, Facts, Init, Formulas, Moves, Goal, Objects, Program}
use Rattle.job.specs.declared.line.RowSort.TheVariants.{Formula, Move, Effect, Row}

-- how many rows of each sort may still come
pub record Ahead : Type 0 where
  pub formulas : ℕ
  pub moves : ℕ
  pub effects : ℕ
  pub program : ℕ

abbrev may : ℕ → ℕ → ℕ → ℕ → Ahead
may formulas moves effects program = record { formulas = formulas; moves = moves; effects = effects; program = program }

-- before a line of one number
abbrev pub ahead_one : Heading → Ahead
ahead_one Job = may most_formulas most_moves most_effects most_program
ahead_one Facts = may most_formulas most_moves most_effects most_program
ahead_one Init = may most_formulas most_moves most_effects most_program
ahead_one Formulas = may most_formulas most_moves most_effects most_program
ahead_one Moves = may 0 most_moves most_effects most_program
ahead_one Goal = may 0 0 0 most_program
ahead_one Objects = may 0 0 0 most_program
ahead_one Program = may 0 0 0 most_program

-- by the line that comes next, with so many rows of its sort due and so many effects of the last
-- move
abbrev pub ahead : Line → ℕ → ℕ → Ahead
ahead (One h) due effects = ahead_one h
ahead (Of Formula) due effects = may due most_moves most_effects most_program
ahead (Of Move) due effects = may 0 due (effects + most_move_effects * due) most_program
ahead (Of Effect) due effects = may 0 due (effects + most_move_effects * due) most_program
ahead (Of Row) due effects = may 0 0 0 due
ahead End due effects = may 0 0 0 0

pub record RowsFit (a : Ahead) (c : Counts) : Type 0 where
  pub formulas : c.formulas + a.formulas ≤ most_formulas
  pub moves : c.moves + a.moves ≤ most_moves
  pub effects : c.effects + a.effects ≤ most_effects
  pub program : c.program + a.program ≤ most_program

-- a row is due where a row's line comes next, and no effect but where an effect does
abbrev pub Due : Line → ℕ → ℕ → Type 0
Due (One h) due effects = effects ≡ 0
Due (Of Formula) due effects = (0 < due) × (effects ≡ 0)
Due (Of Move) due effects = (0 < due) × (effects ≡ 0)
Due (Of Effect) due effects = 0 < effects
Due (Of Row) due effects = (0 < due) × (effects ≡ 0)
Due End due effects = effects ≡ 0

pub record Room (next : Line) (due effects : ℕ) (c : Counts) : Type 0 where
  pub facts : c.facts ≤ most_facts
  pub objects : c.objects ≤ most_objects
  pub fit : RowsFit (ahead next due effects) c
  pub owed : Due next due effects
