-- What every job that is read keeps: ranges, references that fall, unused fields that are 0.
use Rattle.std.specs.Prelude.{ℕ, ◌+◌, ◌≤◌, ◌<◌, ◌≡◌, List, [], ◌∷◌, length, get_or}
use Rattle.limits.specs.Limits.{most_facts, most_formulas, most_moves, most_effects, most_objects, most_program}
use Rattle.job.specs.StateCount.{state_count}
use Rattle.job.specs.Job.{Job, Formula, Move, Effect, Row, counts, formula_of, move_of, effect_of, row_of, move_numbers, effect_numbers}
use Rattle.job.specs.Fields.{formula_fields, move_fields, effect_fields, row_fields, Within}
use Rattle.job.specs.declared.head.Counts.{Counts}

-- P holds of each row at its number
abbrev pub Every : {A : Type 0} → A → (ℕ → A → Type 0) → List A → Type 0
Every d P l = (i : ℕ) → i < length l → P i (get_or l i d)

-- what formulas, moves and effects may refer to: so many facts and formulas, of a formula those before it
abbrev pub beside : ℕ → ℕ → Counts
beside facts formulas = counts facts formulas 0 0 0 0

abbrev pub FormulaRows : ℕ → List Formula → Type 0
FormulaRows facts = Every (formula_of []) (λ i f. Within (beside facts i) (get_or formula_fields f.kind []) (f.a ∷ f.b ∷ []))

abbrev pub MoveRows : ℕ → ℕ → List Move → Type 0
MoveRows facts formulas = Every (move_of 0 []) (λ i m. Within (beside facts formulas) move_fields (move_numbers m))

-- the effects of the moves stand move after move, from number `first` on, and are all before number
-- `last`
abbrev pub Tiled : ℕ → List Move → ℕ → Type 0
Tiled first [] last = first ≡ last
Tiled first (m ∷ ms) last = (m.first ≡ first) × Tiled (first + m.effects) ms last

abbrev pub EffectRows : ℕ → ℕ → List Effect → Type 0
EffectRows facts formulas = Every (effect_of []) (λ i e. Within (beside facts formulas) effect_fields (effect_numbers e))

-- what a program row may refer to: facts, formulas, moves, objects, and the i rows before it
abbrev pub before_row : Job → ℕ → Counts
before_row j i = counts j.scalars.facts (length j.formulas) (length j.moves) (length j.effects) j.scalars.objects i

abbrev pub ProgramRows : Job → List Row → Type 0
ProgramRows j = Every (row_of []) (λ i r. Within (before_row j i) (get_or row_fields r.kind []) (r.a ∷ r.b ∷ r.c ∷ []))

-- the ranges of "Job text"; there is a formula, since the goal is one
pub record WellFormed (j : Job) : Type 0 where
  pub facts : j.scalars.facts ≤ most_facts
  pub init : j.scalars.init < state_count j.scalars.facts
  pub goal : j.scalars.goal < length j.formulas
  pub formulas : length j.formulas ≤ most_formulas
  pub formula : FormulaRows j.scalars.facts j.formulas
  pub moves : length j.moves ≤ most_moves
  pub move : MoveRows j.scalars.facts (length j.formulas) j.moves
  pub tiled : Tiled 0 j.moves (length j.effects)
  pub effects : length j.effects ≤ most_effects
  pub effect : EffectRows j.scalars.facts (length j.formulas) j.effects
  pub objects : j.scalars.objects ≤ most_objects
  pub program : length j.program ≤ most_program
  pub last : 0 < length j.program
  pub row : ProgramRows j j.program
