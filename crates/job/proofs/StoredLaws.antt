-- Laws of a stored job: how many rows it has of each sort, and what its rows are.
-- Assumes nothing.
use Prim.Native.Nat.{ℕ, ◌+◌, ◌≤◌, ◌<◌}
use mathlib.Core.Path.{◌≡◌}
use mathlib.Core.List.{List, [], ◌∷◌}
use native.Mathlib.Omega.{arith}
use lib.ListN.{length, get_or}
use Rattle.limits.specs.Limits.{most_facts, last_class}
use Rattle.job.specs.Job.{formula_of, move_of, effect_of, row_of, formula_at, move_at, effect_at, program_row_at}
use Rattle.job.specs.Fields.{Within, formula_fields, row_fields}
use Rattle.job.specs.Store.{formulas_from, moves_from, effects_from, program_from, row_at, stored_move, job_of}
use Rattle.job.specs.WellFormed.{beside, before_row}
use Rattle.job.specs.Stored.{Limited, Stored}
use Rattle.job.specs.declared.head.Head.{Head}
use Rattle.job.proofs.StoreLaws.{rows_length, rows_at}
use Rattle.job.proofs.RowLaws.{tiled_own}

-- a head's counts are those of its job's rows
module _ (h : Head) (l : List ℕ) where
  pub formula_count : length (job_of h l).formulas ≡ h.counts.formulas
  formula_count = rows_length formula_of l formulas_from h.counts.formulas

  pub move_count : length (job_of h l).moves ≡ h.counts.moves
  move_count = rows_length stored_move l moves_from h.counts.moves

  pub effect_count_lem : length (job_of h l).effects ≡ h.counts.effects
  effect_count_lem = rows_length effect_of l effects_from h.counts.effects

  pub row_count_lem : length (job_of h l).program ≡ h.counts.program
  row_count_lem = rows_length row_of l program_from h.counts.program

  module _ (i : ℕ) where
    pub formula_is : i < h.counts.formulas → formula_at (job_of h l) i ≡ formula_of (row_at l (formulas_from + i))
    formula_is = rows_at formula_of l formulas_from (formula_of []) h.counts.formulas i

    pub move_is : i < h.counts.moves → move_at (job_of h l) i ≡ stored_move (row_at l (moves_from + i))
    move_is = rows_at stored_move l moves_from (move_of 0 []) h.counts.moves i

    pub effect_is : i < h.counts.effects → effect_at (job_of h l) i ≡ effect_of (row_at l (effects_from + i))
    effect_is = rows_at effect_of l effects_from (effect_of []) h.counts.effects i

    pub row_is : i < h.counts.program → program_row_at (job_of h l) i ≡ row_of (row_at l (program_from + i))
    row_is = rows_at row_of l program_from (row_of []) h.counts.program i

module _ {h : Head} {l : List ℕ} (s : Stored h l) where
  pub limited : Limited h.counts
  limited = record {
    facts = s.job.facts;
    formulas = omega (arith, s.job.formulas, formula_count h l);
    moves = omega (arith, s.job.moves, move_count h l);
    effects = omega (arith, s.job.effects, effect_count_lem h l);
    objects = s.job.objects;
    program = omega (arith, s.job.program, row_count_lem h l);
  }

  -- there is a program row
  pub some_row : 0 < h.counts.program
  some_row = omega (arith, s.job.last, row_count_lem h l)

  module _ (i : ℕ) where
    -- what a formula and a program row refer to
    formula_within : i < h.counts.formulas
        → Within (beside h.counts.facts i) (get_or formula_fields (formula_at (job_of h l) i).kind [])
        ((formula_at (job_of h l) i).a ∷ (formula_at (job_of h l) i).b ∷ [])
    formula_within g = s.job.formula i (omega (arith, formula_count h l))

    pub row_within : i < h.counts.program
        → Within (before_row (job_of h l) i) (get_or row_fields (program_row_at (job_of h l) i).kind [])
        ((program_row_at (job_of h l) i).a ∷ (program_row_at (job_of h l) i).b ∷ (program_row_at (job_of h l) i).c ∷ [])
    row_within g = s.job.row i (omega (arith, row_count_lem h l))

    -- a formula of kind 2 is on a fact
    pub formula_fact : i < h.counts.formulas → (formula_at (job_of h l) i).kind ≡ 2 → (formula_at (job_of h l) i).a < most_facts
    formula_fact g e = omega (arith, (rw e at (formula_within g)).0, s.job.facts)

    pub move_classes : i < h.counts.moves → ((move_at (job_of h l) i).class ≤ last_class) × ((move_at (job_of h l) i).second ≤ last_class)
    move_classes g = let w = s.job.move i (omega (arith, move_count h l)) in (omega (arith, w.1.0), omega (arith, w.1.1.1.1.0))

    pub move_effects : i < h.counts.moves → (move_at (job_of h l) i).first + (move_at (job_of h l) i).effects ≤ h.counts.effects
    move_effects g =
        omega (
          arith,
          tiled_own (move_of 0 []) 0 (length (job_of h l).effects) (job_of h l).moves s.job.tiled i
              (omega (arith, move_count h l)),
          effect_count_lem h l,
        )

    pub effect_fact : i < h.counts.effects → (effect_at (job_of h l) i).fact < h.counts.facts
    effect_fact g = (s.job.effect i (omega (arith, effect_count_lem h l))).1.0
