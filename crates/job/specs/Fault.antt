-- Which reason refuses a line: "The first bad line decides; on it, form before 2 before 3."
use Rattle.std.specs.Prelude.{ℕ, ◌+◌, Bool, true, cond, ◌&&◌, List, [], ◌∷◌, ltb, leb, get_or}
use Rattle.std.specs.Prelude.{Option, None, Some}
use Rattle.limits.specs.Limits.{most_facts, most_formulas, most_moves, most_move_effects, most_objects, most_program}
use Rattle.job.specs.StateCount.{state_count}
use Rattle.job.specs.Job.{move_of, effect_of, move_numbers, effect_numbers}
use Rattle.job.specs.Fields.{formula_fields, move_fields, effect_fields, row_fields, within}
use Rattle.job.specs.Refusal.{number_of}
use Rattle.job.specs.declared.head.Counts.{Counts}
use Rattle.job.specs.declared.refusal.Reason.{Reason}
use Rattle.job.specs.declared.fault.Range.{Range}
use Rattle.job.specs.declared.line.Heading.{Heading}
use Rattle.job.specs.declared.line.Heading.TheVariants.{Job, Facts, Init, Formulas, Moves, Goal, Objects, Program}
use Rattle.job.specs.declared.line.RowSort.{RowSort}
use Rattle.job.specs.declared.line.RowSort.TheVariants.{Formula, Move, Effect, Row}
use Rattle.job.specs.declared.line.Line.{Line}
use Rattle.job.specs.declared.line.Line.TheVariants.{One, Of, End}

abbrev range : ℕ → ℕ → Reason → Range
range from below reason = record { from = from; below = below; reason = reason }

-- a line of one number: from which number on, below which number, and which reason refuses any
-- other. `job=1` is the only first line; reason 2 is "count or init outside its range"; the goal is
-- a reference
abbrev pub range_of : Heading → Counts → Range
range_of Job c = range 1 2 Reason.Form
range_of Facts c = range 0 (most_facts + 1) Reason.Range
range_of Init c = range 0 (state_count c.facts) Reason.Range
range_of Formulas c = range 1 (most_formulas + 1) Reason.Range
range_of Moves c = range 0 (most_moves + 1) Reason.Range
range_of Goal c = range 0 c.formulas Reason.Reference
range_of Objects c = range 0 (most_objects + 1) Reason.Range
range_of Program c = range 1 (most_program + 1) Reason.Range

abbrev pub is_in : Range → ℕ → Bool
is_in g n = leb g.from n && ltb n g.below

-- what a row must pass, by reason: its count, and its fields
pub record Criteria : Type 0 where
  pub range : Bool
  pub fields : Bool

abbrev criterion : Bool → Bool → Criteria
criterion range fields = record { range = range; fields = fields }

-- reason 3: "kind, reference, class, value or unused field wrong", beside so many facts, objects and
-- earlier rows. A move's count of effects is looked at before, by reason 2
abbrev pub criteria : RowSort → Counts → List ℕ → Criteria
criteria Formula c r = criterion true (within c (get_or formula_fields (get_or r 0 0) []) (get_or r 1 0 ∷ get_or r 2 0 ∷ []))
criteria Move c r = criterion (leb (move_of 0 r).effects most_move_effects) (within c move_fields (move_numbers (move_of 0 r)))
criteria Effect c r = criterion true (within c effect_fields (effect_numbers (effect_of r)))
criteria Row c r = criterion true (within c (get_or row_fields (get_or r 0 0) []) (get_or r 1 0 ∷ get_or r 2 0 ∷ get_or r 3 0 ∷ []))

-- "2 before 3"
abbrev pub first_reason : Criteria → ℕ
first_reason k = cond k.range (cond k.fields 0 3) 2

-- the reason by the numbers of a line that has the form: no line may follow the last
abbrev pub reason_of : Line → Counts → List ℕ → ℕ
reason_of (One h) c r = cond (is_in (range_of h c) (get_or r 0 0)) 0 (number_of (range_of h c).reason)
reason_of (Of s) c r = first_reason (criteria s c r)
reason_of End c r = 1

-- which reason refuses a line, by its numbers if it has the form; 0 where none does
unfoldable pub fault : Line → Counts → Option (List ℕ) → ℕ
fault next c None = 1
fault next c (Some r) = reason_of next c r
