-- "A row refers only to earlier rows of its own sort; one row may be used several times. Unused
-- fields are 0." "cost class 0 to 15, effect count 0 to 16"; a value is "0 or 1"
use Rattle.std.specs.Prelude.{ℕ, ◌+◌, ◌-◌, ◌<◌, Bool, true, false, ◌&&◌, List, [], ◌∷◌, ltb}
use Rattle.limits.specs.Limits.{class_count, most_move_effects}
use Rattle.job.specs.declared.head.Counts.{Counts}
use Rattle.job.specs.declared.fields.Field.{Field}
use Rattle.job.specs.declared.fields.Field.TheVariants.{Unused, Fact, Formula, FormulaBase, Move, MoveBase, Row, Variable, Class, EffectCount, Value}

-- "The sum of a and O may not exceed the count of moves or formulas": such a number a, to which an
-- object is added, is below this one
abbrev pub base_bound : ℕ → ℕ → ℕ
base_bound count objects = count + 1 - objects

-- what a field may refer to or say, beside so many facts and objects and so many rows that stand
-- before it: it is below this number. A variable may be any number of a line
abbrev pub bound : Counts → Field → ℕ
bound c Unused = 1
bound c Fact = c.facts
bound c Formula = c.formulas
bound c FormulaBase = base_bound c.formulas c.objects
bound c Move = c.moves
bound c MoveBase = base_bound c.moves c.objects
bound c Row = c.program
bound c Variable = 65536
bound c Class = class_count
bound c EffectCount = most_move_effects + 1
bound c Value = 2

-- a and b of a formula, by its kind
abbrev pub formula_fields : List (List Field)
formula_fields =
    (Unused ∷ Unused ∷ [])  -- 0 false
    ∷ (Unused ∷ Unused ∷ [])  -- 1 true
    ∷ (Fact ∷ Unused ∷ [])  -- 2 fact a
    ∷ (Formula ∷ Unused ∷ [])  -- 3 not formula a
    ∷ (Formula ∷ Formula ∷ [])  -- 4 formulas a and b
    ∷ (Formula ∷ Formula ∷ [])  -- 5 a or b
    ∷ []

-- `m=pre,class,E,formula,class`: "Formula and class are checked as the others are"
abbrev pub move_fields : List Field
move_fields = Formula ∷ Class ∷ EffectCount ∷ Formula ∷ Class ∷ []

-- `e=cond,fact,value`
abbrev pub effect_fields : List Field
effect_fields = Formula ∷ Fact ∷ Value ∷ []

-- a, b and c of a program row, by its kind
abbrev pub row_fields : List (List Field)
row_fields =
    (Unused ∷ Unused ∷ Unused ∷ [])  -- 0 nil
    ∷ (Move ∷ Unused ∷ Unused ∷ [])  -- 1 move a
    ∷ (Unused ∷ Unused ∷ Unused ∷ [])  -- 2 any
    ∷ (Formula ∷ Unused ∷ Unused ∷ [])  -- 3 test a
    ∷ (Row ∷ Row ∷ Unused ∷ [])  -- 4 a then b
    ∷ (Formula ∷ Row ∷ Row ∷ [])  -- 5 if a then b else c
    ∷ (Row ∷ Row ∷ Unused ∷ [])  -- 6 a or b
    ∷ (Formula ∷ Row ∷ Unused ∷ [])  -- 7 while a do b
    ∷ (Row ∷ Unused ∷ Unused ∷ [])  -- 8 star of a
    ∷ (Row ∷ Unused ∷ Unused ∷ [])  -- 9 pick with body a
    ∷ (MoveBase ∷ Variable ∷ Unused ∷ [])  -- 10 move a plus an object
    ∷ (FormulaBase ∷ Variable ∷ Unused ∷ [])  -- 11 test of a plus an object
    ∷ []

-- each number is below its field's bound; a kind that the table lacks has no fields
abbrev pub within : Counts → List Field → List ℕ → Bool
within c [] [] = true
within c [] (x ∷ xs) = false
within c (f ∷ fs) [] = false
within c (f ∷ fs) (x ∷ xs) = ltb x (bound c f) && within c fs xs

-- the same as a statement
abbrev pub Within : Counts → List Field → List ℕ → Type 0
Within c [] [] = Unit {0}
Within c [] (x ∷ xs) = ⊥
Within c (f ∷ fs) [] = ⊥
Within c (f ∷ fs) (x ∷ xs) = (x < bound c f) × Within c fs xs
