-- Every row of a job that is read keeps its ranges and references.
-- Assumes nothing.
use Prim.Native.Nat.{ℕ, ◌+◌, ◌-◌, ◌<◌}
use mathlib.Core.Path.{◌≡◌, refl, sym, ◌∙◌, subst}
use mathlib.Core.List.{List, [], ◌∷◌, ◌++◌}
use native.Mathlib.Omega.{arith}
use lib.ListN.{length, get_or, length-append}
use Rattle.laws.proofs.Lists.{every_more}
use Rattle.job.specs.StateCount.{state_count}
use Rattle.job.specs.Job as J
use Rattle.job.specs.Job.{counts_of, formula_of, move_of, effect_of, row_of, move_numbers, effect_numbers}
use Rattle.job.specs.Fields.{Within, formula_fields, move_fields, effect_fields, row_fields}
use Rattle.job.specs.ReadJob.{Reading, past, again, after_row, begun, taken_at, taken}
use Rattle.job.specs.WellFormed.{FormulaRows, MoveRows, Tiled, EffectRows, ProgramRows, WellFormed, beside, before_row}
use Rattle.job.specs.declared.head.Counts.{Counts}
use Rattle.job.specs.declared.line.Heading.{Heading}
use Rattle.job.specs.declared.line.Heading.TheVariants.{Job, Facts, Init, Formulas, Moves, Goal, Objects, Program}
use Rattle.job.specs.declared.line.RowSort.{RowSort}
use Rattle.job.specs.declared.line.RowSort.TheVariants.{Formula, Move, Effect, Row}
use Rattle.job.specs.declared.line.Line.{Line}
use Rattle.job.specs.declared.line.Line.TheVariants.{One, Of, End}
use Rattle.job.proofs.RowLaws.{within_true, formula_own}
use Rattle.reader.specs.Room.{Room}
use Rattle.reader.proofs.RoomLaws.{LineRight, RoomOf, rows_has, taken_room}

-- what is right once a line has been read
abbrev InitRight : J.Job → Type 0
InitRight j = j.scalars.init < state_count j.scalars.facts

abbrev GoalRight : J.Job → Type 0
GoalRight j = j.scalars.goal < length j.formulas

abbrev HeadRight : Line → J.Job → Type 0
HeadRight (One Job) j = Unit {0}
HeadRight (One Facts) j = Unit {0}
HeadRight (One Init) j = Unit {0}
HeadRight (One Formulas) j = InitRight j
HeadRight (Of Formula) j = InitRight j
HeadRight (One Moves) j = InitRight j
HeadRight (Of Move) j = InitRight j
HeadRight (Of Effect) j = InitRight j
HeadRight (One Goal) j = InitRight j
HeadRight (One Objects) j = InitRight j × GoalRight j
HeadRight (One Program) j = InitRight j × GoalRight j
HeadRight (Of Row) j = InitRight j × GoalRight j
HeadRight End j = InitRight j × GoalRight j × (0 < length j.program)

-- the rows so far are right, with so many effects of the last move still due
pub record Fits (effects : ℕ) (j : J.Job) : Type 0 where
  pub formula : FormulaRows j.scalars.facts j.formulas
  pub move : MoveRows j.scalars.facts (length j.formulas) j.moves
  pub tiled : Tiled 0 j.moves (length j.effects + effects)
  pub effect : EffectRows j.scalars.facts (length j.formulas) j.effects
  pub row : ProgramRows j j.program

-- one move more behind, with its effects to come
tiled_more : (first last : ℕ) (ms : List J.Move) (m : J.Move) → Tiled first ms last → m.first ≡ last → Tiled first (ms ++ (m ∷ [])) (last + m.effects)
tiled_more first last [] m t e = (e ∙ sym t, omega (arith, t))
tiled_more first last (k ∷ ms) m t e = (t.0, tiled_more (first + k.effects) last ms m t.1 e)

module _ (s : Reading) (r : List ℕ) where
  abbrev j : J.Job
  j = s.job

  abbrev c : Counts
  c = counts_of j

  -- a line of one number changes no row, the number of facts only before the first row, and that of
  -- objects before the first of the program
  same_facts : (sc : J.Scalars) → sc.facts ≡ j.scalars.facts → ProgramRows (J.with_scalars j sc) j.program → Fits s.effects j
      → Fits s.effects (J.with_scalars j sc)
  same_facts sc e rows f = record {
    formula = rw e f.formula;
    move = f.move;
    tiled = f.tiled;
    effect = rw e f.effect;
    row = rows;
  }

  one_fits : (k : Heading) → Room (One k) s.due s.effects c → Fits s.effects j → Fits s.effects (taken_at (One k) s r).job
  one_fits Job h f = same_facts _ refl f.row f
  one_fits Facts h f =
      let a : length j.formulas ≡ 0 = omega (arith, h.fit.formulas) in
      let b : length j.effects ≡ 0 = omega (arith, h.fit.effects) in
      let d : length j.program ≡ 0 = omega (arith, h.fit.program) in
      record {
        formula = λ i g. absurd (omega arith);
        move = f.move;
        tiled = f.tiled;
        effect = λ i g. absurd (omega arith);
        row = λ i g. absurd (omega arith);
      }
  one_fits Init h f = same_facts _ refl f.row f
  one_fits Formulas h f = same_facts _ refl f.row f
  one_fits Moves h f = same_facts _ refl f.row f
  one_fits Goal h f = same_facts _ refl f.row f
  one_fits Objects h f = let d : length j.program ≡ 0 = omega (arith, h.fit.program) in same_facts _ refl (λ i g. absurd (omega arith)) f
  one_fits Program h f = same_facts _ refl f.row f

  row_fits : (k : RowSort) → LineRight (Of k) c r → Room (Of k) s.due s.effects c → Fits s.effects j
      → Fits (taken_at (Of k) s r).effects (taken_at (Of k) s r).job
  row_fits Formula x h f =
      let a : length j.moves ≡ 0 = omega (arith, h.fit.moves) in
      let b : length j.effects ≡ 0 = omega (arith, h.fit.effects) in
      let d : length j.program ≡ 0 = omega (arith, h.fit.program) in
      record {
        formula = every_more (formula_of []) (λ i f. Within (beside j.scalars.facts i) (get_or formula_fields f.kind []) (f.a ∷ f.b ∷ []))
            j.formulas (formula_of r)
            f.formula (formula_own c (get_or r 1 0) (get_or r 2 0) (get_or r 0 0) (within_true c (get_or formula_fields (get_or r 0 0) []) _ x.1));
        move = λ i g. absurd (omega arith);
        tiled = f.tiled;
        effect = λ i g. absurd (omega arith);
        row = λ i g. absurd (omega arith);
      }
  row_fits Move x h f =
      let m : J.Move = move_of (length j.effects) r in
      let e : length j.effects + s.effects ≡ length j.effects = omega (arith, h.owed.1) in
      let d : length j.program ≡ 0 = omega (arith, h.fit.program) in
      record {
        formula = f.formula;
        move = every_more (move_of 0 []) (λ i m. Within c move_fields (move_numbers m)) j.moves m f.move (within_true c move_fields (move_numbers m) x.1);
        tiled = tiled_more 0 (length j.effects) j.moves m (subst (Tiled 0 j.moves) e f.tiled) refl;
        effect = f.effect;
        row = λ i g. absurd (omega arith);
      }
  row_fits Effect x h f =
      let e : length j.effects + s.effects ≡ length (j.effects ++ (effect_of r ∷ [])) + (s.effects - 1) = omega
      (arith, h.owed, length-append j.effects (effect_of r ∷ [])) in
      let d : length j.program ≡ 0 = omega (arith, h.fit.program) in
      record {
        formula = f.formula;
        move = f.move;
        tiled = subst (Tiled 0 j.moves) e f.tiled;
        effect = every_more (effect_of []) (λ i e. Within c effect_fields (effect_numbers e)) j.effects (effect_of r) f.effect
            (within_true c effect_fields (effect_numbers (effect_of r)) x.1);
        row = λ i g. absurd (omega arith);
      }
  row_fits Row x h f = record {
    formula = f.formula;
    move = f.move;
    tiled = f.tiled;
    effect = f.effect;
    row = every_more (row_of []) (λ i w. Within (before_row j i) (get_or row_fields w.kind []) (w.a ∷ w.b ∷ w.c ∷ [])) j.program (row_of r) f.row
        (within_true c (get_or row_fields (get_or r 0 0) []) (get_or r 1 0 ∷ get_or r 2 0 ∷ get_or r 3 0 ∷ []) x.1);
  }

  fits_at : (k : Line) → LineRight k c r → Room k s.due s.effects c → Fits s.effects j → Fits (taken_at k s r).effects (taken_at k s r).job
  fits_at (One k) x h f = one_fits k h f
  fits_at (Of k) x h f = row_fits k x h f
  fits_at End x h f = f

  -- what was right stays so while rows come
  head_right_rows : (k : RowSort) (due effects : ℕ) (q : J.Job) → (due ≡ 0 → HeadRight (past k) q) → HeadRight (Of (again k)) q → InitRight q
      → HeadRight (after_row k due effects) q
  head_right_rows k due effects q f g h = rows_has (λ l. HeadRight l q) k due effects (λ y z. f z) (λ y z. g) (λ z. h)

  head_right_at : (k : Line) → LineRight k c r → HeadRight k j → HeadRight (taken_at k s r).next (taken_at k s r).job
  head_right_at (One Job) x f = tt
  head_right_at (One Facts) x f = tt
  head_right_at (One Init) x f = x.1
  head_right_at (One Formulas) x f = head_right_rows Formula (get_or r 0 0) 0 (taken_at (One Formulas) s r).job (λ z. f) f f
  head_right_at (Of Formula) x f = head_right_rows Formula (s.due - 1) s.effects (taken_at (Of Formula) s r).job (λ z. f) f f
  head_right_at (One Moves) x f = head_right_rows Move (get_or r 0 0) 0 (taken_at (One Moves) s r).job (λ z. f) f f
  head_right_at (Of Move) x f = head_right_rows Move (s.due - 1) (get_or r 2 0) (taken_at (Of Move) s r).job (λ z. f) f f
  head_right_at (Of Effect) x f = head_right_rows Effect s.due (s.effects - 1) (taken_at (Of Effect) s r).job (λ z. f) f f
  head_right_at (One Goal) x f = (f, x.1)
  head_right_at (One Objects) x f = f
  head_right_at (One Program) x f = head_right_rows Row (get_or r 0 0) 0 (taken_at (One Program) s r).job (λ z. absurd (omega (arith, x.0))) f f.0
  head_right_at (Of Row) x f =
      let l = length-append j.program (row_of r ∷ []) in
      head_right_rows Row (s.due - 1) s.effects (taken_at (Of Row) s r).job (λ z. (f.0, f.1, omega (arith, l))) f f.0
  head_right_at End x f = absurd x

-- a state of reading whose rows are right
pub record FormedSoFar (s : Reading) : Type 0 where
  pub room : RoomOf s
  pub fit : Fits s.effects s.job
  pub head : HeadRight s.next s.job

pub taken_formed : (s : Reading) (r : List ℕ) → LineRight s.next (counts_of s.job) r → FormedSoFar s → FormedSoFar (taken s r)
unfolding taken
taken_formed s r x k = record {
  room = unfold taken in taken_room s r x k.room;
  fit = fits_at s r s.next x k.room k.fit;
  head = head_right_at s r s.next x k.head;
}

pub begun_formed : FormedSoFar begun
begun_formed = record {
  room = record {
    facts = omega arith;
    objects = omega arith;
    fit = record { formulas = omega arith; moves = omega arith; effects = omega arith; program = omega arith };
    owed = refl;
  };
  fit = record {
    formula = λ i h. absurd (omega arith);
    move = λ i h. absurd (omega arith);
    tiled = omega arith;
    effect = λ i h. absurd (omega arith);
    row = λ i h. absurd (omega arith);
  };
  head = tt;
}

-- at the end all is right
pub end_well_formed : (s : Reading) → FormedSoFar s → s.next ≡ End → WellFormed s.job
end_well_formed s k e =
    let h : Room End s.due s.effects (counts_of s.job) = rw e at k.room in
    let t : HeadRight End s.job = rw e at k.head in
    let d : length s.job.effects + s.effects ≡ length s.job.effects = omega (arith, h.owed) in
    record {
      facts = h.facts;
      init = t.0;
      goal = t.1;
      formulas = omega (arith, h.fit.formulas);
      formula = k.fit.formula;
      moves = omega (arith, h.fit.moves);
      move = k.fit.move;
      tiled = subst (Tiled 0 s.job.moves) d k.fit.tiled;
      effects = omega (arith, h.fit.effects);
      effect = k.fit.effect;
      objects = h.objects;
      program = omega (arith, h.fit.program);
      last = t.2;
      row = k.fit.row;
    }
