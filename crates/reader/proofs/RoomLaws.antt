-- A right line that is taken in leaves room for the rows that may still come.
-- Assumes nothing.
use Prim.Native.Nat.{ℕ, ◌+◌, ◌-◌, ◌≤◌, ◌<◌}
use mathlib.Core.Path.{◌≡◌, refl}
use mathlib.Core.Bool.{Bool, true, false, cond}
use mathlib.Core.List.{List, [], ◌∷◌}
use Rattle.std.specs.Prelude.{Some}
use native.Mathlib.Omega.{arith}
use lib.Dec.{eqb, leb, ltb}
use lib.ListN.{length, get_or, length-append}
use borrow.Author.Tests.{eqb-true, eqb-false, leb-true, ltb-true}
use Rattle.laws.proofs.Tests.{and_left, and_right, cond_has}
use Rattle.limits.specs.Limits.{most_facts, most_formulas, most_moves, most_move_effects, most_effects, most_objects, most_program}
use Rattle.job.specs.Job.{counts_of, formula_of, move_of, effect_of, row_of}
use Rattle.job.specs.Refusal.{number_of}
use Rattle.job.specs.Fault.{range_of, is_in, criteria, reason_of, fault}
use Rattle.job.specs.ReadJob.{Reading, past, again, after_row, job_after, taken_at, taken}
use Rattle.job.specs.declared.head.Counts.{Counts}
use Rattle.job.specs.declared.line.Heading.{Heading}
use Rattle.job.specs.declared.line.Heading.TheVariants.{Job, Facts, Init, Formulas, Moves, Goal, Objects, Program}
use Rattle.job.specs.declared.line.RowSort.{RowSort}
use Rattle.job.specs.declared.line.RowSort.TheVariants.{Formula, Move, Effect, Row}
use Rattle.job.specs.declared.line.Line.{Line}
use Rattle.job.specs.declared.line.Line.TheVariants.{One, Of, End}
use Rattle.job.proofs.FaultLaws.{range_reason}
use Rattle.reader.specs.Room.{Ahead, ahead, RowsFit, Due, Room}

-- a line that no reason refuses
abbrev pub LineRight : Line → Counts → List ℕ → Type 0
LineRight (One h) c r = ((range_of h c).from ≤ get_or r 0 0) × (get_or r 0 0 < (range_of h c).below)
LineRight (Of k) c r = ((criteria k c r).range ≡ true) × ((criteria k c r).fields ≡ true)
LineRight End c r = ⊥

right_by : (x y : Bool) → ◌≡◌ {A = ℕ} (cond x (cond y 0 3) 2) 0 → (x ≡ true) × (y ≡ true)
right_by true true h = (refl, refl)
right_by true false h = absurd (omega arith)
right_by false y h = absurd (omega arith)

reason_right : (k : Line) (c : Counts) (r : List ℕ) → reason_of k c r ≡ 0 → LineRight k c r
reason_right (One h) c r =
    let n : ℕ = get_or r 0 0 in
    cond_has (λ (q : ℕ). q ≡ 0 → LineRight (One h) c r) (is_in (range_of h c) n) 0 (number_of (range_of h c).reason)
    (λ b e. (
      leb-true (range_of h c).from n (and_left (leb (range_of h c).from n) (ltb n (range_of h c).below) b),
      ltb-true n (range_of h c).below (and_right (leb (range_of h c).from n) (ltb n (range_of h c).below) b),
    ))
    (λ b e. absurd (omega (arith, range_reason h c)))
reason_right (Of k) c r = right_by (criteria k c r).range (criteria k c r).fields
reason_right End c r = λ e. omega arith

pub fault_right : (k : Line) (c : Counts) (r : List ℕ) → fault k c (Some r) ≡ 0 → LineRight k c r
unfolding fault
fault_right k c r e = reason_right k c r e

abbrev pub RoomOf : Reading → Type 0
RoomOf s = Room s.next s.due s.effects (counts_of s.job)

-- what comes after a row, or after the line that counts rows
pub rows_has : (P : Line → Type 0) (k : RowSort) (due effects : ℕ) → (effects ≡ 0 → due ≡ 0 → P (past k)) → (effects ≡ 0 → (due ≡ 0 → ⊥) → P (Of (again k)))
    → ((effects ≡ 0 → ⊥) → P (Of Effect)) → P (after_row k due effects)
rows_has P k due effects f g h = cond_has P (eqb effects 0) (cond (eqb due 0) (past k) (Of (again k))) (Of Effect)
    (λ z. cond_has P (eqb due 0) (past k) (Of (again k)) (λ y. f (eqb-true effects 0 z) (eqb-true due 0 y)) (λ y. g (eqb-true effects 0 z) (eqb-false due 0 y)))
    (λ z. h (eqb-false effects 0 z))

rows_fit : {a : Ahead} {c : Counts} → c.formulas + a.formulas ≤ most_formulas → c.moves + a.moves ≤ most_moves → c.effects + a.effects ≤ most_effects
    → c.program + a.program ≤ most_program → RowsFit a c
rows_fit f m e p = record { formulas = f; moves = m; effects = e; program = p }

module _ (due effects : ℕ) (c : Counts) where
  moves_past : RowsFit (ahead (Of Move) due effects) c → RowsFit (ahead (One Goal) due effects) c
  moves_past f = rows_fit f.formulas (omega (arith, f.moves)) (omega (arith, f.effects)) f.program

  past_fit : (k : RowSort) → RowsFit (ahead (Of (again k)) due effects) c → RowsFit (ahead (past k) due effects) c
  past_fit Formula f = rows_fit (omega (arith, f.formulas)) f.moves f.effects f.program
  past_fit Move f = moves_past f
  past_fit Effect f = moves_past f
  past_fit Row f = rows_fit f.formulas f.moves f.effects (omega (arith, f.program))

  past_due : (k : RowSort) → effects ≡ 0 → Due (past k) due effects
  past_due Formula e = e
  past_due Move e = e
  past_due Effect e = e
  past_due Row e = e

  again_due : (k : RowSort) → (0 < due) × (effects ≡ 0) → Due (Of (again k)) due effects
  again_due Formula h = h
  again_due Move h = h
  again_due Effect h = h
  again_due Row h = h

  rows_room : (k : RowSort) → c.facts ≤ most_facts → c.objects ≤ most_objects → RowsFit (ahead (Of (again k)) due effects) c
      → ((effects ≡ 0 → ⊥) → RowsFit (ahead (Of Effect) due effects) c)
      → Room (after_row k due effects) due effects c
  rows_room k h o f g = rows_has (λ l. Room l due effects c) k due effects
      (λ y z. record { facts = h; objects = o; fit = past_fit k f; owed = past_due k y })
      (λ y z. record { facts = h; objects = o; fit = f; owed = again_due k (omega (arith, z), y) })
      (λ z. record { facts = h; objects = o; fit = g z; owed = omega (arith, z) })

module _ (s : Reading) (r : List ℕ) where
  abbrev c : Counts
  c = counts_of s.job

  abbrev n : ℕ
  n = get_or r 0 0

  one_room : (h : Heading) → LineRight (One h) c r → Room (One h) s.due s.effects c → RoomOf (taken_at (One h) s r)
  one_room Job x h = record { facts = h.facts; objects = h.objects; fit = h.fit; owed = h.owed }
  one_room Facts x h = record {
    facts = omega (arith, x.1);
    objects = h.objects;
    fit = rows_fit h.fit.formulas h.fit.moves h.fit.effects h.fit.program;
    owed = h.owed;
  }
  one_room Init x h = record { facts = h.facts; objects = h.objects; fit = h.fit; owed = h.owed }
  one_room Formulas x h =
      let f : RowsFit (ahead (Of Formula) n 0) c = rows_fit (omega (arith, h.fit.formulas, x.1)) h.fit.moves h.fit.effects h.fit.program in
      rw h.owed (rows_room n 0 c Formula h.facts h.objects f (λ z. absurd (z refl)))
  one_room Moves x h =
      let f : RowsFit (ahead (Of Move) n 0) c = rows_fit h.fit.formulas (omega (arith, h.fit.moves, x.1)) (omega (arith, h.fit.effects, x.1))
      h.fit.program in
      rw h.owed (rows_room n 0 c Move h.facts h.objects f (λ z. absurd (z refl)))
  one_room Goal x h = record { facts = h.facts; objects = h.objects; fit = h.fit; owed = h.owed }
  one_room Objects x h = record {
    facts = h.facts;
    objects = omega (arith, x.1);
    fit = rows_fit h.fit.formulas h.fit.moves h.fit.effects h.fit.program;
    owed = h.owed;
  }
  one_room Program x h =
      let f : RowsFit (ahead (Of Row) n 0) c = rows_fit h.fit.formulas h.fit.moves h.fit.effects (omega (arith, h.fit.program, x.1)) in
      rw h.owed (rows_room n 0 c Row h.facts h.objects f (λ z. absurd (z refl)))

  row_room : (k : RowSort) → LineRight (Of k) c r → Room (Of k) s.due s.effects c → RoomOf (taken_at (Of k) s r)
  row_room Formula x h =
      let l = length-append s.job.formulas (formula_of r ∷ []) in
      rows_room (s.due - 1) s.effects (counts_of (job_after Formula s.job r)) Formula h.facts h.objects
      (rows_fit (omega (arith, h.fit.formulas, h.owed.0, l)) h.fit.moves h.fit.effects h.fit.program)
      (λ z. absurd (z h.owed.1))
  row_room Move x h =
      let l = length-append s.job.moves (move_of (length s.job.effects) r ∷ []) in
      let n = leb-true (get_or r 2 0) most_move_effects x.0 in
      let f : RowsFit (ahead (Of Move) (s.due - 1) (get_or r 2 0)) (counts_of (job_after Move s.job r)) = rows_fit h.fit.formulas
      (omega (arith, h.fit.moves, h.owed.0, l)) (omega (arith, h.fit.effects, h.owed.0, n)) h.fit.program in
      rows_room (s.due - 1) (get_or r 2 0) (counts_of (job_after Move s.job r)) Move h.facts h.objects f (λ z. f)
  row_room Effect x h =
      let l = length-append s.job.effects (effect_of r ∷ []) in
      let f : RowsFit (ahead (Of Effect) s.due (s.effects - 1)) (counts_of (job_after Effect s.job r)) = rows_fit h.fit.formulas h.fit.moves
      (omega (arith, h.fit.effects, h.owed, l)) h.fit.program in
      rows_room s.due (s.effects - 1) (counts_of (job_after Effect s.job r)) Effect h.facts h.objects f (λ z. f)
  row_room Row x h =
      let l = length-append s.job.program (row_of r ∷ []) in
      rows_room (s.due - 1) s.effects (counts_of (job_after Row s.job r)) Row h.facts h.objects
      (rows_fit h.fit.formulas h.fit.moves h.fit.effects (omega (arith, h.fit.program, h.owed.0, l)))
      (λ z. absurd (z h.owed.1))

  room_at : (k : Line) → LineRight k c r → Room k s.due s.effects c → RoomOf (taken_at k s r)
  room_at (One h) x = one_room h x
  room_at (Of k) x = row_room k x
  room_at End x = absurd x

  pub taken_room : LineRight s.next c r → RoomOf s → RoomOf (taken s r)
  unfolding taken
  taken_room x h = room_at s.next x h
