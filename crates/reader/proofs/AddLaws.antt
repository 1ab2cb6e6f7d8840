-- A line that is taken in: a row that is written behind those of its sort is added to the job, and
-- what a state of reading stands for then.
-- Assumes nothing.
use Prim.Native.Nat.{ℕ, ◌*◌, ◌<◌}
use mathlib.Core.Path.{◌≡◌, refl, ◌∙◌, ap}
use mathlib.Core.List.{List, [], ◌∷◌}
use native.Mathlib.Omega.{arith}
use lib.ListN.{length, set, length-set}
use lib.Seq.{sets}
use Rattle.job.specs.Job as J
use Rattle.job.specs.Job.{formula_of, move_of, effect_of, row_of}
use Rattle.job.specs.ReadJob.{on, job_after, taken_at, taken}
use Rattle.job.specs.Store.{width, formulas_from, moves_from, effects_from, program_from, all_rows, store_size, stored_move, job_of, list_of, first_effect}
use Rattle.job.specs.Stored.{Limited}
use Rattle.job.specs.declared.head.Counts.{Counts}
use Rattle.job.specs.declared.head.Head.{Head}
use Rattle.job.specs.declared.line.Heading.{Heading}
use Rattle.job.specs.declared.line.RowSort.{RowSort}
use Rattle.job.specs.declared.line.RowSort.TheVariants.{Formula, Move, Effect, Row}
use Rattle.job.specs.declared.line.Line.{Line}
use Rattle.job.specs.declared.line.Line.TheVariants.{Of}
use Rattle.job.proofs.FrontLaws.{line_front}
use Rattle.job.proofs.StoreLaws.{rows_length, by_columns, put_behind, put_before, put_next}
use Rattle.reader.specs.Reading.{reading_of, head_after, place_of, one_more}
use Rattle.reader.specs.Room.{Room}
use Rattle.reader.specs.declared.taking.ReaderState.{ReaderState}

-- the head and the counts by the line that came
pub head_is : (n : ℕ) (h : Head) {heading k : Heading} → heading ≡ k → head_after k n h ≡ head_after heading n h
head_is n h e = rw e

pub counts_are : (c : Counts) {sort k : RowSort} → sort ≡ k → one_more k c ≡ one_more sort c
counts_are c e = rw e

-- there are no more rows of a sort than it has room for, and where a row's line comes next there is
-- room for it
module _ {due effects : ℕ} {c : Counts} where
  rows_within : {next : Line} → Room next due effects c → Limited c
  rows_within h = record {
    facts = h.facts;
    formulas = omega (arith, h.fit.formulas);
    moves = omega (arith, h.fit.moves);
    effects = omega (arith, h.fit.effects);
    objects = h.objects;
    program = omega (arith, h.fit.program);
  }

  pub place_within : (k : RowSort) → Room (Of k) due effects c → place_of k c < all_rows
  place_within Formula h = omega (arith, h.fit.formulas)
  place_within Move h = omega (arith, h.fit.moves, h.owed)
  place_within Effect h = omega (arith, h.fit.effects, h.owed)
  place_within Row h = omega (arith, h.fit.program, h.owed)

-- the number behind a row's own says where a move's effects begin
stored : {A : Type 0} (f g : List ℕ → A) (first : ℕ)
    → ((a b c d p q x y : ℕ) → f (a ∷ b ∷ c ∷ d ∷ p ∷ q ∷ x ∷ first ∷ []) ≡ g (a ∷ b ∷ c ∷ d ∷ p ∷ q ∷ x ∷ y ∷ []))
    → (n : List ℕ) → length n ≡ width → f (set n first_effect first) ≡ g n
stored f g first = by_columns (λ n. f (set n first_effect first) ≡ g n)

-- a row that is written behind those of its sort is added to the job
module _ (h : Head) (l n : List ℕ) (len : length l ≡ store_size) (eight : length n ≡ width) (due effects : ℕ) where
  abbrev c : Counts
  c = h.counts

  abbrev v : List ℕ
  v = set n first_effect c.effects

  abbrev with_row : RowSort → J.Job
  with_row k = job_of (record { counts = one_more k c; init = h.init; goal = h.goal }) (sets l (place_of k c * width) v)

  wide : length v ≡ width
  wide = simp length-set eight

  pub row_added : (k : RowSort) → Room (Of k) due effects c → with_row k ≡ job_after k (job_of h l) n
  row_added Formula room =
      let i : ℕ = place_of Formula c in
      let w = rows_within room in
      rw (
        put_next formula_of l i v wide formulas_from c.formulas (omega arith) (omega (arith, w.formulas)),
        put_before stored_move l i v wide moves_from c.moves (omega (arith, room.fit.formulas, room.owed)),
        put_before effect_of l i v wide effects_from c.effects (omega (arith, w.formulas)),
        put_before row_of l i v wide program_from c.program (omega (arith, w.formulas)),
        stored formula_of formula_of c.effects (λ a b c d p q x y. refl) n eight,
      )
  row_added Move room =
      let i : ℕ = place_of Move c in
      let w = rows_within room in
      rw (
        put_behind formula_of l i v wide formulas_from c.formulas (omega (arith, w.formulas)),
        put_next stored_move l i v wide moves_from c.moves (omega arith) (omega (arith, w.moves)),
        put_before effect_of l i v wide effects_from c.effects (omega (arith, room.fit.moves, room.owed)),
        put_before row_of l i v wide program_from c.program (omega (arith, w.moves)),
        rows_length effect_of l effects_from c.effects,
        stored stored_move (move_of c.effects) c.effects (λ a b c d p q x y. refl) n eight,
      )
  row_added Effect room =
      let i : ℕ = place_of Effect c in
      let w = rows_within room in
      rw (
        put_behind formula_of l i v wide formulas_from c.formulas (omega (arith, w.formulas)),
        put_behind stored_move l i v wide moves_from c.moves (omega (arith, w.moves)),
        put_next effect_of l i v wide effects_from c.effects (omega arith) (omega (arith, w.effects)),
        put_before row_of l i v wide program_from c.program (omega (arith, room.fit.effects, room.owed)),
        stored effect_of effect_of c.effects (λ a b c d p q x y. refl) n eight,
      )
  row_added Row room =
      let i : ℕ = place_of Row c in
      let w = rows_within room in
      rw (
        put_behind formula_of l i v wide formulas_from c.formulas (omega (arith, w.formulas)),
        put_behind stored_move l i v wide moves_from c.moves (omega (arith, w.moves)),
        put_behind effect_of l i v wide effects_from c.effects (omega (arith, w.effects)),
        put_next row_of l i v wide program_from c.program (omega arith) (omega (arith, room.fit.program, room.owed)),
        stored row_of row_of c.effects (λ a b c d p q x y. refl) n eight,
      )

-- what a state stands for, by its parts
pub reading_of_lem : {s : ReaderState} {t : List ℕ} (next : Line) (due effects : ℕ) (h : Head) (u : List ℕ) (after : ℕ → ℕ → Line) (d e : ℕ) (g : Head) (j : J.Job)
    → s ≡ record { next = next; due = due; effects = effects; head = h } → t ≡ u → next ≡ after due effects → due ≡ d → effects ≡ e → h ≡ g
    → job_of g u ≡ j → reading_of s t ≡ on (after d e) d e j
reading_of_lem next due effects h u after d e g j state rows line a b head job = rw (state, rows, line, a, b, head) (ap (on (after d e) d e) job)

-- a line taken in, by which came next
module _ (s : ReaderState) (l r : List ℕ) (k : Line) (e : s.next ≡ k) where
  pub taken_of : length r ≡ width → taken (reading_of s l) (list_of s.next r) ≡ taken_at k (reading_of s l) r
  unfolding taken
  taken_of h = ap (λ q. taken_at q (reading_of s l) (list_of q r)) e ∙ (line_front s.head.counts (reading_of s l) k r h).1

  pub room_at : {c : Counts} → Room s.next s.due s.effects c → Room k s.due s.effects c
  room_at h = rw e at h
