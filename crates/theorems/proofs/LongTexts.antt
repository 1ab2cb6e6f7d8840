-- A text of 65,536 bytes or more is answered just as its first 65,536 bytes are: right texts are
-- short.
-- Assumes nothing.
use Prim.Native.Nat.{ℕ, ◌+◌, ◌-◌, ◌*◌, ◌≤◌, ◌<◌}
use mathlib.Core.Path.{◌≡◌, refl, sym, ◌∙◌, ap}
use mathlib.Core.List.{List, [], ◌∷◌}
use Rattle.std.specs.Prelude.{Option, None, Some}
use native.Mathlib.Omega.{arith}
use native.Mathlib.Decide.{dec_lt}
use lib.ListN.{length, get_or, take}
use borrow.Author.Tests.{leb-true}
use Rattle.limits.specs.Limits.{most_move_effects}
use Rattle.theorems.proofs.Fronts.{front_decides}
use Rattle.text.proofs.LineText.{most_bytes, line_short}
use Rattle.job.specs.Job.{counts_of}
use Rattle.job.specs.Line.{form_of, line_numbers}
use Rattle.job.specs.Fault.{fault}
use Rattle.job.specs.ReadJob.{Reading, refused, begun, taken_at, taken, read_from, read_job}
use Rattle.job.specs.declared.head.Counts.{Counts}
use Rattle.job.specs.declared.line.Heading.TheVariants.{Job, Facts, Init, Formulas, Moves, Goal, Objects, Program}
use Rattle.job.specs.declared.line.RowSort.TheVariants.{Formula, Move, Effect, Row}
use Rattle.job.specs.declared.line.Line.{Line}
use Rattle.job.specs.declared.line.Line.TheVariants.{One, Of, End}
use Rattle.reader.specs.Room.{Room, ahead}
use Rattle.reader.proofs.RoomLaws.{LineRight, fault_right, rows_has}
use Rattle.reader.proofs.FormedLaws.{FormedSoFar, taken_formed, begun_formed}
use Rattle.reader.proofs.ReadLaws.{line_right, line_wrong}

-- how many bytes a right line of this sort has at the most
abbrev most : Line → ℕ
most k = most_bytes (form_of k).key (form_of k).width

numbers_short : (k : Line) (line r : List ℕ) → line_numbers k line ≡ Some r → length line ≤ most k
unfolding line_numbers
numbers_short k line r e = line_short (form_of k).key (form_of k).width r line e

-- the lines that are no rows and may still come; End is the line past the last, which is refused
abbrev singles : Line → List Line
singles (One Job) = One Job ∷ One Facts ∷ One Init ∷ One Formulas ∷ One Moves ∷ One Goal ∷ One Objects ∷ One Program ∷ End ∷ []
singles (One Facts) = One Facts ∷ One Init ∷ One Formulas ∷ One Moves ∷ One Goal ∷ One Objects ∷ One Program ∷ End ∷ []
singles (One Init) = One Init ∷ One Formulas ∷ One Moves ∷ One Goal ∷ One Objects ∷ One Program ∷ End ∷ []
singles (One Formulas) = One Formulas ∷ One Moves ∷ One Goal ∷ One Objects ∷ One Program ∷ End ∷ []
singles (Of Formula) = One Moves ∷ One Goal ∷ One Objects ∷ One Program ∷ End ∷ []
singles (One Moves) = One Moves ∷ One Goal ∷ One Objects ∷ One Program ∷ End ∷ []
singles (Of Move) = One Goal ∷ One Objects ∷ One Program ∷ End ∷ []
singles (Of Effect) = One Goal ∷ One Objects ∷ One Program ∷ End ∷ []
singles (One Goal) = One Goal ∷ One Objects ∷ One Program ∷ End ∷ []
singles (One Objects) = One Objects ∷ One Program ∷ End ∷ []
singles (One Program) = One Program ∷ End ∷ []
singles (Of Row) = End ∷ []
singles End = End ∷ []

abbrev total : List Line → ℕ
total [] = 0
total (k ∷ ks) = most k + total ks

-- how many bytes may still come
abbrev bytes_ahead : Line → ℕ → ℕ → ℕ
bytes_ahead k due effects =
    let a = ahead k due effects in
    total (singles k) + (a.formulas * most (Of Formula) + (a.moves * most (Of Move) + (a.effects * most (Of Effect) + a.program * most (Of Row))))

abbrev ahead_of : Reading → ℕ
ahead_of s = bytes_ahead s.next s.due s.effects

-- a reading that goes on after n lines
record Place : Type 0 where
  n : ℕ
  s : Reading
  formed : FormedSoFar s

module _ (s : Reading) where
  abbrev c : Counts
  c = counts_of s.job

  -- after a line of the sort k fewer bytes may come, by its length
  abbrev Falls : Line → ℕ → ℕ → Line → Type 0
  Falls k due effects next = bytes_ahead next due effects + most k ≤ bytes_ahead k s.due s.effects

  -- a line that comes next is among the bytes that may come, and after it, where it is right, they
  -- are fewer
  falls_at : (r : List ℕ) (k : Line) → Room k s.due s.effects c
      → (most k ≤ bytes_ahead k s.due s.effects) × (LineRight k c r → Falls k (taken_at k s r).due (taken_at k s r).effects (taken_at k s r).next)
  falls_at r (One Job) h = omega arith
  falls_at r (One Facts) h = omega arith
  falls_at r (One Init) h = omega arith
  falls_at r (One Formulas) h = (
    omega arith,
    λ x. rows_has (Falls (One Formulas) _ _) Formula (get_or r 0 0) 0
        (λ y z. omega arith) (λ y z. omega (arith, x)) (λ z. absurd (z refl)),
  )
  falls_at r (Of Formula) h = (
    omega arith,
    λ x. rows_has (Falls (Of Formula) _ _) Formula (s.due - 1) s.effects
        (λ y z. omega arith) (λ y z. omega arith) (λ z. absurd (z h.owed.1)),
  )
  falls_at r (One Moves) h = (
    omega arith,
    λ x. rows_has (Falls (One Moves) _ _) Move (get_or r 0 0) 0
        (λ y z. omega arith) (λ y z. omega (arith, x, h.owed)) (λ z. absurd (z refl)),
  )
  falls_at r (Of Move) h = (
    omega arith,
    λ x. rows_has (Falls (Of Move) _ _) Move (s.due - 1) (get_or r 2 0)
        (λ y z. omega arith) (λ y z. omega arith) (λ z. omega (arith, leb-true (get_or r 2 0) most_move_effects x.0)),
  )
  falls_at r (Of Effect) h = (
    omega arith,
    λ x. rows_has (Falls (Of Effect) _ _) Effect s.due (s.effects - 1)
        (λ y z. omega arith) (λ y z. omega arith) (λ z. omega arith),
  )
  falls_at r (One Goal) h = omega arith
  falls_at r (One Objects) h = omega arith
  falls_at r (One Program) h = (
    omega arith,
    λ x. rows_has (Falls (One Program) _ _) Row (get_or r 0 0) 0
        (λ y z. omega arith) (λ y z. omega (arith, x)) (λ z. absurd (z refl)),
  )
  falls_at r (Of Row) h = (
    omega arith,
    λ x. rows_has (Falls (Of Row) _ _) Row (s.due - 1) s.effects
        (λ y z. omega arith) (λ y z. omega arith) (λ z. absurd (z h.owed.1)),
  )
  falls_at r End h = (omega arith, λ x. absurd x)

  abbrev reason : Option (List ℕ) → ℕ
  reason o = fault s.next c o

  module _ (n : ℕ) (formed : FormedSoFar s) where
    long_by : (line : List ℕ) (o : Option (List ℕ)) → line_numbers s.next line ≡ o → ahead_of s < length line → reason o ≡ 1
    unfolding fault
    long_by line None e h = refl
    long_by line (Some r) e h = absurd (omega (arith, numbers_short s.next line r e, (falls_at r s.next formed.room).0))

    -- a line that is longer than all that may come is of wrong form
    long_wrong : (line : List ℕ) (rest : List (List ℕ)) → ahead_of s < length line → read_from n s (line ∷ rest) ≡ refused 1 (n + 1)
    long_wrong line rest h =
        let e = long_by line (line_numbers s.next line) refl h in
        line_wrong n s line rest (λ z. omega (arith, e, z)) ∙ ap (λ k. refused k (n + 1)) e

    -- the same line before two rests: what is read of them decides
    module _ (line : List ℕ) (rest more : List (List ℕ))
        (after : (q : Place) → ahead_of q.s + length line ≤ ahead_of s → read_from q.n q.s rest ≡ read_from q.n q.s more) where
      both_wrong : (reason (line_numbers s.next line) ≡ 0 → ⊥) → read_from n s (line ∷ rest) ≡ read_from n s (line ∷ more)
      both_wrong h = line_wrong n s line rest h ∙ sym (line_wrong n s line more h)

      both_right : (r : List ℕ) → line_numbers s.next line ≡ Some r → reason (line_numbers s.next line) ≡ 0
          → read_from n s (line ∷ rest) ≡ read_from n s (line ∷ more)
      unfolding taken
      both_right r e z =
          let x = fault_right s.next c r (ap reason (sym e) ∙ z) in
          line_right n s line rest r e z
          ∙ after (record { n = n + 1; s = taken s r; formed = taken_formed s r x formed })
          (omega (arith, numbers_short s.next line r e, (falls_at r s.next formed.room).1 x))
          ∙ sym (line_right n s line more r e z)

      both_by : (o : Option (List ℕ)) → line_numbers s.next line ≡ o → read_from n s (line ∷ rest) ≡ read_from n s (line ∷ more)
      unfolding fault
      both_by None e = both_wrong (λ z. let y : ◌≡◌ {A = ℕ} 0 1 = sym z ∙ ap reason e in omega arith)
      both_by (Some r) e = elim (dec_lt 0 (reason (line_numbers s.next line))) [
        | yes h ↦ both_wrong (λ z. omega arith)
        | no h ↦ both_right r e (omega arith)
      ]

      both_lines : read_from n s (line ∷ rest) ≡ read_from n s (line ∷ more)
      both_lines = both_by (line_numbers s.next line) refl

-- so a program's buffer of 65,536 bytes is enough
pub long_text : (text : List ℕ) → 65536 ≤ length text → read_job text ≡ read_job (take 65536 text)
unfolding read_job
long_text text h = front_decides {S = Place} (λ p ls. read_from p.n p.s ls) (λ p. ahead_of p.s)
    (λ p line other rest more g k. long_wrong p.s p.n p.formed line rest g ∙ sym (long_wrong p.s p.n p.formed other more k))
    (λ p. both_lines p.s p.n p.formed)
    65536 (record { n = 0; s = begun; formed = begun_formed }) text (omega arith) h
