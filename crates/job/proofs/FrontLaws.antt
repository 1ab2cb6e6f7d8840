-- A line is judged and taken in by no more numbers than it has.
-- Assumes nothing.
use Prim.Native.Nat.{ℕ}
use mathlib.Core.Path.{◌≡◌, refl}
use mathlib.Core.List.{List, [], ◌∷◌}
use lib.ListN.{length, take}
use Rattle.job.specs.Fault.{reason_of}
use Rattle.job.specs.Line.{form_of}
use Rattle.job.specs.ReadJob.{Reading, taken_at}
use Rattle.job.specs.Store.{width}
use Rattle.job.specs.declared.head.Counts.{Counts}
use Rattle.job.specs.declared.line.Line.{Line}
use Rattle.job.specs.declared.line.Line.TheVariants.{One, Of, End}
use Rattle.job.specs.declared.line.RowSort.TheVariants.{Formula, Move, Effect, Row}
use Rattle.job.proofs.StoreLaws.{by_columns}

module _ (c : Counts) (s : Reading) where
  abbrev Front : Line → List ℕ → Type 0
  Front k n = (reason_of k c (take (form_of k).width n) ≡ reason_of k c n) × (taken_at k s (take (form_of k).width n) ≡ taken_at k s n)

  front : (k : Line) (x₀ x₁ x₂ x₃ x₄ x₅ x₆ x₇ : ℕ) → Front k (x₀ ∷ x₁ ∷ x₂ ∷ x₃ ∷ x₄ ∷ x₅ ∷ x₆ ∷ x₇ ∷ [])
  front (One h) x₀ x₁ x₂ x₃ x₄ x₅ x₆ x₇ = (refl, refl)
  front (Of Formula) x₀ x₁ x₂ x₃ x₄ x₅ x₆ x₇ = (refl, refl)
  front (Of Move) x₀ x₁ x₂ x₃ x₄ x₅ x₆ x₇ = (refl, refl)
  front (Of Effect) x₀ x₁ x₂ x₃ x₄ x₅ x₆ x₇ = (refl, refl)
  front (Of Row) x₀ x₁ x₂ x₃ x₄ x₅ x₆ x₇ = (refl, refl)
  front End x₀ x₁ x₂ x₃ x₄ x₅ x₆ x₇ = (refl, refl)

  pub line_front : (k : Line) (n : List ℕ) → length n ≡ width → Front k n
  line_front k = by_columns (Front k) (front k)
