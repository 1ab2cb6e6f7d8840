-- Which steps can be made silently, by values that tell a state's formulas.
-- Assumes nothing.
use Rattle.std.proofs.Common.{◌≡◌, ℕ, Bool, false, not, List, get_or, refl, ap}
use mathlib.Core.Path.{fun_ext}
use Rattle.semantics.specs.Label.{Label, noop, holds, fails, make}
use Rattle.semantics.specs.Domain.{Domain}
use Rattle.semantics.specs.PositionSets.{silent_in}
use Rattle.compiled.specs.Steps.{silent_by}

module _ (D : Domain) (s : ℕ) (values : List Bool) (told : (a : ℕ) → get_or values a false ≡ D.holds a s) where
  pub same_label : (l : Label) → silent_by values l ≡ silent_in D s l
  unfolding silent_by silent_in
  same_label noop = refl
  same_label (holds a) = told a
  same_label (fails a) = ap not (told a)
  same_label (make a) = refl

  pub silent_told : silent_by values ≡ silent_in D s
  silent_told = fun_ext same_label
