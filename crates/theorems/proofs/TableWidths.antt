-- A filled table beside one of another width: the same entries where these fitted.
-- Assumes nothing.
use Prim.Native.Nat.{ℕ, ◌+◌, ◌*◌, ◌<◌}
use mathlib.Core.Path.{◌≡◌, refl}
use mathlib.Core.List.{List}
use native.Mathlib.Omega.{arith}
use lib.ListN.{get_or}
use Rattle.semantics.specs.Domain.{Domain}
use Rattle.semantics.specs.CompilingTable.{Step}
use Rattle.semantics.specs.CostTable.{unreached, Entry, reached, not_reached, Filled}
use Rattle.semantics.proofs.FilledLaws.{filled_least}
use Rattle.theorems.specs.TableWidths.{EntryBelow, fitted, unreachable}

module _ (D : Domain) (L : List Step) (n : ℕ) {old new : List ℕ} (filled : Filled D L n old new) (far s q : ℕ)
    (state : s < D.states) (position : q < n) where
  -- "Every reachable entry that fitted before keeps its number."
  pub entry_kept : (a : ℕ) → EntryBelow far D L s q a → a < far → get_or new (s * n + q) 0 ≡ a
  entry_kept a (fitted h x) l = filled_least D L n filled s q a state position x
  entry_kept a (unreachable f) l = absurd (omega arith)

  -- and one that said that nothing is reached says so
  none_kept_at : {a : ℕ} → EntryBelow far D L s q a → a ≡ far → get_or new (s * n + q) 0 ≡ unreached
  none_kept_at (fitted h x) e = absurd (omega arith)
  none_kept_at (unreachable f) e = by _ (filled.entries s q state position)
    where
      by : (d : ℕ) → Entry D L s q d → d ≡ unreached
      by d (reached h x) = absurd (f _ _ x.path)
      by d (not_reached g) = refl

  pub none_kept : EntryBelow far D L s q far → get_or new (s * n + q) 0 ≡ unreached
  none_kept x = none_kept_at x refl
