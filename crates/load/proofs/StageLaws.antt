-- Stages of the order of refusals: what passes them, and where a length decides.
-- Assumes nothing.
use Prim.Native.Nat.{ℕ, ◌≤◌, ◌<◌}
use mathlib.Core.Path.{◌≡◌, refl, sym, ap}
use mathlib.Core.Bool.{Bool, true, false, cond}
use lib.Dec.{leb}
use borrow.Author.Tests.{leb-true, le-leb, lt-leb}
use Rattle.laws.proofs.Tests.{never}
use Rattle.load.specs.Refusals.{Checked, passed, refused, next, long_enough}

-- what passes two stages passes the first, and then the second
pub passed_next : {A B : Type 0} (c : Checked A) (k : A → Checked B) {b : B} → next c k ≡ passed b → (a : A) × (c ≡ passed a) × (k a ≡ passed b)
passed_next (passed a) k e = (a, refl, e)
passed_next (refused number place) k e = never (cc)

module _ {A : Type 0} (places need : ℕ) (a : A) where
  by_length : {b : Bool} → leb need places ≡ b → cond b (passed a) (refused 6 need) ≡ long_enough places need a
  by_length f = ap (λ (x : Bool). cond x (passed a) (refused 6 need)) (sym f)

  pub long_enough_lem : need ≤ places → passed a ≡ long_enough places need a
  long_enough_lem l = by_length (le-leb need places l)

  pub too_short : places < need → refused 6 need ≡ long_enough places need a
  too_short l = by_length (lt-leb need places l)

  pub long_passed : {b : A} → long_enough places need a ≡ passed b → (a ≡ b) × (need ≤ places)
  long_passed {b} e = by (leb need places) refl e
    where
      by : (x : Bool) → leb need places ≡ x → cond x (passed a) (refused 6 need) ≡ passed b → (a ≡ b) × (need ≤ places)
      by true f g = (cc, leb-true need places f)
      by false f g = never (cc)
