-- "A world is a whole number; its bit i (worth 2^i) says that fact i is true." Facts and formulas in
-- such a state.
use Rattle.std.specs.Prelude.{ℕ, zero, suc, ◌+◌, ◌/◌, ◌%◌, ◌^◌, ◌<◌, ◌≡◌, Bool, true, false, not, ◌&&◌, ◌||◌, cond, eqb, get_or}
use mathlib.Core.List.{List, [], ◌∷◌, ◌++◌, foldl}
use Rattle.job.specs.Job.{Formula}

unfoldable pub fact : ℕ → ℕ → Bool
fact w i = eqb (w / 2 ^ i % 2) 1

-- the bits of w are the facts that p tells, all of them below n
pub record HasFacts (n : ℕ) (p : ℕ → Bool) (w : ℕ) : Type 0 where
  pub below : w < 2 ^ n
  pub facts : (i : ℕ) → fact w i ≡ p i

-- the state in which, of so many facts, those are true that p tells
unfoldable pub state_with : ℕ → (ℕ → Bool) → ℕ
state_with zero p = 0
state_with (suc n) p = cond (p n) (2 ^ n) 0 + state_with n p

-- "0 false, 1 true, 2 fact a, 3 not formula a, 4 formulas a and b, 5 a or b", where vs are the
-- values of the formulas before
unfoldable pub value : ℕ → List Bool → Formula → Bool
value w vs f =
    cond (eqb f.kind 0) false
    (cond (eqb f.kind 1) true
    (cond (eqb f.kind 2) (fact w f.a)
    (cond (eqb f.kind 3) (not (get_or vs f.a false))
    (cond (eqb f.kind 4) (get_or vs f.a false && get_or vs f.b false) (get_or vs f.a false || get_or vs f.b false)))))

-- the values of formulas, each from those before it
unfoldable pub values : ℕ → List Formula → List Bool
values w fs = foldl (λ vs f. vs ++ (value w vs f ∷ [])) [] fs
