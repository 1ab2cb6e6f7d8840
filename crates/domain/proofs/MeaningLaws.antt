-- What a formula says, by its numbers.
-- Assumes nothing.
use Rattle.std.proofs.Common.{ℕ, ◌≡◌, Bool, true, false, cond, List, refl}
use Rattle.job.specs.Job.{Formula}
use Rattle.domain.specs.State.{value}
use Rattle.domain.specs.Meaning.{meaning_of, told}
use Rattle.domain.specs.declared.meaning.Meaning.{Meaning}

told_cond : (w : ℕ) (vs : List Bool) (b : Bool) (x y : Meaning) → told w vs (cond b x y) ≡ cond b (told w vs x) (told w vs y)
told_cond w vs true x y = refl
told_cond w vs false x y = refl

pub told_meaning : (w : ℕ) (vs : List Bool) (f : Formula) → told w vs (meaning_of f) ≡ value w vs f
unfolding value
told_meaning w vs f = simp told_cond
