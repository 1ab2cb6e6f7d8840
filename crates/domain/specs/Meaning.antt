-- What a formula says: "0 false, 1 true, 2 fact a, 3 not formula a, 4 formulas a and b, 5 a or b".
use Rattle.std.specs.Prelude.{ℕ, ◌<◌, Bool, true, false, not, ◌&&◌, ◌||◌, cond, List, eqb, get_or}
use Rattle.job.specs.Job.{Formula}
use Rattle.domain.specs.State.{fact}
use Rattle.domain.specs.declared.meaning.Meaning.{Meaning}
use Rattle.domain.specs.declared.meaning.Meaning.TheVariants as M

abbrev pub meaning_of : Formula → Meaning
meaning_of f =
    cond (eqb f.kind 0) M.False
    (cond (eqb f.kind 1) M.True
    (cond (eqb f.kind 2) (M.Fact f.a)
    (cond (eqb f.kind 3) (M.Not f.a)
    (cond (eqb f.kind 4) (M.Both f.a f.b) (M.Either f.a f.b)))))

-- its value in a state, where vs are the values of the formulas before
abbrev pub told : ℕ → List Bool → Meaning → Bool
told w vs M.False = false
told w vs M.True = true
told w vs (M.Fact a) = fact w a
told w vs (M.Not a) = not (get_or vs a false)
told w vs (M.Both a b) = get_or vs a false && get_or vs b false
told w vs (M.Either a b) = get_or vs a false || get_or vs b false

-- one on a fact is on one of so many
abbrev pub OnFacts : ℕ → Meaning → Type 0
OnFacts n M.False = Unit {0}
OnFacts n M.True = Unit {0}
OnFacts n (M.Fact a) = a < n
OnFacts n (M.Not a) = Unit {0}
OnFacts n (M.Both a b) = Unit {0}
OnFacts n (M.Either a b) = Unit {0}
