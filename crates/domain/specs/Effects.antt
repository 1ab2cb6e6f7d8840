-- The effects of a move, without an order: which facts they set, clear or keep, and where they conflict.
use Rattle.std.specs.Prelude.{ℕ, Bool, true, false, ◌&&◌, cond, List, eqb, get_or}
use Rattle.std.specs.List.{list_any}
use Rattle.job.specs.Job.{Effect}
use Rattle.domain.specs.State.{fact, HasFacts, state_with}

-- an effect that holds, by the formulas' values vs, and gives fact i the value v
unfoldable pub gives : List Bool → ℕ → ℕ → Effect → Bool
gives vs v i e = get_or vs e.cond false && eqb e.value v && eqb e.fact i

-- whether the fact gets it by one of the effects
unfoldable pub gets : List Bool → List Effect → ℕ → ℕ → Bool
gets vs es v i = list_any (gives vs v i) es

-- "its effects that hold both clear and set one fact"
unfoldable pub conflicts : List Bool → List Effect → Bool
conflicts vs es = list_any (λ e. gets vs es 0 e.fact && gets vs es 1 e.fact) es

-- a fact after effects: set, cleared or kept. No fact is both set and cleared where they don't conflict
unfoldable pub fact_after : List Bool → List Effect → ℕ → ℕ → Bool
fact_after vs es w i = cond (gets vs es 1 i) true (cond (gets vs es 0 i) false (fact w i))

-- the state after them, of so many facts
unfoldable pub affected : ℕ → List Bool → List Effect → ℕ → ℕ
affected n vs es w = state_with n (fact_after vs es w)

-- c is the set of facts that are cleared, s of those that are set, of so many facts
pub record ChangesAre (n : ℕ) (vs : List Bool) (es : List Effect) (c s : ℕ) : Type 0 where
  pub cleared : HasFacts n (gets vs es 0) c
  pub set : HasFacts n (gets vs es 1) s
