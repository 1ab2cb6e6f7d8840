-- What the judge finds of a list of moves, from the check's verdict and the least cost.
-- Assumes nothing.
use Prim.Native.Nat.{ℕ}
use mathlib.Core.Path.{◌≡◌, refl, sym, subst}
use mathlib.Core.Bool.{Bool, true, false, cond}
use mathlib.Core.List.{List}
use Rattle.std.specs.Prelude.{Option, Some}
use native.Mathlib.Omega.{arith}
use lib.Dec.{leb}
use borrow.Author.Tests.{leb-true, leb-false}
use Rattle.laws.proofs.Tests.{never}
use Rattle.semantics.specs.Program.{Program}
use Rattle.semantics.specs.Domain.{Domain}
use Rattle.semantics.specs.CostTable.{Filled, LeastOr, found, no_plan}
use Rattle.semantics.specs.Plan.{Allowed, Least}
use Rattle.semantics.specs.Verdict as S
use Rattle.semantics.specs.Verdict.{by_runs, is_plan}
use Rattle.semantics.specs.Judgement.{is_least, is_dearer, is_other}
use Rattle.semantics.proofs.JudgementLaws.{plan_at_least}
use Rattle.validate.specs.Verdict.{verdict_of}
use Rattle.validate.specs.declared.verdict.Verdict.{Verdict}
use Rattle.load.specs.View.{View, view_steps, positions_of}
use Rattle.load.specs.declared.request.Sort.TheVariants.{Moves}
use Rattle.jesmovit.specs.Outcomes.{judgement_of}
use Rattle.jesmovit.specs.Checking.{Says}
use Rattle.jesmovit.specs.Judging.{compared, Found}
use Rattle.jesmovit.specs.declared.judging.Judgement.{Judgement}
use Rattle.jesmovit.proofs.CostLaws.{table_of}

-- a plan is allowed, so there is a least cost
module _ (D : Domain) (σ : Program) where
  least_allowed : {o : Option ℕ} {low : ℕ} → LeastOr D σ o → ((c : ℕ) → o ≡ Some c → low ≡ c) → {ms : List ℕ} → Allowed D σ ms → Least D σ low
  least_allowed (found {c} h x) is a = rw (is c refl) x
  least_allowed (no_plan h) is {ms} a = absurd (h ms a)

  judged_allowed : {ms : List ℕ} {c : ℕ} → S.Judged D (by_runs D σ) ms (S.plan c) → Allowed D σ ms
  unfolding by_runs
  judged_allowed (is_plan {u} x g) = record { last = u; run = x; reached = g }

-- a verdict of another variant is no plan
pub other_variant : (v : Verdict) → ((x : ℕ) → v ≡ Verdict.Plan x → ⊥) → (c : ℕ) → verdict_of v ≡ S.plan c → ⊥
other_variant (Verdict.Plan k) o c f = o k refl
other_variant (Verdict.Blocked i) o c f = never (cc)
other_variant Verdict.Unfinished o c f = never (cc)
other_variant Verdict.Missed o c f = never (cc)

module _ (v : View) (table : List ℕ) (w : Verdict) (said : Says Moves v (verdict_of w)) where
  abbrev D : Domain
  D = v.domain

  abbrev σ : Program
  σ = v.program

  pub judged_other : ((x : ℕ) → w ≡ Verdict.Plan x → ⊥) → Found v (judgement_of (Judgement.Other w)) table table
  judged_other o = record { finds = is_other said (other_variant w o); table = refl }

  module _ {cost low positions : ℕ} {after : List ℕ} (e : w ≡ Verdict.Plan cost) (p : positions ≡ positions_of v)
      (x : Filled v.domain (view_steps v) positions table after) {o : Option ℕ} (l : LeastOr v.domain v.program o)
      (is : (c : ℕ) → o ≡ Some c → low ≡ c) where
    planned : S.Judged D (by_runs D σ) v.entries (S.plan cost)
    planned = rw e at said

    lowest : Least D σ low
    lowest = least_allowed D σ l is (judged_allowed D σ planned)

    by_cost : (b : Bool) → leb cost low ≡ b → Found v (judgement_of (cond b (Judgement.Least cost) (Judgement.Dearer cost low))) table after
    by_cost true f =
        let same : low ≡ cost = omega (arith, leb-true cost low f, plan_at_least D σ v.entries cost low planned lowest) in
        record { finds = is_least planned (rw same at lowest); table = table_of p x }
    by_cost false f = record { finds = is_dearer planned lowest (leb-false cost low f); table = table_of p x }

    pub judged_plan : {g : Judgement} → g ≡ compared cost low → Found v (judgement_of g) table after
    judged_plan f = subst (λ (g : Judgement). Found v (judgement_of g) table after) (sym f) (by_cost (leb cost low) refl)
