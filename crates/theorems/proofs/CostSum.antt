-- What a plan costs is the sum along its states, by the class costs that were loaded, and the least cost is
-- the least such sum; so are the judge's costs and the sheet's totals. Where no second class costs
-- anything, it is the plain sum of the first ones.
-- Assumes nothing.
use Prim.Native.Nat.{ℕ, zero, suc}
use mathlib.Core.Path.{◌≡◌, refl, sym, ◌∙◌, subst}
use mathlib.Core.Bool.{Bool, true, false}
use Rattle.std.specs.Prelude.{Option, None, Some}
use mathlib.Core.List.{List, [], ◌∷◌}
use mathlib.Core.Logic.{◌↔◌}
use native.Mathlib.Omega.{arith}
use lib.ListN.{take}
use Rattle.laws.proofs.Tests.{never}
use Rattle.job.specs.Job.{move_at}
use Rattle.job.specs.Task.{Task, class_cost}
use Rattle.semantics.specs.Domain.{Domain}
use Rattle.semantics.specs.Plan.{cost, Allowed, Least}
use Rattle.semantics.proofs.CostLaws.{cost_first}
use Rattle.semantics.proofs.PathLaws.{state_after}
use Rattle.semantics.proofs.VerdictLaws.{plan_leads}
use Rattle.domain.specs.Domain.{cost_in, domain_of}
use Rattle.compile.specs.Program.{program_of}
use Rattle.layout.specs.declared.line.SheetLine.{SheetLine}
use Rattle.load.specs.Refusals.{Checked, Offer}
use Rattle.load.specs.View.{view_of}
use Rattle.load.specs.declared.request.Given.{Given}
use Rattle.jesmovit.specs.Outcomes.{SizedJudgement}
use Rattle.theorems.specs.Accepted.{AcceptedTask}
use Rattle.theorems.specs.Decided.{Decided}
use Rattle.theorems.specs.LaysOut.{Shows}
use Rattle.theorems.specs.CostSum.{second_cost, CostsAlong, no_move, first_alone, with_second, PlanCosts, LeastAlong, class_sum}
use Rattle.theorems.proofs.JudgeDecides.{allowed_plan}

module _ (t : Task) where
  abbrev D : Domain
  D = domain_of t

  -- a list has one such sum at most, its cost
  pub along_cost : {w c : ℕ} {ms : List ℕ} → CostsAlong t w ms c → cost D w ms ≡ c
  unfolding cost cost_in
  along_cost no_move = refl
  along_cost (first_alone {w} {u} {m} {ms} off made rest) = cost_first D w u m ms made ∙ rw (off, along_cost rest) (omega arith)
  along_cost (with_second {w} {u} {m} {ms} on made rest) = cost_first D w u m ms made ∙ rw (on, along_cost rest)

  -- moves that lead somewhere have one
  sum_along : (ms : List ℕ) (w u : ℕ) → state_after D w ms ≡ Some u → CostsAlong t w ms (cost D w ms)
  unfolding state_after cost
  sum_along [] w u e = no_move
  sum_along (m ∷ ms) w u e = by (D.successor m w) refl e (λ v. sum_along ms v u)
    where
      by : (o : Option ℕ) → D.successor m w ≡ o → elim o [ None ↦ None | Some v ↦ state_after D v ms ] ≡ Some u
          → ((v : ℕ) → state_after D v ms ≡ Some u → CostsAlong t v ms (cost D v ms)) → CostsAlong t w (m ∷ ms) (cost D w (m ∷ ms))
      by None f e g = never (cc)
      by (Some v) f e g = with_formula (D.holds (move_at t.job m).when w) refl
        where
          with_formula : (b : Bool) → D.holds (move_at t.job m).when w ≡ b → CostsAlong t w (m ∷ ms) (cost D w (m ∷ ms))
          with_formula true on = let x = with_second on f (g v e) in subst (CostsAlong t w (m ∷ ms)) (sym (along_cost x)) x
          with_formula false off = let x = first_alone off f (g v e) in subst (CostsAlong t w (m ∷ ms)) (sym (along_cost x)) x

  -- and so have the first of them
  front_along : {w c : ℕ} {ms : List ℕ} → CostsAlong t w ms c → (i : ℕ) → (d : ℕ) × CostsAlong t w (take i ms) d
  front_along x zero = (0, no_move)
  front_along no_move (suc i) = (0, no_move)
  front_along {w = w} (first_alone {u = u} off made rest) (suc i) =
      let x = front_along {w = u} rest i in (_, first_alone off made x.1)
  front_along {w = w} (with_second {u = u} on made rest) (suc i) =
      let x = front_along {w = u} rest i in (_, with_second on made x.1)

  -- "A plan's cost is summed along its worlds"
  pub cost_is_sum : (ms : List ℕ) → Allowed D (program_of t.job) ms → PlanCosts t ms (cost D D.start ms)
  cost_is_sum ms a = let leads = plan_leads D (program_of t.job) (allowed_plan D (program_of t.job) ms a) in
      (a, sum_along ms D.start leads.0 leads.1)

  -- "and so is the least"
  pub least_is_along : (c : ℕ) → Least D (program_of t.job) c ↔ LeastAlong t c
  least_is_along c = (
    λ l. record {
      best = l.best;
      costs = subst (PlanCosts t l.best) l.costs (cost_is_sum l.best l.allowed);
      least = λ ms d p. omega (arith, l.least ms p.0, along_cost p.1);
    },
    λ l. record {
      best = l.best;
      allowed = l.costs.0;
      costs = along_cost l.costs.1;
      least = λ ms a. l.least ms _ (cost_is_sum ms a);
    },
  )

  -- where no second class costs anything
  module _ (free : (m : ℕ) → second_cost t m ≡ 0) where
    along_plain : {w c : ℕ} {ms : List ℕ} → CostsAlong t w ms c → c ≡ class_sum t ms
    unfolding class_sum
    along_plain no_move = refl
    along_plain (first_alone off made rest) = omega (arith, along_plain rest)
    along_plain (with_second {m} on made rest) = omega (arith, along_plain rest, free m)

    pub cost_is_plain_sum : (ms : List ℕ) → Allowed D (program_of t.job) ms → cost D D.start ms ≡ class_sum t ms
    cost_is_plain_sum ms a = along_plain (cost_is_sum ms a).1

-- so the total on each line of an allowed list's sheet (`sheet_right`) is the sum of the moves up to there
pub shown_along : (t : Task) (ms : List ℕ) → Allowed (domain_of t) (program_of t.job) ms → (i : ℕ) (l : SheetLine) → Shows (domain_of t) ms i l
    → CostsAlong t (domain_of t).start (take (suc i) ms) l.total
shown_along t ms a i l shows =
    let x = front_along t (cost_is_sum t ms a).1 (suc i) in
    subst (CostsAlong t (domain_of t).start (take (suc i) ms)) (sym (along_cost t x.1) ∙ sym shows.total) x.1

-- and the costs that the judge says of an allowed list (`judge_decides`) are these sums
pub decided_along : (o : Offer) {outcome : Checked SizedJudgement} → Allowed (view_of o).domain (view_of o).program o.entries
    → (d : Decided (view_of o) outcome) → PlanCosts o.task o.entries d.own × LeastAlong o.task d.low
decided_along o a d = (
  subst (PlanCosts o.task o.entries) d.own_cost (cost_is_sum o.task o.entries a),
  (least_is_along o.task d.low).0 d.low_cost,
)

-- "formula 0 and class 0, which changes no cost": class 0 costs nothing, by whatever costs are accepted
class_zero_free : (g : Given) (text costs : List ℕ) (t : Task) → AcceptedTask g text costs t → ((m : ℕ) → (move_at t.job m).second ≡ 0)
    → (m : ℕ) → second_cost t m ≡ 0
unfolding class_cost
class_zero_free g text costs t a second m = rw (second m) (by g.costs refl)
  where
    by : (b : Bool) → g.costs ≡ b → class_cost t.costs 0 ≡ 0
    by true e = (a.its_costs e).free
    by false e = rw (a.house e)

pub class_zero_plain : (g : Given) (text costs : List ℕ) (t : Task) → AcceptedTask g text costs t → ((m : ℕ) → (move_at t.job m).second ≡ 0)
    → (ms : List ℕ) → Allowed (domain_of t) (program_of t.job) ms → cost (domain_of t) (domain_of t).start ms ≡ class_sum t ms
class_zero_plain g text costs t a second = cost_is_plain_sum t (class_zero_free g text costs t a second)
