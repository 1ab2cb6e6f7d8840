-- The judgement that a computed cost table gives is the one by the program's own runs.
-- Assumes nothing.
use Prim.Native.Nat.{ℕ, zero, suc, ◌*◌, ◌<◌}
use mathlib.Core.Path.{◌≡◌, refl}
use mathlib.Core.Bool.{Bool, true, false, cond, ◌&&◌}
use Rattle.std.specs.Prelude.{Option, None, Some}
use mathlib.Core.List.{List}
use Rattle.std.specs.Bool.{then_some}
use native.Mathlib.Omega.{arith}
use native.Mathlib.Numerals.{add-one}
use lib.Dec.{ltb}
use lib.ListN.{get_or, replicate}
use borrow.Author.Tests.{ltb-true, ltb-false}
use Rattle.laws.proofs.Tests.{never, cond_some}
use Rattle.limits.specs.Limits.{most_cost}
use Rattle.job.specs.Task.{Task, CostsWithin}
use Rattle.semantics.specs.Domain.{Domain}
use Rattle.semantics.specs.Verdict.{Verdict, plan, blocked, unfinished, missed, Judged, by_runs}
use Rattle.semantics.specs.CostTable.{unreached, Filled, LeastOr}
use Rattle.semantics.specs.Cells.{cell, Graph}
use Rattle.semantics.proofs.CellLaws.{cell_count}
use Rattle.semantics.specs.Judgement.{Judgement, other, Finds, is_other}
use Rattle.domain.specs.Domain.{domain_of}
use Rattle.domain.proofs.DomainLaws.{domain_bounded}
use Rattle.compile.specs.Program.{program_of}
use Rattle.compile.specs.CompiledJob.{steps_of, final_position_of, position_count}
use Rattle.validate.specs.declared.verdict.Verdict.TheVariants.{Plan}
use Rattle.search.specs.Filling.{Lowest, Lower, kept, lower, least_in}
use Rattle.search.proofs.GraphLaws.{compiled_closed}
use Rattle.search.proofs.LowestLaws.{lowest_none, lowest_more, lowest_least}
use Rattle.load.specs.View.{view_of}
use Rattle.jesmovit.specs.Outcomes.{judgement_of}
use Rattle.jesmovit.specs.Judging.{compared}
use Rattle.jesmovit.proofs.JudgeLaws.{judged_plan}
use Rattle.theorems.specs.Accepted.{AcceptedJob}
use Rattle.theorems.proofs.Acceptance.{needs_within}
use Rattle.theorems.proofs.ComputedTable.{computed_table, relaxed_below, computed_filled}

abbrev lesser : Bool → ℕ → ℕ → ℕ
lesser goal least x = cond (goal && ltb x least) x least

-- the least entry at position e of the first n states where the goal holds
unfoldable pub lowest_below : Domain → ℕ → List ℕ → ℕ → ℕ → ℕ
lowest_below D positions T e zero = unreached
lowest_below D positions T e (suc n) = lesser (D.goal n) (lowest_below D positions T e n) (get_or T (cell positions n e) 0)

lesser_lower : (goal : Bool) (least x : ℕ) → Lower goal least x (lesser goal least x)
lesser_lower false least x = kept (λ g. never g)
lesser_lower true least x = by (ltb x least) refl
  where
    by : (b : Bool) → ltb x least ≡ b → Lower true least x (cond b x least)
    by true e = lower refl (ltb-true x least e)
    by false e = kept (λ g. ltb-false x least e)

lowest_below_lem : (D : Domain) (positions : ℕ) (T : List ℕ) (e n : ℕ) → Lowest D positions T e n (lowest_below D positions T e n)
unfolding lowest_below
lowest_below_lem D positions T e zero = lowest_none
lowest_below_lem D positions T e (suc n) = rw (← add-one n) (lowest_more n (lowest_below_lem D positions T e n) (lesser_lower (D.goal n) _ _))

-- an entry that is a cost is that cost
least_is : (n c : ℕ) → least_in n ≡ Some c → n ≡ c
least_is n c = by (ltb n unreached)
  where
    by : (b : Bool) → then_some b n ≡ Some c → n ≡ c
    by true e = cc
    by false e = never (cc)

abbrev graph_of : Task → Graph
graph_of t = record { domain = domain_of t; steps = steps_of t.job; positions = position_count t.job }

-- ten rounds are enough for the marked cases
abbrev table_of : Task → List ℕ
table_of t = computed_table (graph_of t) 10

abbrev least_of : Task → ℕ
least_of t = lowest_below (domain_of t) (position_count t.job) (table_of t) (final_position_of t.job) (domain_of t).states

-- a list of moves of this verdict; none where more rounds are needed
unfoldable pub computed_judgement : Task → Verdict → Option Judgement
computed_judgement t (plan c) = cond (relaxed_below (graph_of t) (table_of t) (domain_of t).states) (Some (judgement_of (compared c (least_of t)))) None
computed_judgement t (blocked i) = Some (other (blocked i))
computed_judgement t unfinished = Some (other unfinished)
computed_judgement t missed = Some (other missed)

module _ (text : List ℕ) (t : Task) (accepted : AcceptedJob text t.job) (within : CostsWithin t.costs) where
  table_filled : relaxed_below (graph_of t) (table_of t) (domain_of t).states ≡ true
      → Filled (domain_of t) (steps_of t.job) (position_count t.job) (replicate (cell_count (graph_of t)) unreached) (table_of t)
  table_filled ok =
      let fits : cell_count (graph_of t) * most_cost < unreached = omega (arith, (needs_within text t accepted).1) in
      computed_filled (graph_of t) (compiled_closed (domain_of t) (program_of t.job) (domain_bounded t accepted.right within) refl) (omega arith) fits 10 ok

  least_or : relaxed_below (graph_of t) (table_of t) (domain_of t).states ≡ true → LeastOr (domain_of t) (program_of t.job) (least_in (least_of t))
  least_or ok = lowest_least (domain_of t) (program_of t.job) (domain_bounded t accepted.right within) refl (table_filled ok) (lowest_below_lem _ _ _ _ _)

  module _ (ms : List ℕ) where
    abbrev Gets : Verdict → Type 0
    Gets v = Judged (domain_of t) (by_runs (domain_of t) (program_of t.job)) ms v

    other_finds : (v : Verdict) (g : Judgement) → Gets v → ((c : ℕ) → v ≡ plan c → ⊥)
        → ◌≡◌ {A = Option Judgement} (Some (other v)) (Some g) → Finds (domain_of t) (program_of t.job) ms g
    other_finds v g x f e = let k : other v ≡ g = cc in rw k at (is_other x f)

    pub computed_finds : (v : Verdict) (g : Judgement) → Judged (domain_of t) (by_runs (domain_of t) (program_of t.job)) ms v
        → computed_judgement t v ≡ Some g → Finds (domain_of t) (program_of t.job) ms g
    unfolding computed_judgement
    computed_finds (plan c) g x e =
        let v = cond_some (relaxed_below (graph_of t) (table_of t) (domain_of t).states) e in
        let k : judgement_of (compared c (least_of t)) ≡ g = cc v.1 in
        rw k at (judged_plan (view_of (record { task = t; entries = ms })) _ (Plan c) x refl refl (table_filled v.0) (least_or v.0) (least_is (least_of t)) refl).finds
    computed_finds (blocked i) g x e = other_finds (blocked i) g x (λ c h. never (cc)) e
    computed_finds unfinished g x e = other_finds unfinished g x (λ c h. never (cc)) e
    computed_finds missed g x e = other_finds missed g x (λ c h. never (cc)) e
