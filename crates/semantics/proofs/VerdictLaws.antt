-- Each list has at most one verdict, move lists have the same one against the program and against
-- its compiled job, and the plans among step lists are those among move lists.
-- Assumes nothing.
use Prim.Native.Nat.{ℕ}
use mathlib.Core.Path.{◌≡◌, refl, sym, subst}
use Rattle.std.specs.Prelude.{Some}
use mathlib.Core.List.{List}
use mathlib.Core.Logic.Iff
use mathlib.Core.Logic.{◌↔◌}
use Rattle.semantics.specs.Program.{Program, nil}
use Rattle.semantics.specs.Domain.{Domain}
use Rattle.semantics.specs.Transition.{Run}
use Rattle.semantics.specs.CompilingTable.{Step, compiled_steps, final_position}
use Rattle.semantics.specs.Path.{Path, moves_in}
use Rattle.semantics.specs.Plan.{cost}
use Rattle.semantics.specs.Verdict.{Verdict, plan, Entries, Judged, is_plan, by_runs, by_steps}
use Rattle.semantics.proofs.PathLaws.{state_after, path_moves, path_leads, front_of_steps, front_of_moves}
use Rattle.semantics.proofs.Agreement.{partial_runs, complete_runs}
use Rattle.semantics.proofs.OneVerdict.{Lawful, one_verdict, same_verdict}

-- move lists against the compiled job: silent steps may come anywhere
unfoldable pub by_paths : Domain → Program → Entries
by_paths D σ = record {
  Made = λ ms u. (p : ℕ) × (is : List ℕ) × Path D (compiled_steps D σ) D.start 0 is ms u p;
  Completed = λ ms u. (is : List ℕ) × Path D (compiled_steps D σ) D.start 0 is ms u (final_position D σ);
  cost_of = λ ms. cost D D.start ms;
}

module _ (D : Domain) (L : List Step) (e : ℕ) where
  steps_lawful : Lawful (by_steps D L e)
  unfolding by_steps
  steps_lawful = record {
    same = λ is u t x y. (cc (path_leads x.1, path_leads y.1, path_moves x.1, path_moves y.1));
    made = λ is u x. (e, x.0, x.1);
    fronts = λ i is u m. let v = front_of_steps i m.2 in (v.0, (v.1, v.2, v.3));
  }

  pub one_step_verdict : (is : List ℕ) (v w : Verdict) → Judged D (by_steps D L e) is v → Judged D (by_steps D L e) is w → v ≡ w
  one_step_verdict = one_verdict D (by_steps D L e) steps_lawful

module _ (D : Domain) (σ : Program) where
  paths_lawful : Lawful (by_paths D σ)
  unfolding by_paths
  paths_lawful = record {
    same = λ ms u t x y. (cc (path_leads x.1, path_leads y.1));
    made = λ ms u x. (final_position D σ, x.0, x.1);
    fronts = λ i ms u m. let v = front_of_moves i m.2 in (v.0, (v.1, v.2, v.3));
  }

  pub verdicts_agree : (ms : List ℕ) (v : Verdict) → Judged D (by_runs D σ) ms v ↔ Judged D (by_paths D σ) ms v
  unfolding by_runs by_paths
  verdicts_agree ms v = (
    same_verdict D (by_runs D σ) (by_paths D σ) ms (partial_runs D D.start σ) (complete_runs D D.start σ) refl,
    same_verdict D (by_paths D σ) (by_runs D σ) ms
        (λ ks u. Iff.symm (partial_runs D D.start σ ks u)) (λ ks u. Iff.symm (complete_runs D D.start σ ks u)) refl,
  )

  pub one_move_verdict : (ms : List ℕ) (v w : Verdict) → Judged D (by_runs D σ) ms v → Judged D (by_runs D σ) ms w → v ≡ w
  one_move_verdict ms v w j k = one_verdict D (by_paths D σ) paths_lawful ms v w ((verdicts_agree ms v).0 j) ((verdicts_agree ms w).0 k)

  -- the moves of a plan lead from the start to some state
  pub plan_leads : {ms : List ℕ} {c : ℕ} → Judged D (by_runs D σ) ms (plan c) → (u : ℕ) × (state_after D D.start ms ≡ Some u)
  unfolding by_runs
  plan_leads {ms} (is_plan {u} x g) = (u, path_leads ((complete_runs D D.start σ ms u).0 x).1)

  abbrev L : List Step
  L = compiled_steps D σ

  pub step_plan_is_move_plan : (is : List ℕ) (c : ℕ) → Judged D (by_steps D (compiled_steps D σ) (final_position D σ)) is (plan c)
      → Judged D (by_runs D σ) (moves_in (compiled_steps D σ) is) (plan c)
  unfolding by_runs by_steps
  step_plan_is_move_plan is c (is_plan {u} x g) =
      is_plan {u = u} (subst (λ (ms : List ℕ). Run D D.start σ ms u nil) (path_moves x.1) ((complete_runs D D.start σ x.0 u).1 (is, x.1))) g

  pub move_plan_has_step_plan : (ms : List ℕ) (c : ℕ) → Judged D (by_runs D σ) ms (plan c)
      → (is : List ℕ) × (moves_in (compiled_steps D σ) is ≡ ms) × Judged D (by_steps D (compiled_steps D σ) (final_position D σ)) is (plan c)
  unfolding by_runs by_steps
  move_plan_has_step_plan ms c (is_plan {u} x g) =
      let k = (complete_runs D D.start σ ms u).0 x in
      let e : moves_in L k.0 ≡ ms = sym (path_moves k.1) in
      (k.0, e, subst (λ (ks : List ℕ). Judged D (by_steps D L (final_position D σ)) k.0 (plan (cost D D.start ks))) e (is_plan {u = u} (ms, k.1) g))
