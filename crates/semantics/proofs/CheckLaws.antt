-- The verdict that position sets give is the verdict by the program's own runs.
-- Assumes nothing.
use Prim.Native.Nat.{ℕ, ◌<◌}
use mathlib.Core.Path.{refl}
use mathlib.Core.Bool.{Bool}
use mathlib.Core.List.{List}
use mathlib.Core.Logic.{◌↔◌}
use native.Mathlib.Omega.{arith}
use Rattle.semantics.specs.Label.{Label}
use Rattle.semantics.specs.Program.{Program}
use Rattle.semantics.specs.Domain.{Domain}
use Rattle.semantics.specs.CompilingTable.{Step, compiled_steps, final_position}
use Rattle.semantics.specs.Path.{StepAt, Path}
use Rattle.semantics.specs.Verdict.{Judged, by_runs}
use Rattle.semantics.specs.PositionSets.{Configurations, first_set, verdict_by}
use Rattle.semantics.proofs.Taken.{path_chain, chain_path}
use Rattle.semantics.proofs.Compiled.{compiled}
use Rattle.semantics.proofs.OneVerdict.{same_verdict}
use Rattle.semantics.proofs.VerdictLaws.{by_paths, verdicts_agree}
use Rattle.semantics.proofs.Reach.{Reach}
use Rattle.semantics.proofs.FirstSet.{first_settled, first_reach}
use Rattle.semantics.proofs.SetVerdict.{by_set, set_judged}

module _ (D : Domain) (σ : Program) where
  abbrev L : List Step
  L = compiled_steps D σ

  module _ (n : ℕ) (above : final_position D σ < n) where
    abbrev S : List Bool
    S = first_set D L n D.start

    inside : (i p q : ℕ) (l : Label) → StepAt L i p l q → q < n
    inside i p q l h = omega (arith, (compiled D σ 0).range h)

    set_path : {u q : ℕ} {ms : List ℕ} → Reach D L D.start S ms u q ↔ ((is : List ℕ) × Path D L D.start 0 is ms u q)
    set_path = let f = first_reach D L n D.start (omega arith) inside in (λ x. chain_path (f.0 x), λ k. f.1 (path_chain k.1))

    set_partial_path : {u : ℕ} {ms : List ℕ} → ((q : ℕ) × Reach D L D.start S ms u q) ↔ ((p : ℕ) × (is : List ℕ) × Path D L D.start 0 is ms u p)
    set_partial_path = (λ x. let k = set_path.0 x.1 in (x.0, k.0, k.1), λ y. (y.0, set_path.1 (y.1, y.2)))

    abbrev first : Configurations
    first = record { state = D.start; marks = S }

    pub verdict_by_judged : (ms : List ℕ) → Judged D (by_runs D σ) ms (verdict_by n D σ ms)
    unfolding verdict_by by_set by_paths
    verdict_by_judged ms =
        let j = set_judged D L (final_position D σ) ms first (first_settled D L n D.start (omega arith) inside) in
        (verdicts_agree D σ ms _).1 (same_verdict D (by_set D L (final_position D σ) first) (by_paths D σ) ms (λ ks u. set_partial_path) (λ ks u. set_path) refl j)
