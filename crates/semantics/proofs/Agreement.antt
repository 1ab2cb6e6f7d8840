-- A program and its compiled job make the same lists of moves, in complete runs and in partial
-- ones.
-- Assumes nothing.
use Prim.Native.Nat.{ℕ}
use mathlib.Core.Path.{refl}
use mathlib.Core.List.{List}
use mathlib.Core.Logic.{◌↔◌}
use Rattle.semantics.specs.Program.{Program, nil}
use Rattle.semantics.specs.Domain.{Domain}
use Rattle.semantics.specs.Transition as T
use Rattle.semantics.specs.Transition.{Transition, Run}
use Rattle.semantics.specs.CompilingTable.{Step, compiled_steps, final_position}
use Rattle.semantics.specs.Path.{Path}
use Rattle.semantics.specs.Agreement.{Agrees}
use Rattle.semantics.proofs.Chains.{Chain, halt, go, settle, simulate}
use Rattle.semantics.proofs.Taken.{Taken, taken, path_chain, chain_path}
use Rattle.semantics.proofs.Part.{is_nil, StepsTo, RunsTo, Part}
use Rattle.semantics.proofs.Compiled.{compiled}
use Rattle.semantics.proofs.PathLaws.{path_moves}

module _ {D : Domain} where
  run_chain : {s u : ℕ} {σ ρ : Program} {ms : List ℕ} → Run D s σ ms u ρ → Chain (Transition D) s σ ms u ρ
  run_chain T.stop = halt
  run_chain (T.step r k) = go r (run_chain k)

  chain_run : {s u : ℕ} {σ ρ : Program} {ms : List ℕ} → Chain (Transition D) s σ ms u ρ → Run D s σ ms u ρ
  chain_run halt = T.stop
  chain_run (go r k) = T.step r (chain_run k)

  module _ {σ : Program} {n e : ℕ} {L : List Step} (part : Part D σ n e L) where
    forward : {s u : ℕ} {ρ : Program} {ms : List ℕ} → Run D s σ ms u ρ → StepsTo D L part.At s n ms u ρ
    forward k = simulate part.At (λ s t ρ ρ' p ks a r. part.forth a r) part.start (run_chain k)

    backed : {s t p p' : ℕ} {ρ : Program} {ks : List ℕ} → part.At ρ p → Taken D L s p ks t p' → RunsTo D part.At s ρ ks t p'
    backed a (taken h d) = part.back a h d

    backward : {s u p : ℕ} {is ms : List ℕ} → Path D L s n is ms u p → RunsTo D part.At s σ ms u p
    backward k = simulate (λ p ρ. part.At ρ p) (λ s t p p' ρ ks a r. backed a r) part.start (path_chain k)

module _ (D : Domain) (s : ℕ) (σ : Program) (ms : List ℕ) (u : ℕ) where
  -- some residual program is reached where some position is
  pub partial_runs : ((ρ : Program) × Run D s σ ms u ρ) ↔ ((p : ℕ) × (is : List ℕ) × Path D (compiled_steps D σ) s 0 is ms u p)
  partial_runs = (
    λ r. let v = forward (compiled D σ 0) r.1 in let k = chain_path v.1 in (v.0, k.0, k.1),
    λ k. let v = backward (compiled D σ 0) k.2 in (v.0, chain_run v.1),
  )

  -- nil is reached where the final position is
  pub complete_runs : Run D s σ ms u nil ↔ ((is : List ℕ) × Path D (compiled_steps D σ) s 0 is ms u (final_position D σ))
  complete_runs = (
    λ r. let v = forward (compiled D σ 0) r in chain_path (settle v.1 ((compiled D σ 0).nil_end u v.2 is_nil)),
    λ k. let v = backward (compiled D σ 0) k.1 in chain_run (settle v.1 ((compiled D σ 0).end_nil u v.2 refl)),
  )

module _ (D : Domain) (σ : Program) where
  pub agreement : Agrees D σ (compiled_steps D σ) (final_position D σ)
  agreement = record {
    dropped = λ is ms c. path_moves c.path;
    sound = λ is ms c.
        record { last = c.last; run = (complete_runs D D.start σ ms c.last).1 (is, c.path); reached = c.reached };
    complete = λ ms a.
        let k = (complete_runs D D.start σ ms a.last).0 a.run in
        (k.0, record { last = a.last; path = k.1; reached = a.reached });
  }
