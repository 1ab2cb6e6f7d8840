-- Cost tables that are computed: every step is followed from every state, round after round, and
-- one computed test says that the table is filled.
-- Assumes nothing.
use Prim.Native.Nat.{ℕ, zero, suc, ◌+◌, ◌*◌, ◌≤◌, ◌<◌}
use mathlib.Core.Path.{◌≡◌, refl, sym, ◌∙◌, ap}
use mathlib.Core.Bool.{Bool, true, cond, ◌&&◌}
use Rattle.std.specs.Prelude.{Option, None, Some}
use mathlib.Core.List.{List, [], ◌∷◌}
use native.Mathlib.Omega.{arith}
use native.Mathlib.Decide.{dec_lt}
use lib.Dec.{leb, ltb}
use lib.ListN.{get_or, set, replicate, length-replicate, get_or-replicate}
use borrow.Author.Tests.{ltb-true, leb-true}
use Rattle.laws.proofs.Tests.{and_left, and_right, cond_has}
use Rattle.semantics.specs.Label.{Label}
use Rattle.semantics.specs.CompilingTable.{Step, arc}
use Rattle.semantics.specs.Path.{StepAt, here, there}
use Rattle.semantics.specs.Plan.{cost}
use Rattle.semantics.specs.Machine.{Arrival}
use Rattle.semantics.specs.StepVerdict.{Configuration, arrives}
use Rattle.semantics.specs.CostTable.{unreached, Filled}
use Rattle.semantics.specs.Cells as C
use Rattle.semantics.specs.Cells.{cell, Graph, entry, Edge, Runs, Relaxed}
use Rattle.semantics.proofs.Bounds.{Closed}
use Rattle.semantics.proofs.CellLaws.{cell_count}
use Rattle.semantics.proofs.CellSound.{runs_fill}
use Rattle.semantics.proofs.Arrivals.{does_arrives, arrives_does}

-- a step followed from state s to where it leads
abbrev lowered : Graph → ℕ → ℕ → ℕ → List ℕ → Option (Arrival Configuration) → List ℕ
lowered G s p q T None = T
lowered G s p q T (Some a) =
    let v = cell G.positions a.to.state q in
    let x = entry G T s p + a.cost in
    cond (ltb x (get_or T v 0)) (set T v x) T

unfoldable pub follow : Graph → ℕ → Step → List ℕ → List ℕ
follow G s (arc l p q) T = lowered G s p q T (arrives G.domain l s q)

unfoldable pub follow_all : Graph → ℕ → List Step → List ℕ → List ℕ
follow_all G s [] T = T
follow_all G s (k ∷ L) T = follow_all G s L (follow G s k T)

-- from each of the first n states
unfoldable pub sweep : Graph → ℕ → List ℕ → List ℕ
sweep G zero T = T
sweep G (suc n) T = follow_all G n G.steps (sweep G n T)

-- so many rounds
unfoldable pub sweeps : Graph → ℕ → List ℕ → List ℕ
sweeps G zero T = T
sweeps G (suc k) T = sweep G G.domain.states (sweeps G k T)

abbrev clear : Graph → List ℕ
clear G = replicate (cell_count G) unreached

-- where nothing is reached but the start
unfoldable pub computed_table : Graph → ℕ → List ℕ
computed_table G rounds = sweeps G rounds (set (clear G) (cell G.positions G.domain.start 0) 0)

-- the test: no step lowers an entry

abbrev kept : Graph → ℕ → ℕ → ℕ → List ℕ → Option (Arrival Configuration) → Bool
kept G s p q T None = true
kept G s p q T (Some a) = leb (entry G T a.to.state q) (entry G T s p + a.cost)

unfoldable pub keeps : Graph → ℕ → List ℕ → Step → Bool
keeps G s T (arc l p q) = kept G s p q T (arrives G.domain l s q)

unfoldable pub every : {A : Type 0} → (A → Bool) → List A → Bool
every f [] = true
every f (a ∷ l) = f a && every f l

-- no step from the first n states
unfoldable pub relaxed_below : Graph → List ℕ → ℕ → Bool
relaxed_below G T zero = true
relaxed_below G T (suc n) = relaxed_below G T n && every (keeps G n T) G.steps

-- what the computation and its test tell

step_passes : (f : Step → Bool) {L : List Step} {i p q : ℕ} {l : Label} → every f L ≡ true → StepAt L i p l q → f (arc l p q) ≡ true
unfolding every
step_passes f a (here {l} {p} {q} {L}) = and_left (f (arc l p q)) (every f L) a
step_passes f a (there {c} {L} h) = step_passes f (and_right (f c) (every f L) a) h

module _ (G : Graph) where
  state_passes : (T : List ℕ) (n s : ℕ) → s < n → relaxed_below G T n ≡ true → every (keeps G s T) G.steps ≡ true
  unfolding relaxed_below
  state_passes T zero s h e = absurd (omega arith)
  state_passes T (suc n) s h e = elim (dec_lt s n) [
    | yes k ↦ state_passes T n s k (and_left (relaxed_below G T n) (every (keeps G n T) G.steps) e)
    | no k ↦ (let z : s ≡ n = omega arith in rw z (and_right (relaxed_below G T n) (every (keeps G n T) G.steps) e))
  ]

  test_relaxed : (T : List ℕ) → relaxed_below G T G.domain.states ≡ true → Relaxed G (λ i l s p z. z < unreached) T
  unfolding keeps
  test_relaxed T ok i s p t q c l e claim =
      let f = step_passes (keeps G s T) (state_passes T G.domain.states s e.inside ok) e.step in
      let g = ap (kept G s p q T) (sym (does_arrives G.domain q e.does)) ∙ f in
      omega (arith, leb-true (entry G T t q) (entry G T s p + cost G.domain s e.made) g, e.costs)

  module _ (s : ℕ) (inside : s < G.domain.states) (T₀ : List ℕ) where
    follow_runs : {i p q : ℕ} {l : Label} {T : List ℕ} → StepAt G.steps i p l q → Runs G T₀ T → Runs G T₀ (follow G s (arc l p q) T)
    unfolding follow
    follow_runs {i} {p} {q} {l} {T} h r = by (arrives G.domain l s q) refl
      where
        by : (o : Option (Arrival Configuration)) → arrives G.domain l s q ≡ o → Runs G T₀ (lowered G s p q T o)
        by None f = r
        by (Some a) f =
            let m = arrives_does G.domain f in
            let e : Edge G i l s p a.to.state q a.cost = record { inside = inside; step = h; made = m.moves; does = m.does; costs = m.costs } in
            let v = cell G.positions a.to.state q in
            let x = entry G T s p + a.cost in
            cond_has (λ (U : List ℕ). Runs G T₀ U) (ltb x (get_or T v 0)) (set T v x) T
            (λ k. C.more x r e refl (ltb-true x (get_or T v 0) k)) (λ k. r)

    -- steps that the graph has
    all_runs : (L : List Step) (T : List ℕ) → ((i p q : ℕ) (l : Label) → StepAt L i p l q → (j : ℕ) × StepAt G.steps j p l q)
        → Runs G T₀ T → Runs G T₀ (follow_all G s L T)
    unfolding follow_all
    all_runs [] T has r = r
    all_runs (arc l p q ∷ L) T has r =
        all_runs L (follow G s (arc l p q) T) (λ i p q l h. has (suc i) p q l (there h)) (follow_runs (has 0 p q l here).1 r)

  sweep_runs : (T₀ T : List ℕ) (n : ℕ) → n ≤ G.domain.states → Runs G T₀ T → Runs G T₀ (sweep G n T)
  unfolding sweep
  sweep_runs T₀ T zero h r = r
  sweep_runs T₀ T (suc n) h r = all_runs n (omega arith) T₀ G.steps (sweep G n T) (λ i p q l k. (i, k)) (sweep_runs T₀ T n (omega arith) r)

  sweeps_run : (T : List ℕ) (k : ℕ) → Runs G T (sweeps G k T)
  unfolding sweeps
  sweeps_run T zero = C.none
  sweeps_run T (suc k) = sweep_runs T (sweeps G k T) G.domain.states (omega arith) (sweeps_run T k)

  pub computed_filled : {most : ℕ} → Closed G most → 0 < G.positions → cell_count G * most < unreached → (rounds : ℕ)
      → relaxed_below G (computed_table G rounds) G.domain.states ≡ true
      → Filled G.domain G.steps G.positions (replicate (cell_count G) unreached) (computed_table G rounds)
  unfolding computed_table
  computed_filled {most} closed pos fits rounds ok =
      runs_fill G most closed pos fits (clear G) (clear G) _ refl refl (omega (arith, length-replicate {A = ℕ} (cell_count G) unreached))
      (λ k h. get_or-replicate (cell_count G) k unreached 0 h) (sweeps_run _ rounds) (test_relaxed _ ok)
