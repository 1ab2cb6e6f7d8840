-- States swept until nothing is left to follow.
-- Assumes nothing.
use Rattle.std.proofs.Common.{◌≡◌, ℕ, ◌*◌, ◌≤◌, ◌<◌, List, Option, Some, None, length, get_or, set, replicate, refl, sym, ◌∙◌, ap, subst, arith}
use Rattle.std.proofs.Math.ListN.{get_or-replicate}
use Rattle.std.proofs.Math.Seq.{get_or-set_other}
use Rattle.std.proofs.Math.Nat.{mul-le-mul_left, mul-le-mul_right}
use native.Mathlib.Decide.{ℕ_discrete}
use Rattle.limits.specs.Limits.{most_states, most_cost}
use Rattle.job.specs.StoredTask.{stored_job}
use Rattle.semantics.specs.Domain.{Domain}
use Rattle.semantics.specs.CompilingTable.{Step}
use Rattle.semantics.specs.CostTable.{unreached, Filled}
use Rattle.semantics.specs.Cells.{cell, Graph, entry, Runs, none, Relaxed}
use Rattle.semantics.proofs.CellLaws.{edge_within, cell_state, runs_on}
use Rattle.semantics.proofs.CellSound.{runs_fill}
use Rattle.domain.proofs.DomainLaws.{states_few}
use Rattle.compile.specs.CompiledJob.{steps_of}
use Rattle.compiled.specs.declared.CompiledJob.{CompiledJob}
use Rattle.compiled.proofs.ReadyLaws.{job_bounded, some_position, positions_few}
use Rattle.queue.specs.Queue.{Lowered, Chosen, due, rest}
use Rattle.search.specs.declared.table.Table.{Table}
use Rattle.search.specs.Sweeps.{graph_of, Keyed}
use Rattle.search.specs.Relaxation.{Better}
use Rattle.search.specs.Table.{graph_in, Keeps, Followed, Improved}
use Rattle.search.specs.Filling.{Cleared, Exhausted}
use Rattle.search.proofs.GraphLaws.{graph_closed}
use Rattle.search.proofs.SweepLaws.{keeps_more}

-- states swept, perhaps none
pub record Settling (t₀ t : Table) : Type 0 where
  pub keeps : Keeps t₀ t
  pub runs : Runs (graph_in t₀) t₀.costs.now t.costs.now
  pub relaxed : Relaxed (graph_in t₀) (Keyed t.queue.now) t.costs.now

pub settling_start : {t : Table} → Followed t → Settling t t
settling_start R = record { keeps = record { job = refl; same_reference = refl }; runs = none; relaxed = R }

pub settling_more : {t₀ t t' : Table} → Settling t₀ t → Improved t t' → Keeps t t' → Settling t₀ t'
settling_more {t₀} {t} {t'} x y keeps =
    let z = subst (λ (j : CompiledJob). Better (graph_of j) t.costs.now t.queue.now t'.costs.now t'.queue.now) x.keeps.job y in
    record { keeps = keeps_more x.keeps keeps; runs = runs_on x.runs z.runs; relaxed = z.relaxed }

pub settling_followed : {t₀ t : Table} → Settling t₀ t → Followed t
settling_followed {t₀} {t} x = subst (λ (j : CompiledJob). Relaxed (graph_of j) (Keyed t.queue.now) t.costs.now) (sym x.keeps.job) x.relaxed

pub chosen_some : {queue : List ℕ} {o : Option ℕ} {s : ℕ} → Chosen queue o → o ≡ Some s → (s < length queue) × (get_or queue s 0 < unreached)
chosen_some {queue} {s = s} (due {s = r} h k) e =
    let same : r ≡ s = cc in (omega arith, omega (arith, ap (λ (i : ℕ). get_or queue i 0) same))
chosen_some (rest f) e = absurd (cc)

-- no state has a key
pub settling_end : {t₀ t : Table} → Settling t₀ t → {o : Option ℕ} → Chosen t.queue.now o → o ≡ None → Exhausted (graph_in t₀) t₀.costs.now t.costs.now
settling_end x (due h k) e = absurd (cc)
settling_end {t₀} {t} x (rest f) e = record {
  runs = x.runs;
  relaxed = λ i s p u q c l d claim. x.relaxed i s p u q c l d
      (omega (arith, claim, f s (omega (arith, d.inside, t.keys, ap (λ (j : CompiledJob). (graph_of j).domain.states) x.keeps.job))));
}

module _ (job : CompiledJob) (T : List ℕ) (room : (graph_of job).domain.states * job.positions ≤ length T) where
  abbrev positions : ℕ
  positions = job.positions

  abbrev G : Graph
  G = graph_of job

  abbrev D : Domain
  D = G.domain

  start_inside : D.start < D.states
  start_inside = (job_bounded job.ready).start

  fits : D.states * positions * most_cost < unreached
  fits = omega (arith, mul-le-mul_right positions (states_few job.task.stored), mul-le-mul_left most_states (positions_few job.ready))

  module _ {T₁ : List ℕ} (done : Cleared (D.states * positions) T T₁) where
    -- nothing is reached but the start, and only its state has a key
    pub start_relaxed : {queue : List ℕ} → Lowered D.start 0 (replicate D.states unreached) queue
        → Relaxed (graph_of job) (Keyed queue) (set T₁ (cell job.positions (graph_of job).domain.start 0) 0)
    start_relaxed {queue} low i s p t q c l e claim =
        let w = edge_within (graph_closed job) e in
        elim (ℕ_discrete s D.start) [
          | yes a ↦ absurd (omega (arith, claim, low.at_most, ap (λ (k : ℕ). get_or queue k 0) a))
          | no a ↦ (
              let key : get_or queue s 0 ≡ unreached = low.others s a ∙ get_or-replicate {A = ℕ} D.states s unreached 0 e.inside in
              let apart : cell positions s p ≡ cell positions D.start 0 → ⊥ = λ z. a (cell_state positions s p D.start 0 w.start (some_position job.ready) z) in
              let clear : entry G (set T₁ (cell positions D.start 0) 0) s p ≡ unreached =
              get_or-set_other T₁ (cell positions D.start 0) (cell positions s p) 0 0 apart ∙ done.clear (cell positions s p) w.from in
              absurd (omega (arith, claim))
              )
        ]

    pub exhausted_fills : {U : List ℕ} → Exhausted (graph_of job) (set T₁ (cell job.positions (graph_of job).domain.start 0) 0) U
        → Filled (graph_of job).domain (steps_of (stored_job job.task)) job.positions T U
    exhausted_fills {U} x =
        rw (← job.ready.steps) (runs_fill G most_cost (graph_closed job) (some_position job.ready) fits T T₁ U done.size done.later
        (omega (arith, done.size)) done.clear x.runs x.relaxed)

    -- a table of the job, and the same with its start reached
    module _ {t₀ t₁ : Table} (same : t₀.job ≡ job) (cells : t₀.costs.now ≡ T₁) (keys : t₀.queue.now ≡ replicate (graph_of job).domain.states unreached)
        (costs : t₁.costs.now ≡ set t₀.costs.now (cell t₀.job.positions (graph_in t₀).domain.start 0) 0)
        (queue : Lowered (graph_in t₀).domain.start 0 t₀.queue.now t₁.queue.now) (keeps : Keeps t₀ t₁) where
      same_job : t₁.job ≡ job
      same_job = keeps.job ∙ same

      reached : t₁.costs.now ≡ set T₁ (cell job.positions (graph_of job).domain.start 0) 0
      reached =
          let a = subst (λ (U : List ℕ). t₁.costs.now ≡ set U (cell t₀.job.positions (graph_in t₀).domain.start 0) 0) cells costs in
          subst (λ (j : CompiledJob). t₁.costs.now ≡ set T₁ (cell j.positions (graph_of j).domain.start 0) 0) same a

      low : Lowered (graph_of job).domain.start 0 (replicate (graph_of job).domain.states unreached) t₁.queue.now
      low =
          let a = subst (λ (j : CompiledJob). Lowered (graph_of j).domain.start 0 t₀.queue.now t₁.queue.now) same queue in
          subst (λ (q : List ℕ). Lowered (graph_of job).domain.start 0 q t₁.queue.now) keys a

      pub table_starts : Followed t₁
      table_starts =
          let a = subst (λ (U : List ℕ). Relaxed (graph_of job) (Keyed t₁.queue.now) U) (sym reached) (start_relaxed low) in
          subst (λ (j : CompiledJob). Relaxed (graph_of j) (Keyed t₁.queue.now) t₁.costs.now) (sym same_job) a

      pub table_fills : {U : List ℕ} → Exhausted (graph_in t₁) t₁.costs.now U
          → Filled (graph_of job).domain (steps_of (stored_job job.task)) job.positions T U
      table_fills {U} x =
          let a = subst (λ (j : CompiledJob). Exhausted (graph_of j) t₁.costs.now U) same_job x in
          exhausted_fills (subst (λ (V : List ℕ). Exhausted (graph_of job) V U) reached a)

-- the same of a table that is where it was
pub filled_as : {D : Domain} {L : List Step} {positions : ℕ} {T U : List ℕ} → Filled D L positions T U → (V : List ℕ) → V ≡ U → Filled D L positions T V
filled_as {D} {L} {positions} {T} f V e = subst (λ (W : List ℕ). Filled D L positions T W) (sym e) f
