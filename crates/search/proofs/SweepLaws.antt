-- One sweep of a state.
-- Assumes nothing.
use Rattle.std.proofs.Common.{◌≡◌, ℕ, ◌≤◌, ◌<◌, Bool, false, List, Option, Some, length, get_or, set, replicate, refl, sym, ◌∙◌, ap, subst, arith}
use Rattle.std.proofs.Math.ListN.{length-set, length-replicate}
use Rattle.std.proofs.Math.Seq.{get_or-set_same, get_or-set_other}
use native.Mathlib.Decide.{ℕ_discrete}
use Rattle.laws.proofs.Tests.{never}
use Rattle.laws.proofs.Lists.{replicate_default}
use Rattle.limits.specs.Limits.{most_positions}
use Rattle.semantics.specs.CostTable.{unreached}
use Rattle.semantics.specs.Cells.{Graph, Runs, none, Relaxed}
use Rattle.semantics.proofs.Bounds.{Closed}
use Rattle.semantics.proofs.CellLaws.{edge_within, runs_on}
use Rattle.domain.specs.declared.world.World.{World}
use Rattle.compiled.specs.Steps.{IsStep}
use Rattle.compiled.specs.StepIndex.{step_before, link_of}
use Rattle.compiled.specs.declared.CompiledJob.{CompiledJob}
use Rattle.compiled.specs.declared.steps.OutStep.{OutStep}
use Rattle.compiled.proofs.StepWalk.{steps_fall}
use Rattle.search.specs.declared.table.Table.{Table}
use Rattle.search.specs.declared.sweep.Sweep.{Sweep}
use Rattle.search.specs.Sweeps.{graph_of, Keyed, Only, passed, marked, Processed, below, potential}
use Rattle.search.specs.Relaxation.{Stepped, Scanned, Better}
use Rattle.search.specs.Table.{graph_in, Keeps}
use Rattle.search.specs.Sweep.{swept, SameState, Scans, Steps, FollowedTo}
use Rattle.search.proofs.PotentialLaws.{key_gap}
use Rattle.search.proofs.RelaxationLaws.{Scanning, scanning_more}

-- the steps are followed from the cells before position p
pub record Sweeping (G : Graph) (w k : ℕ) (T₀ queue₀ T queue : List ℕ) (marks : List Bool) (p : ℕ) : Type 0 where
  pub runs : Runs G T₀ T
  pub size : length queue ≡ length queue₀
  pub width : length marks ≡ most_positions
  pub key : get_or queue w 0 ≤ unreached
  pub less : potential G.domain.states T queue ≤ potential G.domain.states T₀ queue₀
  pub relaxed : Relaxed G (Only queue w (Processed k p marks)) T

module _ (G : Graph) (w : ℕ) (T₀ queue₀ : List ℕ) (size : w < length queue₀) where
  -- the key is taken back
  pub sweeping_start : Relaxed G (Keyed queue₀) T₀
      → Sweeping G w (get_or queue₀ w 0) T₀ (set queue₀ w unreached) T₀ (set queue₀ w unreached) (replicate most_positions false) 0
  sweeping_start R = record {
    runs = none;
    size = refl;
    width = length-replicate {A = Bool} most_positions false;
    key = omega (arith, get_or-set_same queue₀ w unreached 0 size);
    less = omega arith;
    relaxed = λ i s p t q c l e claim. elim (ℕ_discrete s w) [
      | no a ↦ R i s p t q c l e (omega (arith, claim.0, get_or-set_other queue₀ w s unreached 0 a))
      | yes a ↦ elim (claim.1 a) [
        | below y ↦ R i s p t q c l e (omega (arith, y, ap (λ (k : ℕ). get_or queue₀ k 0) a))
        | passed y _ ↦ absurd (omega arith)
        | marked y ↦ never (sym (replicate_default false most_positions p) ∙ y)
      ]
    ];
  }

  pub sweeping_end : {T queue : List ℕ} {marks : List Bool} {p most : ℕ} → Closed G most → w < G.domain.states → get_or queue₀ w 0 < unreached
      → Sweeping G w (get_or queue₀ w 0) T₀ (set queue₀ w unreached) T queue marks p → G.positions ≤ p → Better G T₀ queue₀ T queue
  sweeping_end {T} {queue} closed inside due x h = record {
    runs = x.runs;
    size = x.size ∙ length-set queue₀ w unreached;
    relaxed = λ i s p t q c l e claim. x.relaxed i s p t q c l e (
      claim,
      λ a. passed (omega (arith, (edge_within closed e).start)) (omega (arith, claim, x.key, ap (λ (k : ℕ). get_or queue k 0) a)),
    );
    less = omega (arith, x.less, key_gap G.domain.states T₀ queue₀ w unreached size inside);
  }

sweeping_more : {G : Graph} {w k p : ℕ} {T₀ queue₀ T queue U queue' : List ℕ} {marks marks' : List Bool} {r : ℕ}
    → Sweeping G w k T₀ queue₀ T queue marks p → Scanned G w k p T queue U queue' marks' r → Sweeping G w k T₀ queue₀ U queue' marks' r
sweeping_more x y =
    let P = y.progress in
    record {
      runs = runs_on x.runs P.runs;
      size = P.size ∙ x.size;
      width = P.width;
      key = omega (arith, x.key, P.key);
      less = omega (arith, x.less, P.less);
      relaxed = y.relaxed;
    }

-- the same by a state, a key and keys that are what the sweep begins with
module _ {G : Graph} {w v k : ℕ} {T₀ : List ℕ} (queue₀ : List ℕ) {queue₁ : List ℕ} (at : w ≡ v) (key : k ≡ get_or queue₀ v 0) (taken : queue₁ ≡ set queue₀ v unreached)
    (size : v < length queue₀) where
  pub sweep_begins : Relaxed G (Keyed queue₀) T₀ → Sweeping G w k T₀ queue₁ T₀ queue₁ (replicate most_positions false) 0
  sweep_begins R = rw (at, key, taken) (sweeping_start G v T₀ queue₀ size R)

  pub sweep_ends : {T queue : List ℕ} {marks : List Bool} {p most : ℕ} → Closed G most → v < G.domain.states → get_or queue₀ v 0 < unreached
      → Sweeping G w k T₀ queue₁ T queue marks p → G.positions ≤ p → Better G T₀ queue₀ T queue
  sweep_ends closed inside due x h = sweeping_end G v T₀ queue₀ size closed inside due (rw (at, key, taken) at x) h

pub keeps_more : {t t' t'' : Table} → Keeps t t' → Keeps t' t'' → Keeps t t''
keeps_more a b = record { job = b.job ∙ a.job; same_reference = b.same_reference ∙ a.same_reference }

pub same_more : {s s' s'' : Sweep} → SameState s s' → SameState s' s'' → SameState s s''
same_more a b = record { world = b.world ∙ a.world; key = b.key ∙ a.key }

-- a table and a sweep of a state, as they were and while the state is swept
pub record SweepGoes (t₀ : Table) (s₀ : Sweep) (t : Table) (s : Sweep) (p : ℕ) : Type 0 where
  pub keeps : Keeps t₀ t
  pub same : SameState s₀ s
  pub sweeping : Sweeping (graph_in t₀) (swept s₀) s₀.key t₀.costs.now t₀.queue.now t.costs.now t.queue.now s.marks p

module _ {t₀ t : Table} {s₀ s : Sweep} {p : ℕ} (x : SweepGoes t₀ s₀ t s p) where
  onto : (P : World → ℕ → CompiledJob → Type 0) → P s.explored.world s.key t.job → P s₀.explored.world s₀.key t₀.job
  onto P h =
      let a = subst (λ (w : World). P w s.key t.job) x.same.world h in
      let b = subst (λ (k : ℕ). P s₀.explored.world k t.job) x.same.key a in
      subst (λ (j : CompiledJob). P s₀.explored.world s₀.key j) x.keeps.job b

  back : (P : World → ℕ → CompiledJob → Type 0) → P s₀.explored.world s₀.key t₀.job → P s.explored.world s.key t.job
  back P h =
      let a = subst (λ (w : World). P w s₀.key t₀.job) (sym x.same.world) h in
      let b = subst (λ (k : ℕ). P s.explored.world k t₀.job) (sym x.same.key) a in
      subst (λ (j : CompiledJob). P s.explored.world s.key j) (sym x.keeps.job) b

  pub sweep_followed : FollowedTo t s p
  sweep_followed =
      back (λ w k j. Relaxed (graph_of j) (Only t.queue.now w.state (Processed k p s.marks)) t.costs.now) x.sweeping.relaxed

  pub sweep_goes_on : {t' : Table} {s' : Sweep} {r : ℕ} → Scans t s p t' s' r → SameState s s' → Keeps t t' → SweepGoes t₀ s₀ t' s' r
  sweep_goes_on {t'} {s'} {r} scans same keeps = record {
    keeps = keeps_more x.keeps keeps;
    same = same_more x.same same;
    sweeping = sweeping_more x.sweeping
        (onto (λ w k j. Scanned (graph_of j) w.state k p t.costs.now t.queue.now t'.costs.now t'.queue.now s'.marks r) scans);
  }

-- the same while the steps from position p are followed
pub record ScanGoes (t₀ : Table) (s₀ : Sweep) (t : Table) (s : Sweep) (x p next : ℕ) (left : Option ℕ) : Type 0 where
  pub keeps : Keeps t₀ t
  pub same : SameState s₀ s
  pub scanning : Scanning t₀.job (swept s₀) s₀.key x p t₀.costs.now t₀.queue.now t.costs.now t.queue.now s.marks next left

module _ {t₀ t : Table} {s₀ s : Sweep} {x p next : ℕ} {left : Option ℕ} (X : ScanGoes t₀ s₀ t s x p next left) {j : ℕ} (on : left ≡ Some j)
    (step : OutStep) (is : IsStep t.job.list.now j step) {t' : Table} (keeps : Keeps t t') {then : Option ℕ}
    (e : then ≡ step_before t'.job.list.now j) where
  is_step : IsStep t₀.job.list.now j step
  is_step = subst (λ (k : CompiledJob). IsStep k.list.now j step) X.keeps.job is

  is_then : then ≡ step_before t₀.job.list.now j
  is_then = subst (λ (k : CompiledJob). then ≡ step_before k.list.now j) (keeps.job ∙ X.keeps.job) e

  pub scan_falls : link_of then < link_of left
  scan_falls = steps_fall X.scanning.walk on is_step is_then

  pub scan_goes_on : swept s₀ < (graph_in t₀).domain.states → p < t₀.job.positions → {s' : Sweep} {r : ℕ} → Steps t s x step next t' s' r
      → SameState s s' → ScanGoes t₀ s₀ t' s' x p r then
  scan_goes_on inside-w inside-p {s'} {r} steps same =
      let a = subst (λ (w : World). Stepped (graph_of t.job) w.state x step next t.costs.now t.queue.now s.marks t'.costs.now t'.queue.now s'.marks r)
      X.same.world steps in
      let b = subst (λ (k : CompiledJob). Stepped (graph_of k) (swept s₀) x step next t.costs.now t.queue.now s.marks t'.costs.now t'.queue.now s'.marks r)
      X.keeps.job a in
      record {
        keeps = keeps_more X.keeps keeps;
        same = same_more X.same same;
        scanning = scanning_more t₀.job (swept s₀) s₀.key p inside-w inside-p t₀.cells X.scanning on step is_step is_then b;
      }
