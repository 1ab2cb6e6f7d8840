-- Steps followed from a state's cells.
-- Assumes nothing.
use Rattle.std.proofs.Common.{◌≡◌, ℕ, ◌+◌, ◌*◌, ◌/◌, ◌≤◌, ◌<◌, ◌⊎◌, Bool, true, false, List, Option, Some, None, length, get_or, set, refl, sym, ◌∙◌, ap, subst, inl, inr, arith}
use Rattle.std.proofs.Math.ListN.{length-set}
use Rattle.std.proofs.Math.Seq.{get_or-set_same, get_or-set_other}
use native.Mathlib.Decide.{dec_lt, ℕ_discrete}
use Rattle.laws.proofs.Tests.{never}
use Rattle.limits.specs.Limits.{most_positions, most_cost}
use Rattle.semantics.specs.Label.{Label}
use Rattle.semantics.specs.Domain.{Domain}
use Rattle.semantics.specs.StepVerdict.{arrival, arrives}
use Rattle.semantics.specs.Path.{Does}
use Rattle.semantics.specs.Plan.{cost}
use Rattle.semantics.specs.CostTable.{unreached}
use Rattle.semantics.specs.Cells.{cell, Graph, entry, Edge, none, more, Relaxed}
use Rattle.semantics.proofs.Arrivals.{Led}
use Rattle.semantics.proofs.Bounds.{Closed, does_bounded}
use Rattle.semantics.proofs.CellLaws.{cell_below, set_le, edge_within, relaxed_store, runs_length, sum_falls}
use Rattle.job.specs.declared.task.Task.{Task}
use Rattle.domain.specs.Domain.{domain_at}
use Rattle.domain.specs.declared.world.World.{World}
use Rattle.domain.proofs.DomainLaws.{stored_bounded}
use Rattle.compiled.specs.Steps.{label_of, IsStep}
use Rattle.compiled.specs.StepIndex.{last_step_from, step_before}
use Rattle.compiled.specs.Arrival.{arrival_of}
use Rattle.compiled.specs.declared.CompiledJob.{CompiledJob}
use Rattle.compiled.specs.declared.explored.Arrival.{Arrival}
use Rattle.compiled.specs.declared.steps.OutStep.{OutStep}
use Rattle.compiled.proofs.ArrivalLaws.{arrives_led, arrives_alone, arrives_never}
use Rattle.compiled.proofs.ReadyLaws.{positions_few}
use Rattle.compiled.proofs.StepWalk.{StepWalk, steps_begin, next_step, steps_more, steps_end}
use Rattle.queue.specs.Queue.{Lowered}
use Rattle.search.specs.Sweeps.{graph_of, Only, Processed, below, passed, marked, potential}
use Rattle.search.specs.Relaxation.{cell_at, Relaxing, kept, within, lowered, Stepped, stays, leads, ScanProgress, Scanned}
use Rattle.search.proofs.GraphLaws.{graph_closed}
use Rattle.search.proofs.PotentialLaws.{store_falls}

pub cell_room : (positions t q states : ℕ) {size : ℕ} → t < states → q < positions → states * positions ≤ size → cell positions t q < size
cell_room positions t q states a b h = omega (arith, cell_below positions t q states a b)

-- where a step leads there is a cell
pub target_inside : (job : CompiledJob) (w : ℕ) → w < (graph_of job).domain.states → (step : OutStep) (target : Arrival)
    → arrival_of (Some target) ≡ arrives (graph_of job).domain (label_of step) w step.to → step.to < job.positions
    → (target.state < (graph_of job).domain.states) × (target.position < job.positions)
target_inside job w inside step target e h =
    let y = arrives_led (graph_of job).domain (label_of step) w step.to e in
    ((does_bounded (stored_bounded job.task.stored) inside y.does).0, omega (arith, y.position))

-- a world of the job's task
module _ (job : CompiledJob) (world : World) (same : world.task ≡ job.task) where
  pub world_inside : world.state < (domain_at world.task).states → world.state < (graph_of job).domain.states
  world_inside inside = subst (λ (t : Task). world.state < (domain_at t).states) same inside

  pub world_arrives : (l : Label) (q : ℕ) (o : Option Arrival) → arrival_of o ≡ arrives (domain_at world.task) l world.state q
      → arrival_of o ≡ arrives (graph_of job).domain l world.state q
  world_arrives l q o e = subst (λ (t : Task). arrival_of o ≡ arrives (domain_at t) l world.state q) same e

-- no key rises
keys_fall : {t y : ℕ} {queue queue' : List ℕ} → Lowered t y queue queue' → (s : ℕ) → get_or queue' s 0 ≤ get_or queue s 0
keys_fall {t} {queue = queue} {queue'} x s = elim (ℕ_discrete s t) [
  | yes f ↦ omega (arith, x.less, ap (λ (o : ℕ). get_or queue' o 0) f, ap (λ (o : ℕ). get_or queue o 0) f)
  | no f ↦ omega (arith, x.others s f)
]

-- a step under l to position q, made in state w at cost x, lowers no entry
abbrev pub Spent : Graph → ℕ → ℕ → List ℕ → Label → ℕ → Type 0
Spent G w x T l q = (t : ℕ) (ks : List ℕ) → Does G.domain l w ks t → entry G T t q ≤ x + cost G.domain w ks

-- of what Q says of cells, what it says of those at other positions than p
abbrev pub Elsewhere : ℕ → (ℕ → ℕ → Type 0) → ℕ → ℕ → Type 0
Elsewhere p Q r z = (r ≡ p → ⊥) × Q r z

-- the steps from p, whose cell is at x, are followed but for `left` and those before it
pub record Scanning (job : CompiledJob) (w k x p : ℕ) (T₀ queue₀ T queue : List ℕ) (marks : List Bool) (next : ℕ) (left : Option ℕ) : Type 0 where
  pub progress : ScanProgress (graph_of job) w p T₀ queue₀ T queue marks next
  pub due : k ≤ x
  pub here : entry (graph_of job) T w p ≡ x
  pub walk : StepWalk job.list.now p (λ l q. Spent (graph_of job) w x T l q) left
  pub relaxed : Relaxed (graph_of job) (Only queue w (Elsewhere p (Processed k next marks))) T

-- why nothing is to follow
idle_why : (mark : Bool) (k x : ℕ) → ((mark ≡ false) × (k ≤ x) × (x < unreached) → ⊥) → (mark ≡ true) ⊎ ((x < k) ⊎ (unreached ≤ x))
idle_why true k x f = inl refl
idle_why false k x f = elim (dec_lt x k) [
  | yes a ↦ inr (inl a)
  | no a ↦ elim (dec_lt x unreached) [ yes b ↦ absurd (f (refl, omega arith, b)) | no b ↦ inr (inr (omega arith)) ]
]

module _ (job : CompiledJob) where
  abbrev G : Graph
  G = graph_of job

  abbrev D : Domain
  D = G.domain

  abbrev n : ℕ
  n = D.states

  inside : Closed G most_cost
  inside = graph_closed job

  few : job.positions ≤ most_positions
  few = positions_few job.ready

  module _ (w k p : ℕ) {T₀ queue₀ : List ℕ} (inside-w : w < (graph_of job).domain.states) (inside-p : p < job.positions)
      (room : (graph_of job).domain.states * job.positions ≤ length T₀) where
    module _ (marks₀ : List Bool) (width : length marks₀ ≡ most_positions) (R : Relaxed G (Only queue₀ w (Processed k p marks₀)) T₀) where
      start : (marks : List Bool) → length marks ≡ most_positions → ScanProgress G w p T₀ queue₀ T₀ queue₀ marks (p + 1)
      start marks e = record { runs = none; size = refl; width = e; key = omega arith; low = omega arith; falls = omega arith; less = omega arith }

      -- there is nothing to follow
      pub scanned_none : {x : ℕ} → x ≡ entry G T₀ w p → ((get_or marks₀ p false ≡ false) × (k ≤ x) × (x < unreached) → ⊥)
          → Scanned G w k p T₀ queue₀ T₀ queue₀ marks₀ (p + 1)
      scanned_none {x} here idle = record {
        progress = start marks₀ width;
        relaxed = λ i s m t q c l d claim. R i s m t q c l d (
          claim.0,
          λ y. elim (claim.1 y) [
            | below a ↦ below a
            | marked a ↦ marked a
            | passed a f ↦ elim (dec_lt m p) [
              | yes g ↦ passed g f
              | no g ↦ (
                  let at : m ≡ p = omega arith in
                  let same : entry G T₀ s m ≡ entry G T₀ w p = rw (y, at) refl in
                  elim (idle_why (get_or marks₀ p false) k x idle) [
                    | inl o ↦ marked (rw at o)
                    | inr o ↦ elim o [ inl u ↦ below (omega arith) | inr u ↦ absurd (omega arith) ]
                  ]
                  )
            ]
          ],
        );
      }

      pub scanning_start : {x : ℕ} {left : Option ℕ} → x ≡ entry G T₀ w p → k ≤ x → left ≡ last_step_from job.list.now p (length job.list.now / 4)
          → Scanning job w k x p T₀ queue₀ T₀ queue₀ (set marks₀ p true) (p + 1) left
      scanning_start {x} here due e = record {
        progress = start (set marks₀ p true) (length-set marks₀ p true ∙ width);
        due = due;
        here = sym here;
        walk = steps_begin (Spent G w x T₀) e;
        relaxed = λ i s m t q c l d claim. R i s m t q c l d (
          claim.0,
          λ y. let other = claim.1 y in elim other.1 [
            | below a ↦ below a
            | passed a f ↦ passed (omega (arith, other.0)) f
            | marked a ↦ marked (sym (get_or-set_other marks₀ p m true false other.0) ∙ a)
          ],
        );
      }

    module _ {x : ℕ} {T queue : List ℕ} {marks : List Bool} {next : ℕ} {left : Option ℕ} (X : Scanning job w k x p T₀ queue₀ T queue marks next left) where
      pub scanning_end : left ≡ None → Scanned G w k p T₀ queue₀ T queue marks next
      scanning_end e = record {
        progress = X.progress;
        relaxed = λ i s m t q c l d claim. elim (ℕ_discrete s w) [
          | no a ↦ X.relaxed i s m t q c l d (claim.0, λ y. absurd (a y))
          | yes a ↦ elim (ℕ_discrete m p) [
            | no b ↦ X.relaxed i s m t q c l d (claim.0, λ y. (b, claim.1 y))
            | yes b ↦ (
                let f = steps_end X.walk e i q l (rw b at d.step) t d.made (rw a at d.does) in
                let costs : cost D w d.made ≡ c = ap (λ (z : ℕ). cost D z d.made) (sym a) ∙ d.costs in
                let from : entry G T s m ≡ entry G T w p = rw (a, b) refl in
                omega (arith, f, costs, from, X.here)
                )
          ]
        ];
      }

      module _ {j : ℕ} (on : left ≡ Some j) (step : OutStep) (is : IsStep job.list.now j step) {then : Option ℕ} (next-left : then ≡ step_before job.list.now j) where
        -- nothing was lowered
        unmoved : Spent G w x T (label_of step) step.to → Scanning job w k x p T₀ queue₀ T queue marks next then
        unmoved spent = record {
          progress = X.progress;
          due = X.due;
          here = X.here;
          walk = steps_more X.walk on is next-left (Spent G w x T) (λ l q f. f) spent;
          relaxed = X.relaxed;
        }

        module _ (target : Arrival) (found : arrival_of (Some target) ≡ arrives D (label_of step) w step.to) where
          abbrev v : ℕ
          v = cell_at G target

          abbrev c : ℕ
          c = target.cost

          abbrev U : List ℕ
          U = set T v (x + c)

          led : Led D (label_of step) w step.to (arrival target.state target.position target.cost)
          led = arrives_led D (label_of step) w step.to found

          edge : Edge G j (label_of step) w p target.state target.position c
          edge = record {
            inside = inside-w;
            step = rw led.position (next_step X.walk on is);
            made = led.moves;
            does = led.does;
            costs = led.costs;
          }

          room_at : v < length T
          room_at =
              let e = edge_within inside edge in
              omega (arith, cell_room job.positions _ _ _ e.state e.end room, runs_length X.progress.runs)

          -- the step lowers nothing below its own cost
          spent_at : (W : List ℕ) → get_or W v 0 ≤ x + c → Spent G w x W (label_of step) step.to
          spent_at W at_most u ks d =
              let z = arrives_alone D (label_of step) w step.to found u ks d in
              let at : entry G W u step.to ≡ get_or W v 0 = rw (z.0, ← led.position) refl in
              omega (arith, at, at_most, z.1)

          -- the cell lowered
          moved : {queue' : List ℕ} {marks' : List Bool} {r : ℕ} → x + c < get_or T v 0 → length queue' ≡ length queue → length marks' ≡ length marks
              → get_or queue' w 0 ≤ get_or queue w 0 → r ≤ next → potential n U queue' < potential n T queue
              → Relaxed G (Only queue' w (Elsewhere p (Processed k r marks'))) U → Scanning job w k x p T₀ queue₀ U queue' marks' r then
          moved lower size same key at_next less relaxed =
              let P = X.progress in
              let stays_at : entry G U w p ≡ x =
              get_or-set_other T v (cell job.positions w p) (x + c) 0 (λ z. omega (arith, X.here, ap (λ (o : ℕ). get_or T o 0) z)) ∙ X.here in
              record {
                progress = record {
                  runs = more (x + c) P.runs edge (omega (arith, X.here)) lower;
                  size = size ∙ P.size;
                  width = same ∙ P.width;
                  key = omega (arith, P.key);
                  low = omega (arith, P.low);
                  falls = omega (arith, P.falls, P.low, few, sum_falls T v (x + c) room_at lower);
                  less = omega (arith, P.less);
                };
                due = X.due;
                here = stays_at;
                walk = steps_more X.walk on is next-left (Spent G w x U)
                    (λ l q f t ks d. omega (arith, f t ks d, set_le T v (x + c) (cell job.positions t q) room_at (omega arith)))
                    (spent_at U (omega (arith, get_or-set_same T v (x + c) 0 room_at)));
                relaxed = relaxed;
              }

          relaxed_to : {T' queue' : List ℕ} {marks' : List Bool} {r : ℕ} → Relaxing G w x target next T queue marks T' queue' marks' r
              → Scanning job w k x p T₀ queue₀ T' queue' marks' r then
          relaxed_to (kept under) = unmoved (spent_at T under)
          relaxed_to (within {r} lower own at-q at_next) =
              let to = target.position in
              let bound : to < length marks = omega (arith, (edge_within inside edge).end, X.progress.width, few) in
              let unmarked = get_or-set_same marks to false false bound in
              moved lower refl (length-set marks to false) (omega arith) at_next (omega (arith, sum_falls T v (x + c) room_at lower))
              (relaxed_store inside (Only queue w (Elsewhere p (Processed k next marks))) (Only queue w (Elsewhere p (Processed k r (set marks to false)))) T
              target.state to (x + c) X.relaxed room_at (edge_within inside edge).end (omega arith)
              (λ i s m z l _ claim. (
                claim.0,
                λ y. let other = claim.1 y in (
                  other.0,
                  elim other.1 [
                    | below a ↦ below a
                    | passed a f ↦ passed (omega arith) f
                    | marked a ↦ elim (ℕ_discrete m to) [
                      | yes o ↦ never (sym unmarked ∙ ap (λ (u : ℕ). get_or (set marks to false) u false) (sym o) ∙ a)
                      | no o ↦ marked (sym (get_or-set_other marks to m false false o) ∙ a)
                    ]
                  ],
                ),
              ))
              (λ i l claim. elim (claim.1 own).1 [ below a ↦ omega (arith, X.due) | passed a f ↦ omega arith | marked a ↦ never (sym unmarked ∙ a) ]))
          relaxed_to (lowered {queue'} lower key) =
              moved lower key.size refl (keys_fall key w) (omega arith)
              (store_falls n T queue queue' v (x + c) target.state (x + c) room_at lower (edge_within inside edge).state key)
              (relaxed_store inside (Only queue w (Elsewhere p (Processed k next marks))) (Only queue' w (Elsewhere p (Processed k next marks))) T
              target.state target.position (x + c) X.relaxed room_at (edge_within inside edge).end (omega arith)
              (λ i s m z l b claim. (omega (arith, claim.0, keys_fall key s), claim.1))
              (λ i l claim. omega (arith, claim.0, key.at_most)))

        pub scanning_more : {T' queue' : List ℕ} {marks' : List Bool} {r : ℕ} → Stepped G w x step next T queue marks T' queue' marks' r
            → Scanning job w k x p T₀ queue₀ T' queue' marks' r then
        scanning_more (stays f) = unmoved (λ t ks d. absurd (arrives_never D (label_of step) w step.to f t ks d))
        scanning_more (leads target found y) = relaxed_to target found y
