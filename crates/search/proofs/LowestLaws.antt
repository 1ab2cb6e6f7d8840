-- The least entry of a filled table at the last position, where the goal holds, is the least cost.
-- Assumes nothing.
use Prim.Native.Nat.{ℕ, ◌+◌, ◌≤◌, ◌<◌}
use native.Mathlib.Omega.{arith}
use native.Mathlib.Decide.{dec_lt}
use mathlib.Core.Path.{◌≡◌, refl, sym, subst}
use mathlib.Core.Bool.{Bool, true}
use mathlib.Core.List.{List}
use mathlib.Core.Logic.{inl, inr, ⊎_elim}
use lib.ListN.{get_or}
use borrow.Author.Tests.{lt-ltb}
use Rattle.job.specs.declared.task.Task.{Task}
use Rattle.domain.specs.Domain.{domain_at}
use Rattle.domain.specs.declared.world.World.{World}
use Rattle.semantics.specs.Program.{Program}
use Rattle.semantics.specs.Domain.{Domain}
use Rattle.semantics.specs.CompilingTable.{Step, compiled_steps, final_position}
use Rattle.semantics.specs.Path.{Path, stop, step}
use Rattle.semantics.specs.Plan.{cost, Allowed}
use Rattle.semantics.specs.CostTable.{unreached, Entry, reached, not_reached, Filled, LeastOr, found, no_plan}
use Rattle.semantics.specs.Cells.{cell, Graph, Edge}
use Rattle.semantics.proofs.Agreement.{complete_runs}
use Rattle.semantics.proofs.Bounds.{Bounded, Closed}
use Rattle.semantics.proofs.CellLaws.{edge_within}
use Rattle.search.specs.Filling.{Lowest, Lower, kept, lower, least_in}
use Rattle.search.proofs.GraphLaws.{compiled_closed}

module _ {D : Domain} {positions : ℕ} {T : List ℕ} {e : ℕ} where
  pub lowest_none : Lowest D positions T e 0 unreached
  lowest_none = record { top = omega arith; below = λ s h g. absurd (omega arith); from = inl refl }

  pub lowest_more : (n : ℕ) {least r : ℕ} → Lowest D positions T e n least → Lower (D.goal n) least (get_or T (cell positions n e) 0) r
      → Lowest D positions T e (n + 1) r
  lowest_more n l (kept h) = record {
    top = l.top;
    below = λ s a g. elim (dec_lt s n) [
      | yes b ↦ l.below s b g
      | no b ↦ (let z : s ≡ n = omega arith in rw z (h (rw z at g)))
    ];
    from = ⊎_elim (λ z. inl z) (λ f. inr (f.0, omega arith, f.2, f.3)) l.from;
  }
  lowest_more n l (lower g h) = record {
    top = omega (arith, l.top);
    below = λ s a k. elim (dec_lt s n) [
      | yes b ↦ omega (arith, l.below s b k)
      | no b ↦ (let z : s ≡ n = omega arith in rw z (omega arith))
    ];
    from = inr (n, omega arith, g, refl);
  }

-- whether the goal holds in a world, by its task and its state
pub goal_of : (world : World) {t : Task} {s : ℕ} {b : Bool} → world.task ≡ t → world.state ≡ s → b ≡ (domain_at world.task).goal world.state
    → b ≡ (domain_at t).goal s
goal_of world {t} {s} {b} f g e =
    subst (λ (i : ℕ). b ≡ (domain_at t).goal i) g (subst (λ (u : Task). b ≡ (domain_at u).goal world.state) f e)

-- a path from a state ends in one
path_inside : {G : Graph} {most : ℕ} → Closed G most → {s p u q : ℕ} {is ms : List ℕ} → s < G.domain.states → Path G.domain G.steps s p is ms u q
    → u < G.domain.states
path_inside c h stop = h
path_inside {G} c {s} {p} h (step {t} {q} {i} {l} {ks} g d k) =
    let e : Edge G i l s p t q (cost G.domain s ks) = record { inside = h; step = g; made = ks; does = d; costs = refl } in
    path_inside c (edge_within c e).state k

-- a path to a cell costs at least its entry
entry_at_most : {D : Domain} {L : List Step} {s p x : ℕ} {is ms : List ℕ} → Entry D L s p x → Path D L D.start 0 is ms s p
    → (x < unreached) × (x ≤ cost D D.start ms)
entry_at_most (reached h k) r = (h, k.least _ _ r)
entry_at_most (not_reached f) r = absurd (f _ _ r)

module _ (D : Domain) (σ : Program) where
  -- r is at most what any plan costs
  abbrev LowerBound : ℕ → Type 0
  LowerBound r = (ms : List ℕ) → Allowed D σ ms → (r < unreached) × (r ≤ cost D D.start ms)

  goal_entry_least : (s : ℕ) {r : ℕ} → D.goal s ≡ true → LowerBound r → Entry D (compiled_steps D σ) s (final_position D σ) r → LeastOr D σ (least_in r)
  goal_entry_least s {r} g low (reached h k) = rw (lt-ltb r unreached h) (found h (record {
    best = k.moves;
    allowed = record { last = s; run = (complete_runs D D.start σ k.moves s).1 (k.numbers, k.path); reached = g };
    costs = k.costs;
    least = λ ms a. (low ms a).1;
  }))
  goal_entry_least s g low (not_reached f) = no_plan (λ ms a. omega (arith, (low ms a).0))

  pub lowest_least : {positions most r : ℕ} {old T : List ℕ} → Bounded D most → positions ≡ final_position D σ + 1 → Filled D (compiled_steps D σ) positions old T
      → Lowest D positions T (final_position D σ) D.states r → LeastOr D σ (least_in r)
  lowest_least {positions} {r} {T} b e f l =
      let entry_at : (s : ℕ) → s < D.states → Entry D (compiled_steps D σ) s (final_position D σ) (get_or T (cell positions s (final_position D σ)) 0) =
      λ s h. f.entries s (final_position D σ) h (omega arith) in
      let low : LowerBound r = λ ms a.
      let path = ((complete_runs D D.start σ ms a.last).0 a.run).1 in
      let inside = path_inside (compiled_closed D σ b e) b.start path in
      let x = entry_at_most (entry_at a.last inside) path in
      let y = l.below a.last inside a.reached in
      (omega (arith, x.0), omega (arith, x.1)) in
      ⊎_elim (λ z. subst (λ (n : ℕ). LeastOr D σ (least_in n)) (sym z) (no_plan (λ ms a. omega (arith, (low ms a).0))))
      (λ k. goal_entry_least k.0 k.2 low (subst (Entry D (compiled_steps D σ) k.0 (final_position D σ)) k.3 (entry_at k.0 k.1))) l.from
