-- The rows of nil, a move, any move and a test, and of a row that has a variable.
-- Assumes nothing.
use Prim.Native.Nat.{ℕ, zero, suc, ◌+◌, ◌≤◌, ◌<◌}
use mathlib.Core.Path.{◌≡◌, refl}
use Rattle.std.specs.Prelude.{Option, None, Some}
use mathlib.Core.List.{List, [], ◌∷◌}
use native.Mathlib.Omega.{arith}
use Rattle.semantics.specs.Label.{Label, noop, holds, make}
use Rattle.semantics.specs.Program.{Program, nil, move, any, test}
use Rattle.semantics.specs.Domain.{Domain}
use Rattle.semantics.specs.Transition.{Transition, moves, any_moves, tests}
use Rattle.semantics.specs.CompilingTable.{arc, move_steps, object_steps}
use Rattle.semantics.specs.Path.{Does, idles, passes, moves_on, StepAt, here, there}
use Rattle.semantics.proofs.Chains.{Chain, halt, one}
use Rattle.semantics.proofs.Taken.{taken}
use Rattle.semantics.proofs.Part.{IsNil, Part}
use Rattle.semantics.proofs.Objects.{with_object}
use Rattle.semantics.proofs.Leaf.{LeafStep, leaf_step, LeafNext, leaf_next, leaf_part}

-- the step of a move among those of all moves
any_at : (count a n m i : ℕ) → i < count → m ≡ a + i → StepAt (move_steps count a n) i n (make m) (suc n)
unfolding move_steps
any_at zero a n m i h e = elim h [ ]
any_at (suc count) a n m zero h e = let f : m ≡ a = omega arith in rw f here
any_at (suc count) a n m (suc i) h e = there (any_at count (suc a) n m i (omega arith) (omega arith))

module _ {D : Domain} where
  single : {σ : Program} {x : Label} {n : ℕ} → ((s t : ℕ) (ks : List ℕ) → Does D x s ks t → Chain (Transition D) s σ ks t nil)
      → (i p q : ℕ) (l : Label) → StepAt (arc x n (suc n) ∷ []) i p l q → LeafStep D σ n p l q
  single f i p q l here = leaf_step refl f
  single f i p q l (there h) = elim h [ ]

  nil_does : (s t : ℕ) (ks : List ℕ) → Does D noop s ks t → Chain (Transition D) s nil ks t nil
  nil_does s t ks idles = halt

  pub nil_part : {n : ℕ} → Part D nil n (suc n) (arc noop n (suc n) ∷ [])
  nil_part = leaf_part (single nil_does) (λ s t ks ρ r. elim r [ ]) (λ s i. taken here idles)

  move_does : {a : ℕ} (s t : ℕ) (ks : List ℕ) → Does D (make a) s ks t → Chain (Transition D) s (move a) ks t nil
  move_does s t ks (moves_on h) = one (moves h)

  move_next : {a n : ℕ} (s t : ℕ) (ks : List ℕ) (ρ : Program) → Transition D s (move a) ks t ρ → LeafNext D (arc (make a) n (suc n) ∷ []) n s ks t ρ
  move_next s t ks ρ (moves h) = leaf_next (taken here (moves_on h))

  pub move_part_lem : {a n : ℕ} → Part D (move a) n (suc n) (arc (make a) n (suc n) ∷ [])
  move_part_lem = leaf_part (single move_does) move_next (λ s i. elim i [ ])

  test_does : {a : ℕ} (s t : ℕ) (ks : List ℕ) → Does D (holds a) s ks t → Chain (Transition D) s (test a) ks t nil
  test_does s t ks (passes h) = one (tests h)

  test_next : {a n : ℕ} (s t : ℕ) (ks : List ℕ) (ρ : Program) → Transition D s (test a) ks t ρ → LeafNext D (arc (holds a) n (suc n) ∷ []) n s ks t ρ
  test_next s t ks ρ (tests h) = leaf_next (taken here (passes h))

  pub test_part : {a n : ℕ} → Part D (test a) n (suc n) (arc (holds a) n (suc n) ∷ [])
  test_part = leaf_part (single test_does) test_next (λ s i. elim i [ ])

  any_does : {a : ℕ} → a < D.moves → (s t : ℕ) (ks : List ℕ) → Does D (make a) s ks t → Chain (Transition D) s any ks t nil
  any_does k s t ks (moves_on h) = one (any_moves k h)

  any_step : (count a n : ℕ) → a + count ≤ D.moves → (i p q : ℕ) (l : Label) → StepAt (move_steps count a n) i p l q → LeafStep D any n p l q
  unfolding move_steps
  any_step zero a n h i p q l k = elim k [ ]
  any_step (suc count) a n h i p q l here = leaf_step refl (any_does {a = a} (omega arith))
  any_step (suc count) a n h i p q l (there k) = any_step count (suc a) n (omega arith) _ p q l k

  any_next : {n : ℕ} (s t : ℕ) (ks : List ℕ) (ρ : Program) → Transition D s any ks t ρ → LeafNext D (move_steps D.moves 0 n) n s ks t ρ
  any_next {n} s t ks ρ (any_moves {a} k h) = leaf_next (taken (any_at D.moves 0 n a a k (omega arith)) (moves_on h))

  pub any_part : {n : ℕ} → Part D any n (suc n) (move_steps D.moves 0 n)
  any_part {n} = leaf_part (any_step D.moves 0 n (omega arith)) any_next (λ s i. elim i [ ])

  -- where its variable has no object, a row has neither steps nor transitions
  pub object_part_lem : {f : ℕ → Program} {bare : Program} {x : ℕ → Label} {n : ℕ} → ((o : ℕ) → Part D (f o) n (suc n) (arc (x o) n (suc n) ∷ []))
      → ((s t : ℕ) (ks : List ℕ) (ρ : Program) → Transition D s bare ks t ρ → ⊥) → (IsNil bare → ⊥)
      → (r : Option ℕ) → Part D (with_object f bare r) n (suc n) (object_steps x r n)
  unfolding with_object object_steps
  object_part_lem part no-next some_left None = leaf_part (λ i p q l h. elim h [ ]) (λ s t ks ρ r. absurd (no-next s t ks ρ r)) (λ s i. absurd (some_left i))
  object_part_lem part no-next some_left (Some o) = part o
