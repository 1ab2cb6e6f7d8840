-- Each row of the compiling table does what its program does.
-- Assumes nothing.
use Prim.Native.Nat.{ℕ, suc}
use mathlib.Core.Path.{refl}
use mathlib.Core.List.{List, [], ◌∷◌}
use Rattle.std.specs.Prelude.{slice_get}
use Rattle.semantics.specs.Label.{Label, noop, holds, fails}
use Rattle.semantics.specs.Program.{Program, nil, move, any, test, seq, if_else, choice, while, star, pick, object_move, object_test, put}
use Rattle.semantics.specs.Domain.{Domain}
use Rattle.semantics.specs.CompilingTable.{copy_start, end, while_steps, star_steps, steps}
use Rattle.semantics.specs.Path.{StepAt, here, there}
use Rattle.semantics.proofs.Part.{Part}
use Rattle.semantics.proofs.Opening.{if_opens, choice_opens, while_opens, star_opens}
use Rattle.semantics.proofs.Objects.{object_for, instance, instance_of_none, put_instance}
use Rattle.semantics.proofs.LeafRows.{nil_part, move_part_lem, test_part, any_part, object_part_lem}
use Rattle.semantics.proofs.Sequence.{seq_part}
use Rattle.semantics.proofs.Branch.{branch_part}
use Rattle.semantics.proofs.Pick.{pick_part}
use Rattle.semantics.proofs.Loop.{LoopStep, into, out, again, loop_part}

while_step : {a n n₁ : ℕ} (i p q : ℕ) (l : Label) → StepAt (while_steps a n n₁) i p l q → LoopStep (holds a) (fails a) n n₁ p l q
unfolding while_steps
while_step i p q l here = into refl
while_step i p q l (there here) = out refl
while_step i p q l (there (there here)) = again refl
while_step i p q l (there (there (there h))) = elim h [ ]

star_step : {n n₁ : ℕ} (i p q : ℕ) (l : Label) → StepAt (star_steps n n₁) i p l q → LoopStep noop noop n n₁ p l q
unfolding star_steps
star_step i p q l here = into refl
star_step i p q l (there here) = again refl
star_step i p q l (there (there here)) = out refl
star_step i p q l (there (there (there h))) = elim h [ ]

module _ (D : Domain) where
  abbrev M : ℕ
  M = D.moves

  abbrev O : ℕ
  O = D.objects

  -- a row inside picks, with their objects in place of its variables
  row : (σ : Program) (env : List ℕ) (n : ℕ) → Part D (instance env 0 σ) n (end O σ n) (steps M O env σ n)
  unfolding object_for instance copy_start end steps while_steps star_steps
  row nil env n = nil_part
  row (move a) env n = move_part_lem
  row any env n = any_part
  row (test a) env n = test_part
  row (seq a b) env n = seq_part (row a env n) (row b env (end O a n))
  row (if_else a b c) env n = branch_part (row b env (suc n)) (row c env (suc (end O b (suc n)))) if_opens
  row (choice a b) env n = branch_part (row a env (suc n)) (row b env (suc (end O a (suc n)))) choice_opens
  row (while a b) env n = loop_part (row b env (suc n)) while_opens while_step here (there here) (there (there here))
  row (star a) env n = loop_part (row a env (suc n)) star_opens star_step here (there (there here)) (there here)
  row (pick a) env n =
      let starts : ℕ → ℕ = copy_start (end O a) n in
      let parts : (o : ℕ) → Part D (put o 0 (instance env 1 a)) (starts o) (end O a (starts o)) (steps M O (o ∷ env) a (starts o)) =
      λ o. rw put_instance (row a (o ∷ env) (starts o)) in
      pick_part (instance env 1 a) refl (λ o. refl) parts
  row (object_move a b) env n = object_part_lem (λ o. move_part_lem) (λ s t ks ρ r. elim r [ ]) (λ i. elim i [ ]) (slice_get env b)
  row (object_test a b) env n = object_part_lem (λ o. test_part) (λ s t ks ρ r. elim r [ ]) (λ i. elim i [ ]) (slice_get env b)

  pub compiled : (σ : Program) (n : ℕ) → Part D σ n (end O σ n) (steps M O [] σ n)
  compiled σ n = rw instance_of_none at (row σ [] n)
