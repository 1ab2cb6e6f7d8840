-- "What a recipe allows": the transitions of source document 003, equations (4) to (13), and runs
-- of them.
use Rattle.std.specs.Prelude.{ℕ, ◌<◌, ◌≡◌, true, false, List, [], ◌∷◌, ◌++◌}
use Rattle.std.specs.Prelude.{Some}
use Rattle.semantics.specs.Program.{Program, nil, move, any, test, seq, if_else, choice, while, star, pick, put}
use Rattle.semantics.specs.Domain.{Domain}

-- One transition from a state and a program to a state and the residual program, with the moves
-- that it makes.
-- "Nil has no step; nor has a test that fails or a move that can't be made." Nor has a variable
-- without its pick.
pub data Transition (D : Domain) : ℕ → Program → List ℕ → ℕ → Program → Type 0 where
  -- (4) "move a: where it can be made, nil is left, in the world after the move"
  moves : {a s t : ℕ} → D.successor a s ≡ Some t → Transition D s (move a) (a ∷ []) t nil
  -- (5) "any: the same for some one move"
  any_moves : {a s t : ℕ} → a < D.moves → D.successor a s ≡ Some t → Transition D s any (a ∷ []) t nil
  -- (6) "test a: nil is left where formula a holds"
  tests : {a s : ℕ} → D.holds a s ≡ true → Transition D s (test a) [] s nil
  -- (7) "a then b: a step of a, with b kept behind it"
  seq_steps : {a a' b : Program} {s t : ℕ} {ms : List ℕ} → Transition D s a ms t a' → Transition D s (seq a b) ms t (seq a' b)
  -- (8) "nil then b becomes b"
  seq_passes : {b : Program} {s : ℕ} → Transition D s (seq nil b) [] s b
  -- (9) "if a then b else c: b where formula a holds, otherwise c"
  if_then : {a s : ℕ} {b c : Program} → D.holds a s ≡ true → Transition D s (if_else a b c) [] s b
  if_otherwise : {a s : ℕ} {b c : Program} → D.holds a s ≡ false → Transition D s (if_else a b c) [] s c
  -- (10) "a or b: a, or b"
  choice_left : {a b : Program} {s : ℕ} → Transition D s (choice a b) [] s a
  choice_right : {a b : Program} {s : ℕ} → Transition D s (choice a b) [] s b
  -- (11) "while a do b: b then this same while where formula a holds, otherwise nil"
  while_does : {a s : ℕ} {b : Program} → D.holds a s ≡ true → Transition D s (while a b) [] s (seq b (while a b))
  while_ends : {a s : ℕ} {b : Program} → D.holds a s ≡ false → Transition D s (while a b) [] s nil
  -- (12) "star of a: nil, or a then this same star"
  star_ends : {a : Program} {s : ℕ} → Transition D s (star a) [] s nil
  star_does : {a : Program} {s : ℕ} → Transition D s (star a) [] s (seq a (star a))
  -- (13) "pick: … an execution is one of the body for some object"
  picks : {a : Program} {s o : ℕ} → o < D.objects → Transition D s (pick a) [] s (put o 0 a)

-- "A run is finitely many steps, perhaps none; it makes its moves in their order"
pub data Run (D : Domain) : ℕ → Program → List ℕ → ℕ → Program → Type 0 where
  stop : {s : ℕ} {σ : Program} → Run D s σ [] s σ
  step : {s t u : ℕ} {σ τ υ : Program} {ks ms : List ℕ} → Transition D s σ ks t τ → Run D t τ ms u υ → Run D s σ (ks ++ ms) u υ
