-- A run of a program whose variables have their picks meets no other variable.
-- Assumes nothing.
use Prim.Native.Nat.{ℕ, suc, ◌+◌, ◌<◌}
use mathlib.Core.Path.{◌≡◌, refl}
use mathlib.Core.Bool.{true, false}
use mathlib.Core.List.{List}
use native.Mathlib.Omega.{arith}
use lib.Dec.{ltb, eqb}
use borrow.Author.Tests.{ltb-true, lt-ltb, eqb-false}
use Rattle.laws.proofs.Tests.{and_left, and_right, and_both, cond_has}
use Rattle.semantics.specs.Program.{Program, nil, move, any, test, seq, if_else, choice, while, star, pick, object_move, object_test, put}
use Rattle.semantics.specs.Domain.{Domain}
use Rattle.semantics.specs.Transition.{
  Transition,
  moves,
  any_moves,
  tests,
  seq_steps,
  seq_passes,
  if_then,
  if_otherwise,
  choice_left,
  choice_right,
  while_does,
  while_ends,
  star_ends,
  star_does,
  picks,
  Run,
  stop,
  step,
}
use Rattle.semantics.specs.Scope.{scoped}

still_below : (d b : ℕ) → ltb b (suc d) ≡ true → eqb b d ≡ false → ltb b d ≡ true
still_below d b h e = lt-ltb b d (smaller (ltb-true b (suc d) h) (eqb-false b d e))
  where
    smaller : b < suc d → (b ≡ d → ⊥) → b < d
    smaller g n = omega (arith, n)

put_scoped : (o d : ℕ) (σ : Program) → scoped (suc d) σ ≡ true → scoped d (put o d σ) ≡ true
unfolding scoped put
put_scoped o d nil h = refl
put_scoped o d (move a) h = refl
put_scoped o d any h = refl
put_scoped o d (test a) h = refl
put_scoped o d (seq a b) h =
    and_both _ _ (put_scoped o d a (and_left _ (scoped (suc d) b) h)) (put_scoped o d b (and_right (scoped (suc d) a) _ h))
put_scoped o d (if_else a b c) h =
    and_both _ _ (put_scoped o d b (and_left _ (scoped (suc d) c) h)) (put_scoped o d c (and_right (scoped (suc d) b) _ h))
put_scoped o d (choice a b) h =
    and_both _ _ (put_scoped o d a (and_left _ (scoped (suc d) b) h)) (put_scoped o d b (and_right (scoped (suc d) a) _ h))
put_scoped o d (while a b) h = put_scoped o d b h
put_scoped o d (star a) h = put_scoped o d a h
put_scoped o d (pick a) h = put_scoped o (suc d) a h
put_scoped o d (object_move a b) h = cond_has (λ (σ : Program). scoped d σ ≡ true) (eqb b d) (move (a + o)) (object_move a b) (λ e. refl) (still_below d b h)
put_scoped o d (object_test a b) h = cond_has (λ (σ : Program). scoped d σ ≡ true) (eqb b d) (test (a + o)) (object_test a b) (λ e. refl) (still_below d b h)

stays_scoped : {D : Domain} {s t : ℕ} {σ ρ : Program} {ks : List ℕ} → Transition D s σ ks t ρ → scoped 0 σ ≡ true → scoped 0 ρ ≡ true
unfolding scoped
stays_scoped (moves x) h = refl
stays_scoped (any_moves x y) h = refl
stays_scoped (tests x) h = refl
stays_scoped (seq_steps {a} {b = b} r) h = and_both _ _ (stays_scoped r (and_left _ (scoped 0 b) h)) (and_right (scoped 0 a) _ h)
stays_scoped (seq_passes {b}) h = and_right true (scoped 0 b) h
stays_scoped (if_then {b} {c} x) h = and_left _ (scoped 0 c) h
stays_scoped (if_otherwise {b} {c} x) h = and_right (scoped 0 b) _ h
stays_scoped (choice_left {a} {b}) h = and_left _ (scoped 0 b) h
stays_scoped (choice_right {a} {b}) h = and_right (scoped 0 a) _ h
stays_scoped (while_does x) h = and_both _ _ h h
stays_scoped (while_ends x) h = refl
stays_scoped star_ends h = refl
stays_scoped star_does h = and_both _ _ h h
stays_scoped (picks {a} {o = o} x) h = put_scoped o 0 a h

pub run_scoped : {D : Domain} {s t : ℕ} {σ ρ : Program} {ms : List ℕ} → Run D s σ ms t ρ → scoped 0 σ ≡ true → scoped 0 ρ ≡ true
run_scoped stop h = h
run_scoped (step x r) h = run_scoped r (stays_scoped x h)
