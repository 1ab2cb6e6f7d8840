-- A program's variables have their picks just where it asks for no enclosing pick.
-- Assumes nothing.
use Prim.Native.Nat.{ℕ, suc, ◌-◌, max}
use mathlib.Core.Path.{◌≡◌, sym, ◌∙◌, ap₂}
use mathlib.Core.Bool.{◌&&◌}
use native.Mathlib.Omega.{arith}
use lib.Dec.{leb, leb-zero, eqb}
use borrow.Author.Tests.{leb-true, le-leb, eqb-true, eq-eqb}
use Rattle.laws.proofs.Tests.{and_left, and_right, and_both, tests_equal}
use Rattle.semantics.specs.Program.{Program}
use Rattle.semantics.specs.Scope.{scoped}
use Rattle.compile.specs.Construct.{by_shape, fold, pick_algebra}
use Rattle.compile.proofs.Shapes.{leaf_scoped, branch_scoped, loop_scoped, fold_leaf, fold_branch, fold_loop}

-- how many enclosing picks a program asks for
abbrev pub picks_needed : Program → ℕ
picks_needed = fold pick_algebra

both_at_most : (x y d : ℕ) → leb x d && leb y d ≡ leb (max x y) d
both_at_most x y d = tests_equal _ _
    (λ h. le-leb (max x y) d (omega (arith, leb-true x d (and_left _ (leb y d) h), leb-true y d (and_right (leb x d) _ h))))
    (λ h. and_both _ _ (le-leb x d (omega (arith, leb-true (max x y) d h))) (le-leb y d (omega (arith, leb-true (max x y) d h))))

one_fewer : (x d : ℕ) → leb x (suc d) ≡ leb (x - 1) d
one_fewer x d = tests_equal _ _ (λ h. le-leb (x - 1) d (omega (arith, leb-true x (suc d) h))) (λ h. le-leb x (suc d) (omega (arith, leb-true (x - 1) d h)))

-- inside d picks each variable has its pick where no more are asked for
pub scoped_needed : (σ : Program) (d : ℕ) → scoped d σ ≡ leb (picks_needed σ) d
unfolding scoped fold
scoped_needed = by_shape (λ σ. (d : ℕ) → scoped d σ ≡ leb (picks_needed σ) d)
    (λ s d. rw (fold_leaf _ s) (leaf_scoped d s))
    (λ d. sym (leb-zero d))
    (λ a b u v d. ap₂ ◌&&◌ (u d) (v d) ∙ both_at_most (picks_needed a) (picks_needed b) d)
    (λ g a b u v d. rw (fold_branch _ g a b) (branch_scoped d g a b ∙ ap₂ ◌&&◌ (u d) (v d) ∙ both_at_most (picks_needed a) (picks_needed b) d))
    (λ g a u d. rw (fold_loop _ g a) (loop_scoped d g a ∙ u d))
    (λ a u d. u (suc d) ∙ one_fewer (picks_needed a) d)

-- outside every pick
pub none_needed : (σ : Program) → eqb (picks_needed σ) 0 ≡ scoped 0 σ
none_needed σ =
    tests_equal _ (leb (picks_needed σ) 0)
    (λ h. le-leb (picks_needed σ) 0 (omega (arith, eqb-true (picks_needed σ) 0 h))) (λ h. eq-eqb (picks_needed σ) 0 (omega (arith, leb-true (picks_needed σ) 0 h)))
    ∙ sym (scoped_needed σ 0)
