-- The rows of the compiling table by their shape: what the steps of a program and its end are made
-- of, which variables it has, and what else it gives.
-- Assumes nothing.
use Prim.Native.Nat.{ℕ, zero, suc, ◌<◌}
use mathlib.Core.Path.{◌≡◌, refl, sym, ◌∙◌, ap, ap₂}
use mathlib.Core.Bool.{true, ◌&&◌}
use Rattle.std.specs.Prelude.{Some}
use mathlib.Core.List.{List, [], ◌∷◌, ◌++◌}
use native.Mathlib.Omega.{arith}
use lib.Dec.{leb, leb-zero, ltb}
use Rattle.std.specs.Prelude.{slice_get}
use lib.ListN.{length, get_or}
use borrow.Author.Tests.{leb-true, le-leb, ltb-true, lt-ltb}
use Rattle.laws.proofs.Tests.{tests_equal}
use Rattle.job.specs.declared.head.Counts.{Counts}
use Rattle.semantics.specs.Label.{Label}
use Rattle.semantics.specs.Program.{Program}
use Rattle.semantics.specs.CompilingTable.{Step, arc, end, steps, branch_steps, object_steps}
use Rattle.semantics.specs.Scope.{scoped}
use Rattle.compile.specs.Construct.{simple, leaf_label, leaf_picks, HasObject, branch, first_label, second_label, loop, loop_steps}
use Rattle.compile.specs.Construct.{Algebra, fold_in, fold, program_in, Refers, RowSays}
use Rattle.compile.specs.declared.rows.Simple.{Simple}
use Rattle.compile.specs.declared.rows.Simple.TheVariants.{Nil, Move, Test, ObjectMove, ObjectTest}
use Rattle.compile.specs.declared.rows.Guard.{Guard}
use Rattle.compile.specs.declared.rows.Guard.TheVariants.{Free, On}
use Rattle.compile.specs.declared.rows.Construct.{Construct}
use Rattle.compile.specs.declared.rows.Construct.TheVariants as C

-- what a row makes inside picks of these objects, in a job of these counts
module _ (c : Counts) (env : List ℕ) where
  abbrev pub row_steps : Program → ℕ → List Step
  row_steps = steps c.moves c.objects env

  abbrev pub row_end : Program → ℕ → ℕ
  row_end = end c.objects

  -- one step
  pub record Leaf (σ : Program) (l : Label) : Type 0 where
    pub made : (n : ℕ) → row_steps σ n ≡ arc l n (suc n) ∷ []

  -- two branches, entered under x and y
  pub record Branch (σ a b : Program) (x y : Label) : Type 0 where
    pub made : (n : ℕ)
        → row_steps σ n ≡ row_steps a (suc n) ++ row_steps b (suc (row_end a (suc n))) ++ branch_steps x y n (row_end a (suc n)) (row_end b (suc (row_end a (suc n))))
    pub ends : (n : ℕ) → row_end σ n ≡ suc (row_end b (suc (row_end a (suc n))))

  -- one part that is repeated, with these steps from the row's first position and from the part's
  -- end
  pub record Loop (σ a : Program) (glue : ℕ → ℕ → List Step) : Type 0 where
    pub made : (n : ℕ) → row_steps σ n ≡ row_steps a (suc n) ++ glue n (row_end a (suc n))
    pub ends : (n : ℕ) → row_end σ n ≡ suc (row_end a (suc n))

  object_at : (env : List ℕ) (b : ℕ) → b < length env → slice_get env b ≡ Some (get_or env b 0)
  object_at [] b h = absurd (omega arith)
  object_at (o ∷ env) zero h = refl
  object_at (o ∷ env) (suc b) h = object_at env b (omega arith)

  pub leaf_made : (s : Simple) → HasObject env s → Leaf (simple s) (leaf_label env s)
  unfolding steps object_steps
  leaf_made Nil h = record { made = λ n. refl }
  leaf_made (Move a) h = record { made = λ n. refl }
  leaf_made (Test a) h = record { made = λ n. refl }
  leaf_made (ObjectMove a b) h = record { made = λ n. rw (object_at env b h) refl }
  leaf_made (ObjectTest a b) h = record { made = λ n. rw (object_at env b h) refl }

  pub leaf_ends : (s : Simple) (n : ℕ) → row_end (simple s) n ≡ suc n
  unfolding end
  leaf_ends Nil n = refl
  leaf_ends (Move a) n = refl
  leaf_ends (Test a) n = refl
  leaf_ends (ObjectMove a b) n = refl
  leaf_ends (ObjectTest a b) n = refl

  pub branch_made : (g : Guard) (a b : Program) → Branch (branch g a b) a b (first_label g) (second_label g)
  unfolding steps end
  branch_made Free a b = record { made = λ n. refl; ends = λ n. refl }
  branch_made (On f) a b = record { made = λ n. refl; ends = λ n. refl }

  pub loop_made : (g : Guard) (a : Program) → Loop (loop g a) a (loop_steps g)
  unfolding steps end
  loop_made Free a = record { made = λ n. refl; ends = λ n. refl }
  loop_made (On f) a = record { made = λ n. refl; ends = λ n. refl }

below_leb : (b d : ℕ) → ltb b d ≡ leb (suc b) d
below_leb b d = tests_equal _ _ (λ h. le-leb (suc b) d (ltb-true b d h)) (λ h. lt-ltb b d (leb-true (suc b) d h))

-- inside d picks
module _ (d : ℕ) where
  pub leaf_scoped : (s : Simple) → scoped d (simple s) ≡ leb (leaf_picks s) d
  unfolding scoped
  leaf_scoped Nil = sym (leb-zero d)
  leaf_scoped (Move a) = sym (leb-zero d)
  leaf_scoped (Test a) = sym (leb-zero d)
  leaf_scoped (ObjectMove a b) = below_leb b d
  leaf_scoped (ObjectTest a b) = below_leb b d

  pub branch_scoped : (g : Guard) (a b : Program) → scoped d (branch g a b) ≡ scoped d a && scoped d b
  unfolding scoped
  branch_scoped Free a b = refl
  branch_scoped (On f) a b = refl

  pub loop_scoped : (g : Guard) (a : Program) → scoped d (loop g a) ≡ scoped d a
  unfolding scoped
  loop_scoped Free a = refl
  loop_scoped (On f) a = refl

pub has_object : (env : List ℕ) (s : Simple) → scoped (length env) (simple s) ≡ true → HasObject env s
has_object env s h = leb-true (leaf_picks s) (length env) (sym (leaf_scoped (length env) s) ∙ h)

-- what a program gives, by its shape
module _ {X : Type 0} (A : Algebra X) where
  pub fold_leaf : (s : Simple) → fold A (simple s) ≡ A.leaf s
  unfolding fold
  fold_leaf Nil = refl
  fold_leaf (Move a) = refl
  fold_leaf (Test a) = refl
  fold_leaf (ObjectMove a b) = refl
  fold_leaf (ObjectTest a b) = refl

  pub fold_branch : (g : Guard) (a b : Program) → fold A (branch g a b) ≡ A.branch g (fold A a) (fold A b)
  unfolding fold
  fold_branch Free a b = refl
  fold_branch (On f) a b = refl

  pub fold_loop : (g : Guard) (a : Program) → fold A (loop g a) ≡ A.loop g (fold A a)
  unfolding fold
  fold_loop Free a = refl
  fold_loop (On f) a = refl

  row_fold : (of : ℕ → Program) (r : Construct) → fold A (program_in of r) ≡ fold_in A (λ k. fold A (of k)) r
  unfolding fold
  row_fold of (C.Leaf s) = fold_leaf s
  row_fold of C.Any = refl
  row_fold of (C.Seq a b) = refl
  row_fold of (C.Branch g a b) = fold_branch g (of a) (of b)
  row_fold of (C.Loop g a) = fold_loop g (of a)
  row_fold of (C.Pick a) = refl

  pub row_gives : {of : ℕ → Program} {i : ℕ} {r : Construct} → RowSays of i r → fold A (of i) ≡ fold_in A (λ k. fold A (of k)) r
  row_gives {of} {i} {r} e = ap (fold A) e.is ∙ row_fold of r

  -- a row gives what it does by the rows before it
  pub same_fold : {f g : ℕ → X} {i : ℕ} → ((k : ℕ) → k < i → f k ≡ g k) → (r : Construct) → Refers i r → fold_in A f r ≡ fold_in A g r
  same_fold e (C.Leaf s) h = refl
  same_fold e C.Any h = refl
  same_fold e (C.Seq a b) h = ap₂ A.seq (e a h.0) (e b h.1)
  same_fold e (C.Branch x a b) h = ap₂ (A.branch x) (e a h.0) (e b h.1)
  same_fold e (C.Loop x a) h = ap (A.loop x) (e a h)
  same_fold e (C.Pick a) h = ap A.pick (e a h)
