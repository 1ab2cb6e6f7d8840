-- What a program row says, by its shape, for each case of the code's answer.
use Rattle.std.specs.Prelude.{ℕ, suc, ◌+◌, ◌-◌, ◌≤◌, ◌<◌, max, ◌≡◌, List, [], ◌∷◌, length, get_or}
use Rattle.limits.specs.Limits.{most_objects}
use Rattle.job.specs.Job.{Row}
use Rattle.semantics.specs.Label.{Label, noop, holds, fails, make}
use Rattle.semantics.specs.Program.{Program, nil, move, any, test, seq, if_else, choice, while, star, pick, object_move, object_test}
use Rattle.semantics.specs.CompilingTable.{Step, while_steps, star_steps}
use Rattle.compile.specs.declared.rows.Simple.{Simple}
use Rattle.compile.specs.declared.rows.Simple.TheVariants.{Nil, Move, Test, ObjectMove, ObjectTest}
use Rattle.compile.specs.declared.rows.Guard.{Guard}
use Rattle.compile.specs.declared.rows.Guard.TheVariants.{Free, On}
use Rattle.compile.specs.declared.rows.Construct.{Construct}
use Rattle.compile.specs.declared.rows.Construct.TheVariants.{Leaf, Any, Seq, Branch, Loop, Pick}

-- a program of one step, and the step's label
abbrev pub simple : Simple → Program
simple Nil = nil
simple (Move a) = move a
simple (Test a) = test a
simple (ObjectMove a b) = object_move a b
simple (ObjectTest a b) = object_test a b

-- env has the objects of the enclosing picks, the nearest first
abbrev pub leaf_label : List ℕ → Simple → Label
leaf_label env Nil = noop
leaf_label env (Move a) = make a
leaf_label env (Test a) = holds a
leaf_label env (ObjectMove a b) = make (a + get_or env b 0)
leaf_label env (ObjectTest a b) = holds (a + get_or env b 0)

-- any object may be added to a base
abbrev pub Base : ℕ → Type 0
Base a = a + most_objects ≤ 65535

abbrev pub BaseRight : Simple → Type 0
BaseRight Nil = Unit {0}
BaseRight (Move a) = Unit {0}
BaseRight (Test a) = Unit {0}
BaseRight (ObjectMove a b) = Base a
BaseRight (ObjectTest a b) = Base a

-- how many enclosing picks it asks for, and that there are so many: its variable has an object
abbrev pub leaf_picks : Simple → ℕ
leaf_picks Nil = 0
leaf_picks (Move a) = 0
leaf_picks (Test a) = 0
leaf_picks (ObjectMove a b) = suc b
leaf_picks (ObjectTest a b) = suc b

abbrev pub HasObject : List ℕ → Simple → Type 0
HasObject env s = leaf_picks s ≤ length env

-- two branches, of which a formula's value names the one that is taken, or either is; a part that
-- is repeated
abbrev pub branch : Guard → Program → Program → Program
branch Free a b = choice a b
branch (On f) a b = if_else f a b

abbrev pub loop : Guard → Program → Program
loop Free a = star a
loop (On f) a = while f a

-- the labels of the steps into the first branch or the part, and into the second branch or past the
-- part
abbrev pub first_label : Guard → Label
first_label Free = noop
first_label (On f) = holds f

abbrev pub second_label : Guard → Label
second_label Free = noop
second_label (On f) = fails f

-- the steps after the part that is repeated
abbrev pub loop_steps : Guard → ℕ → ℕ → List Step
loop_steps Free = star_steps
loop_steps (On f) = while_steps f

-- what each shape gives from what its parts give
pub record Algebra (X : Type 0) : Type 0 where
  pub leaf : Simple → X
  pub any : X
  pub seq : X → X → X
  pub branch : Guard → X → X → X
  pub loop : Guard → X → X
  pub pick : X → X

-- what a row gives, where `of` has what the rows that it refers to give
abbrev pub fold_in : {X : Type 0} → Algebra X → (ℕ → X) → Construct → X
fold_in A of (Leaf s) = A.leaf s
fold_in A of Any = A.any
fold_in A of (Seq a b) = A.seq (of a) (of b)
fold_in A of (Branch g a b) = A.branch g (of a) (of b)
fold_in A of (Loop g a) = A.loop g (of a)
fold_in A of (Pick a) = A.pick (of a)

-- what holds of each shape, if it does of its parts, holds of every program
module _ (P : Program → Type 0) (leaf : (s : Simple) → P (simple s)) (one : P any) (two : (a b : Program) → P a → P b → P (seq a b))
    (ways : (g : Guard) (a b : Program) → P a → P b → P (branch g a b)) (again : (g : Guard) (a : Program) → P a → P (loop g a))
    (each : (a : Program) → P a → P (pick a)) where
  pub by_shape : (σ : Program) → P σ
  by_shape nil = leaf Nil
  by_shape (move a) = leaf (Move a)
  by_shape any = one
  by_shape (test a) = leaf (Test a)
  by_shape (seq a b) = two a b (by_shape a) (by_shape b)
  by_shape (if_else f a b) = ways (On f) a b (by_shape a) (by_shape b)
  by_shape (choice a b) = ways Free a b (by_shape a) (by_shape b)
  by_shape (while f a) = again (On f) a (by_shape a)
  by_shape (star a) = again Free a (by_shape a)
  by_shape (pick a) = each a (by_shape a)
  by_shape (object_move a b) = leaf (ObjectMove a b)
  by_shape (object_test a b) = leaf (ObjectTest a b)

-- what a program gives
unfoldable pub fold : {X : Type 0} → Algebra X → Program → X
unfolding by_shape
fold {X} A = by_shape (λ σ. X) A.leaf A.any (λ a b. A.seq) (λ g a b. A.branch g) (λ g a. A.loop g) (λ a. A.pick)

-- the program of a row, from those of the rows that it refers to
abbrev pub program_algebra : Algebra Program
program_algebra = record { leaf = simple; any = any; seq = seq; branch = branch; loop = loop; pick = pick }

abbrev pub program_in : (ℕ → Program) → Construct → Program
program_in = fold_in program_algebra

-- how many enclosing picks a row asks for, from what the rows that it refers to ask for
abbrev pub pick_algebra : Algebra ℕ
pick_algebra = record { leaf = leaf_picks; any = 0; seq = max; branch = λ g. max; loop = λ g x. x; pick = λ x. x - 1 }

abbrev pub picks_in : (ℕ → ℕ) → Construct → ℕ
picks_in = fold_in pick_algebra

-- what it refers to is there: rows before row i, and what any object adds to a base
abbrev pub Refers : ℕ → Construct → Type 0
Refers i (Leaf s) = BaseRight s
Refers i Any = Unit {0}
Refers i (Seq a b) = (a < i) × (b < i)
Refers i (Branch g a b) = (a < i) × (b < i)
Refers i (Loop g a) = a < i
Refers i (Pick a) = a < i

-- row i says this, where `of` gives the programs of the rows
pub record RowSays (of : ℕ → Program) (i : ℕ) (r : Construct) : Type 0 where
  pub is : of i ≡ program_in of r
  pub refers : Refers i r

-- what a row says, by its kind, in the order of the compiling table's `kinds`
abbrev pub constructs : Row → List Construct
constructs r =
    Leaf Nil
    ∷ Leaf (Move r.a)
    ∷ Any
    ∷ Leaf (Test r.a)
    ∷ Seq r.a r.b
    ∷ Branch (On r.a) r.b r.c
    ∷ Branch Free r.a r.b
    ∷ Loop (On r.a) r.b
    ∷ Loop Free r.a
    ∷ Pick r.a
    ∷ Leaf (ObjectMove r.a r.b)
    ∷ Leaf (ObjectTest r.a r.b)
    ∷ []

abbrev pub construct_of : Row → Construct
construct_of r = get_or (constructs r) r.kind (Leaf Nil)
