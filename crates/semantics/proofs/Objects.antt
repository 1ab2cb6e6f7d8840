-- Programs with objects in place of variables.
-- Assumes nothing.
use Prim.Native.Nat.{ℕ, zero, suc, ◌+◌}
use mathlib.Core.Path.{◌≡◌, refl, ap, ap₂}
use mathlib.Core.Bool.{true, false, cond}
use Rattle.std.specs.Prelude.{Option, None, Some}
use mathlib.Core.List.{List, [], ◌∷◌}
use lib.Dec.{eqb, eqb-zero-suc, eqb-suc-zero, eqb-suc-suc}
use Rattle.std.specs.Prelude.{slice_get}
use Rattle.semantics.specs.Program.{Program, nil, move, any, test, seq, if_else, choice, while, star, pick, object_move, object_test, put}

-- the object of variable b inside x picks, where env has those of the picks around these
unfoldable pub object_for : List ℕ → ℕ → ℕ → Option ℕ
object_for env zero b = slice_get env b
object_for env (suc x) zero = None
object_for env (suc x) (suc b) = object_for env x b

-- a row that has a variable, by its object; without one it stays as it is
unfoldable pub with_object : (ℕ → Program) → Program → Option ℕ → Program
with_object f bare None = bare
with_object f bare (Some o) = f o

-- a program inside x picks, with the objects of env in place of the variables of the picks around
-- these
unfoldable pub instance : List ℕ → ℕ → Program → Program
instance env x nil = nil
instance env x (move a) = move a
instance env x any = any
instance env x (test a) = test a
instance env x (seq a b) = seq (instance env x a) (instance env x b)
instance env x (if_else a b c) = if_else a (instance env x b) (instance env x c)
instance env x (choice a b) = choice (instance env x a) (instance env x b)
instance env x (while a b) = while a (instance env x b)
instance env x (star a) = star (instance env x a)
instance env x (pick a) = pick (instance env (suc x) a)
instance env x (object_move a b) = with_object (λ o. move (a + o)) (object_move a b) (object_for env x b)
instance env x (object_test a b) = with_object (λ o. test (a + o)) (object_test a b) (object_for env x b)

-- no objects

no_object : (x b : ℕ) → object_for [] x b ≡ None
unfolding object_for
no_object zero b = refl
no_object (suc x) zero = refl
no_object (suc x) (suc b) = no_object x b

pub instance_of_none : (x : ℕ) (σ : Program) → instance [] x σ ≡ σ
unfolding instance with_object
instance_of_none x nil = refl
instance_of_none x (move a) = refl
instance_of_none x any = refl
instance_of_none x (test a) = refl
instance_of_none x (seq a b) = ap₂ seq (instance_of_none x a) (instance_of_none x b)
instance_of_none x (if_else a b c) = ap₂ (if_else a) (instance_of_none x b) (instance_of_none x c)
instance_of_none x (choice a b) = ap₂ choice (instance_of_none x a) (instance_of_none x b)
instance_of_none x (while a b) = ap (while a) (instance_of_none x b)
instance_of_none x (star a) = ap star (instance_of_none x a)
instance_of_none x (pick a) = ap pick (instance_of_none (suc x) a)
instance_of_none x (object_move a b) = rw (no_object x b)
instance_of_none x (object_test a b) = rw (no_object x b)

-- one object more, for the variable x: what variable b had, and has

data Gains (o x b : ℕ) : Option ℕ → Option ℕ → Type 0 where
  this : eqb b x ≡ true → Gains o x b None (Some o)
  other : {r : Option ℕ} → eqb b x ≡ false → Gains o x b r r

gains_next : {o x b : ℕ} {r r' : Option ℕ} → Gains o x b r r' → Gains o (suc x) (suc b) r r'
gains_next {x} {b} (this e) = this (rw eqb-suc-suc e)
gains_next {x} {b} (other e) = other (rw eqb-suc-suc e)

gains : (env : List ℕ) (o x b : ℕ) → Gains o x b (object_for env (suc x) b) (object_for (o ∷ env) x b)
unfolding object_for
gains env o zero zero = this refl
gains env o zero (suc b) = other (eqb-suc-zero b)
gains env o (suc x) zero = other (eqb-zero-suc x)
gains env o (suc x) (suc b) = gains_next (gains env o x b)

module _ {o x b : ℕ} (f : ℕ → Program) (bare : Program)
    (opens : put o x bare ≡ cond (eqb b x) (f o) bare) (stays : (q : ℕ) → put o x (f q) ≡ f q) where
  put_with_object : {r r' : Option ℕ} → Gains o x b r r' → put o x (with_object f bare r) ≡ with_object f bare r'
  unfolding with_object
  put_with_object (this e) = rw e at opens
  put_with_object (other {r = None} e) = rw e at opens
  put_with_object (other {r = Some q} e) = stays q

module _ (env : List ℕ) (o : ℕ) where
  pub put_instance : (x : ℕ) (σ : Program) → put o x (instance env (suc x) σ) ≡ instance (o ∷ env) x σ
  unfolding put instance
  put_instance x nil = refl
  put_instance x (move a) = refl
  put_instance x any = refl
  put_instance x (test a) = refl
  put_instance x (seq a b) = ap₂ seq (put_instance x a) (put_instance x b)
  put_instance x (if_else a b c) = ap₂ (if_else a) (put_instance x b) (put_instance x c)
  put_instance x (choice a b) = ap₂ choice (put_instance x a) (put_instance x b)
  put_instance x (while a b) = ap (while a) (put_instance x b)
  put_instance x (star a) = ap star (put_instance x a)
  put_instance x (pick a) = ap pick (put_instance (suc x) a)
  put_instance x (object_move a b) = put_with_object (λ q. move (a + q)) (object_move a b) refl (λ q. refl) (gains env o x b)
  put_instance x (object_test a b) = put_with_object (λ q. test (a + q)) (object_test a b) refl (λ q. refl) (gains env o x b)
