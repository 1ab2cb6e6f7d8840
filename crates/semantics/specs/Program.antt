-- Control programs (document 01: recipes), a constructor for each kind of row.
use Rattle.std.specs.Prelude.{ℕ, suc, ◌+◌, cond, eqb}

pub data Program : Type 0 where
  nil : Program
  -- the move of this number
  move : ℕ → Program
  -- some one move
  any : Program
  -- the formula of this number
  test : ℕ → Program
  -- a then b
  seq : Program → Program → Program
  -- if formula a then b else c
  if_else : ℕ → Program → Program → Program
  -- a or b
  choice : Program → Program → Program
  -- while formula a do b
  while : ℕ → Program → Program
  star : Program → Program
  -- "pick: a is the body, and an execution is one of the body for some object"
  pick : Program → Program
  -- "a move, number a plus the object of the b-th enclosing pick, 0 being the nearest"
  object_move : ℕ → ℕ → Program
  -- "a test of formula a plus that object"
  object_test : ℕ → ℕ → Program

-- 003's σ₁|x/o: object o in place of the variable that stands x picks out from σ₁'s nearest; inside
-- another pick it stands one further out
unfoldable pub put : ℕ → ℕ → Program → Program
put o x nil = nil
put o x (move a) = move a
put o x any = any
put o x (test a) = test a
put o x (seq a b) = seq (put o x a) (put o x b)
put o x (if_else a b c) = if_else a (put o x b) (put o x c)
put o x (choice a b) = choice (put o x a) (put o x b)
put o x (while a b) = while a (put o x b)
put o x (star a) = star (put o x a)
put o x (pick a) = pick (put o (suc x) a)
put o x (object_move a b) = cond (eqb b x) (move (a + o)) (object_move a b)
put o x (object_test a b) = cond (eqb b x) (test (a + o)) (object_test a b)
