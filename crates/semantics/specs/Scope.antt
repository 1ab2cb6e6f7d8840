-- Variables and their picks: "A variable with too few enclosing picks, met while reading down from
-- the recipe, into picks over no object too, is refused".
use Rattle.std.specs.Prelude.{ℕ, suc, Bool, true, ◌&&◌, ltb}
use Rattle.semantics.specs.Program.{Program, nil, move, any, test, seq, if_else, choice, while, star, pick, object_move, object_test}

-- inside d picks each variable has its pick, read down
unfoldable pub scoped : ℕ → Program → Bool
scoped d nil = true
scoped d (move a) = true
scoped d any = true
scoped d (test a) = true
scoped d (seq a b) = scoped d a && scoped d b
scoped d (if_else a b c) = scoped d b && scoped d c
scoped d (choice a b) = scoped d a && scoped d b
scoped d (while a b) = scoped d b
scoped d (star a) = scoped d a
scoped d (pick a) = scoped (suc d) a
scoped d (object_move a b) = ltb b d
scoped d (object_test a b) = ltb b d
