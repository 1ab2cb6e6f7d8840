-- The program of a job's rows, row by row: "A row refers only to earlier rows of its own sort; one
-- row may be used several times."
use Rattle.std.specs.Prelude.{ℕ, ◌-◌, length, get_or}
use mathlib.Core.List.{List, [], ◌∷◌, ◌++◌, foldl}
use Rattle.job.specs.Job.{Job, Row}
use Rattle.semantics.specs.Program.{Program, nil, move, any, test, seq, if_else, choice, while, star, pick, object_move, object_test}

-- a row by its kind as in the compiling table, where `of` gives the programs of the rows that it
-- refers to
abbrev pub kinds : (ℕ → Program) → Row → List Program
kinds of r =
    nil  -- 0
    ∷ move r.a  -- 1
    ∷ any  -- 2
    ∷ test r.a  -- 3
    ∷ seq (of r.a) (of r.b)  -- 4
    ∷ if_else r.a (of r.b) (of r.c)  -- 5
    ∷ choice (of r.a) (of r.b)  -- 6
    ∷ while r.a (of r.b)  -- 7
    ∷ star (of r.a)  -- 8
    ∷ pick (of r.a)  -- 9
    ∷ object_move r.a r.b  -- 10
    ∷ object_test r.a r.b  -- 11
    ∷ []

-- a row over the programs of the rows before it
unfoldable pub build : List Program → Row → Program
build ps r = get_or (kinds (λ i. get_or ps i nil) r) r.kind nil

unfoldable pub programs : List Row → List Program
programs program = foldl (λ ps r. ps ++ (build ps r ∷ [])) [] program

-- the program of row i
abbrev pub row_program : List Row → ℕ → Program
row_program program i = get_or (programs program) i nil

-- "The last is the recipe."
abbrev pub program_of : Job → Program
program_of j = row_program j.program (length j.program - 1)
