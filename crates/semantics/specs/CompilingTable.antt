-- "Compiling table": the steps of a program that is compiled from position n, and the position e
-- where it ends.
use Rattle.std.specs.Prelude.{ℕ, zero, suc, ◌+◌, cond, List, [], ◌∷◌, ◌++◌, eqb, get_or, drop}
use Rattle.std.specs.Prelude.{Option, None, Some}
use Rattle.std.specs.Prelude.{slice_get}
use Rattle.semantics.specs.Label.{Label, noop, holds, fails, make}
use Rattle.semantics.specs.Program.{Program, nil, move, any, test, seq, if_else, choice, while, star, pick, object_move, object_test}
use Rattle.semantics.specs.Domain.{Domain}

-- a step under a label, from a position to a position
pub data Step : Type 0 where
  arc : Label → ℕ → ℕ → Step

-- "Pick from n compiles object 0's copy from n+1, and each later copy from one past the previous
-- end": where the copy of object o starts, if a copy from p ends at `ends p`. Past the last copy that
-- is the pick's own end: "one past the last copy's end, or n+1 when O is 0"
unfoldable pub copy_start : (ℕ → ℕ) → ℕ → ℕ → ℕ
copy_start ends n zero = suc n
copy_start ends n (suc o) = suc (ends (copy_start ends n o))

-- the column "e", where the job has O objects
unfoldable pub end : ℕ → Program → ℕ → ℕ
end O nil n = suc n
end O (move a) n = suc n
end O any n = suc n
end O (test a) n = suc n
end O (seq a b) n = end O b (end O a n)
end O (if_else a b c) n = suc (end O c (suc (end O b (suc n))))
end O (choice a b) n = suc (end O b (suc (end O a (suc n))))
end O (while a b) n = suc (end O b (suc n))
end O (star a) n = suc (end O a (suc n))
end O (pick a) n = copy_start (end O a) n O
end O (object_move a b) n = suc n
end O (object_test a b) n = suc n

-- "one move step for each move, 0 upward": so many moves from number a on
unfoldable pub move_steps : ℕ → ℕ → ℕ → List Step
move_steps zero a n = []
move_steps (suc count) a n = arc (make a) n (suc n) ∷ move_steps count (suc a) n

-- the steps after two branches that end at n₁ and n₂, entered under x and under y
unfoldable pub branch_steps : Label → Label → ℕ → ℕ → ℕ → List Step
branch_steps x y n n₁ n₂ = arc x n (suc n) ∷ arc y n (suc n₁) ∷ arc noop n₁ (suc n₂) ∷ arc noop n₂ (suc n₂) ∷ []

-- the steps after the body of a while and of a star, which ends at n₁
unfoldable pub while_steps : ℕ → ℕ → ℕ → List Step
while_steps a n n₁ = arc (holds a) n (suc n) ∷ arc (fails a) n (suc n₁) ∷ arc noop n₁ n ∷ []

unfoldable pub star_steps : ℕ → ℕ → List Step
star_steps n n₁ = arc noop n (suc n) ∷ arc noop n₁ n ∷ arc noop n (suc n₁) ∷ []

-- a list of steps for each object, 0 upward: for the first k of them
unfoldable pub copies : ℕ → (ℕ → List Step) → List Step
copies zero g = []
copies (suc k) g = copies k g ++ g k

-- "After all copies come a no-op from n to each start, then one from each end to e."
unfoldable pub pick_steps : ℕ → ℕ → (ℕ → ℕ) → (ℕ → ℕ) → List Step
pick_steps O n starts ends = copies O (λ o. arc noop n (starts o) ∷ []) ++ copies O (λ o. arc noop (ends o) (starts O) ∷ [])

-- the step of a row that has a variable, by its object; none where the variable has no pick
unfoldable pub object_steps : (ℕ → Label) → Option ℕ → ℕ → List Step
object_steps l None n = []
object_steps l (Some o) n = arc (l o) n (suc n) ∷ []

-- the column "steps", where the job has M moves and O objects, and env has the objects of the
-- enclosing picks, the nearest first; "Steps come in the order written; body steps first."
unfoldable pub steps : ℕ → ℕ → List ℕ → Program → ℕ → List Step
steps M O env nil n = arc noop n (suc n) ∷ []
steps M O env (move a) n = arc (make a) n (suc n) ∷ []
steps M O env any n = move_steps M 0 n
steps M O env (test a) n = arc (holds a) n (suc n) ∷ []
steps M O env (seq a b) n = steps M O env a n ++ steps M O env b (end O a n)
steps M O env (if_else a b c) n =
    let n₁ = end O b (suc n) in
    steps M O env b (suc n) ++ steps M O env c (suc n₁) ++ branch_steps (holds a) (fails a) n n₁ (end O c (suc n₁))
steps M O env (choice a b) n =
    let n₁ = end O a (suc n) in
    steps M O env a (suc n) ++ steps M O env b (suc n₁) ++ branch_steps noop noop n n₁ (end O b (suc n₁))
steps M O env (while a b) n = steps M O env b (suc n) ++ while_steps a n (end O b (suc n))
steps M O env (star a) n = steps M O env a (suc n) ++ star_steps n (end O a (suc n))
steps M O env (pick a) n =
    let starts : ℕ → ℕ = copy_start (end O a) n in
    copies O (λ o. steps M O (o ∷ env) a (starts o)) ++ pick_steps O n starts (λ o. end O a (starts o))
steps M O env (object_move a b) n = object_steps (λ o. make (a + o)) (slice_get env b) n
steps M O env (object_test a b) n = object_steps (λ o. holds (a + o)) (slice_get env b) n

-- "The recipe starts at 0; its end is the final position.": where there are M moves and O objects
abbrev pub program_steps : ℕ → ℕ → Program → List Step
program_steps M O σ = steps M O [] σ 0

abbrev pub program_end : ℕ → Program → ℕ
program_end O σ = end O σ 0

-- the same in a domain
abbrev pub compiled_steps : Domain → Program → List Step
compiled_steps D σ = program_steps D.moves D.objects σ

abbrev pub final_position : Domain → Program → ℕ
final_position D σ = program_end D.objects σ

-- "A step is (kind, from, to, arg)"; "a no-op's arg is 0"
abbrev pub kind_of : Label → ℕ
kind_of noop = 0
kind_of (holds a) = 1
kind_of (fails a) = 2
kind_of (make a) = 3

abbrev pub arg_of : Label → ℕ
arg_of noop = 0
arg_of (holds a) = a
arg_of (fails a) = a
arg_of (make a) = a

-- "The compiled list needs four numbers a step"
unfoldable pub flat : List Step → List ℕ
flat [] = []
flat (arc l from to ∷ L) = kind_of l ∷ from ∷ to ∷ arg_of l ∷ flat L

-- the same read back: the first n steps that a list holds
abbrev pub label_in : ℕ → ℕ → Label
label_in kind arg = cond (eqb kind 0) noop (cond (eqb kind 1) (holds arg) (cond (eqb kind 2) (fails arg) (make arg)))

unfoldable pub steps_in : ℕ → List ℕ → List Step
steps_in zero l = []
steps_in (suc n) l = arc (label_in (get_or l 0 0) (get_or l 3 0)) (get_or l 1 0) (get_or l 2 0) ∷ steps_in n (drop 4 l)
