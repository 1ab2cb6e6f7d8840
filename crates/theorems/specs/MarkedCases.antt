-- The marked cases, as a table of texts and judgements.
use Rattle.std.specs.Prelude.{ℕ, ◌*◌, ◌≡◌, List, [], ◌∷◌, ◌++◌}
use Prim.Native.String.{String}
use Rattle.limits.specs.Limits.{most_steps, program_table}
use Rattle.text.specs.Bytes.{bytes}
use Rattle.semantics.specs.Verdict.{blocked, unfinished, missed}
use Rattle.semantics.specs.Judgement.{Judgement, least, dearer, other, Finds}
use Rattle.domain.specs.Domain.{domain_of}
use Rattle.compile.specs.Program.{program_of}
use Rattle.compile.specs.CompiledJob.{position_count, step_count}
use Rattle.load.specs.Refusals.{Handed, passed, Offer, loading}
use Rattle.jesmovit.specs.Texts.{Texts, without_costs, with_costs_text}
use Rattle.jesmovit.specs.Judging.{judging}

-- the bytes of the texts, the positions and steps of the compiled job, and what the judge finds
pub record Case : Type 0 where
  pub texts : Texts
  pub positions : ℕ
  pub steps : ℕ
  pub says : Judgement

-- a job text and a plan text, by the house's costs
abbrev marks : List ℕ → ℕ → ℕ → String → Judgement → Case
marks job positions steps plan says = record {
  texts = without_costs job (bytes plan);
  positions = positions;
  steps = steps;
  says = says;
}

-- the same with a costs text
abbrev priced : Case → List ℕ → Case
priced c costs = record {
  texts = with_costs_text c.texts.job c.texts.plan costs;
  positions = c.positions;
  steps = c.steps;
  says = c.says;
}

-- "The sample", with these lines of moves, this init, goal, number of objects and program
abbrev pub sample_by : String → String → String → String → String → String → List ℕ
sample_by first second init goal objects program =
    bytes "job=1\nfacts=2\n" ++ bytes init
    ++ bytes "formulas=4\nf=1,0,0\nf=2,0,0\nf=2,1,0\nf=3,1,0\nmoves=2\n" ++ bytes first ++ bytes "e=0,1,1\n" ++ bytes second ++ bytes "e=0,0,1\n"
    ++ bytes goal ++ bytes objects ++ bytes program

-- the lines of its own moves: "Marked cases carry formula 0 and class 0"
abbrev move_zero : String
move_zero = "m=0,3,1,0,0\n"

abbrev move_one : String
move_one = "m=2,1,1,0,0\n"

-- the same with its own moves
abbrev pub sample_with : String → String → String → String → List ℕ
sample_with = sample_by move_zero move_one

-- of objects "marked cases carry 0"
abbrev pub sample : List ℕ
sample = sample_with "init=0\n" "goal=1\n" "objects=0\n" "program=3\np=1,0,0,0\np=1,1,0,0\np=4,0,1,0\n"

-- "With recipe star of (0 or 1), 8 positions and 9 steps", with these lines of moves and this goal
abbrev pub star_by : String → String → String → List ℕ
star_by first second goal = sample_by first second "init=0\n" goal "objects=0\n" "program=4\np=1,0,0,0\np=1,1,0,0\np=6,0,1,0\np=8,2,0,0\n"

abbrev pub star_of_choice : List ℕ
star_of_choice = star_by move_zero move_one "goal=1\n"

-- "With star of (while formula 3 do 0), 6 positions"
abbrev pub star_of_while : List ℕ
star_of_while = sample_with "init=0\n" "goal=1\n" "objects=0\n" "program=3\np=1,0,0,0\np=7,3,0,0\np=8,1,0,0\n"

-- "With init 0, goal fact 0 and one move of precondition true that clears and sets fact 0, recipe
-- that move"; the clearing comes last in the text
abbrev clears_and_sets : List ℕ
clears_and_sets = bytes "job=1\nfacts=1\ninit=0\nformulas=2\nf=1,0,0\nf=2,0,0\nmoves=1\nm=0,1,2,0,0\ne=0,0,1\ne=0,0,0\ngoal=1\nobjects=0\nprogram=1\np=1,0,0,0\n"

-- "init=1 and recipe nil"
abbrev nil_program : List ℕ
nil_program = sample_with "init=1\n" "goal=1\n" "objects=0\n" "program=1\np=0,0,0,0\n"

-- "Marked, on the sample"
unfoldable pub marked : List Case
marked =
    marks sample 3 2 "plan=2\nm=0\nm=1\n" (least 25)  -- "(1) 0,1 least at 25"
    ∷ marks sample 3 2 "plan=0\n" (other unfinished)  -- "(2) empty list unfinished"
    ∷ marks sample 3 2 "plan=1\nm=1\n" (other (blocked 0))  -- "(3) list 1 blocked 0"
    ∷ marks sample 3 2 "plan=1\nm=0\n" (other unfinished)  -- "(4) list 0 unfinished"
    ∷ marks sample 3 2 "plan=3\nm=0\nm=1\nm=1\n" (other (blocked 2))  -- "(5) 0,1,1 blocked 2"
    ∷ marks star_of_choice 8 9 "plan=3\nm=0\nm=0\nm=1\n" (dearer 45 25)  -- "(6) 0,0,1 dearer, 45 against 25"
    ∷ marks star_of_choice 8 9 "plan=0\n" (other missed)  -- "(7) empty list goal missed"
    ∷ marks star_of_while 6 7 "plan=1\nm=0\n" (other unfinished)  -- "(8) list 0 unfinished"
    ∷ marks clears_and_sets 2 1 "plan=1\nm=0\n" (other (blocked 0))  -- "(9)", which by request (d) "becomes blocked 0"
    ∷ marks nil_program 2 1 "plan=0\n" (least 0)  -- "(10) … empty plan least at 0"
    ∷ []

-- class 1 costs 7, class 3 costs 65,535, the others as the house's
abbrev own_costs : List ℕ
own_costs = bytes "costs=16\nc=0\nc=7\nc=12\nc=65535\nc=30\nc=45\nc=60\nc=90\nc=120\nc=180\nc=240\nc=360\nc=600\nc=900\nc=1800\nc=3600\n"

abbrev free_costs : List ℕ
free_costs = bytes "costs=16\nc=0\nc=0\nc=0\nc=0\nc=0\nc=0\nc=0\nc=0\nc=0\nc=0\nc=0\nc=0\nc=0\nc=0\nc=0\nc=0\n"

-- "The judge's verdict is now about the costs that were loaded": cases (1) and (6) by other costs,
-- where crossing twice costs 65,535 more than once, or nothing
unfoldable pub priced_cases : List Case
priced_cases =
    priced (marks sample 3 2 "plan=2\nm=0\nm=1\n" (least 65542)) own_costs
    ∷ priced (marks star_of_choice 8 9 "plan=3\nm=0\nm=0\nm=1\n" (dearer 131077 65542)) own_costs
    ∷ priced (marks star_of_choice 8 9 "plan=3\nm=0\nm=0\nm=1\n" (least 0)) free_costs
    ∷ []

-- one move, with this effect and one that clears fact 0; formula 1 is as given, and the goal is that
-- fact 0 is false
abbrev clears_and : String → String → String → List ℕ
clears_and effect init formula =
    bytes "job=1\nfacts=1\n" ++ bytes init ++ bytes "formulas=4\nf=1,0,0\n" ++ bytes formula ++ bytes "f=2,0,0\nf=3,2,0\nmoves=1\nm=0,1,2,0,0\n"
    ++ bytes effect ++ bytes "e=0,0,0\ngoal=3\nobjects=0\nprogram=1\np=1,0,0,0\n"

-- "a move can't be made in a world where its effects that hold both clear and set one fact": the one
-- that sets it holds where the fact is true before, or nowhere; and to clear a fact twice is no conflict
unfoldable pub conflict_cases : List Case
conflict_cases =
    marks (clears_and "e=1,0,1\n" "init=0\n" "f=2,0,0\n") 2 1 "plan=1\nm=0\n" (least 5)
    ∷ marks (clears_and "e=1,0,1\n" "init=1\n" "f=2,0,0\n") 2 1 "plan=1\nm=0\n" (other (blocked 0))
    ∷ marks (clears_and "e=1,0,1\n" "init=1\n" "f=0,0,0\n") 2 1 "plan=1\nm=0\n" (least 5)
    ∷ marks (clears_and "e=1,0,0\n" "init=1\n" "f=2,0,0\n") 2 1 "plan=1\nm=0\n" (least 5)
    ∷ []

-- the sample over two objects, with this init, goal and program
abbrev over_two : String → String → String → List ℕ
over_two init goal program = sample_with init goal "objects=2\n" program

-- pick of move 0 plus its object
abbrev pub pick_move : String → List ℕ
pick_move goal = over_two "init=2\n" goal "program=2\np=10,0,0,0\np=9,0,0,0\n"

-- two such picks in sequence, by one row
abbrev two_picks : List ℕ
two_picks = over_two "init=0\n" "goal=1\n" "program=3\np=10,0,0,0\np=9,0,0,0\np=4,1,1,0\n"

-- pick of that move twice, for one object
abbrev same_twice : List ℕ
same_twice = over_two "init=0\n" "goal=1\n" "program=3\np=10,0,0,0\np=4,0,0,0\np=9,1,0,0\n"

-- pick of a test of formula 1 plus its object, then of move 0 plus it
abbrev test_then_move : List ℕ
test_then_move = over_two "init=2\n" "goal=1\n" "program=4\np=11,1,0,0\np=10,0,0,0\np=4,0,1,0\np=9,2,0,0\n"

-- pick of a star of a pick of one move: of the inner pick's object, or of the outer one's
abbrev rounds : String → List ℕ
rounds leaf = over_two "init=0\n" "goal=1\n" "program=4\n" ++ bytes leaf ++ bytes "p=9,0,0,0\np=8,1,0,0\np=9,2,0,0\n"

-- pick over no object
abbrev over_none : List ℕ
over_none = sample_with "init=0\n" "goal=1\n" "objects=0\n" "program=2\np=10,0,0,0\np=9,0,0,0\n"

-- "an execution is one of the body for some object", "0 being the nearest", and "a shop may take the
-- least over every choice of peg"
unfoldable pub pick_cases : List Case
pick_cases =
    marks (pick_move "goal=0\n") 6 6 "plan=1\nm=1\n" (least 5)
    ∷ marks (pick_move "goal=0\n") 6 6 "plan=1\nm=0\n" (dearer 20 5)
    ∷ marks two_picks 11 12 "plan=2\nm=0\nm=1\n" (least 25)
    ∷ marks same_twice 8 8 "plan=2\nm=0\nm=1\n" (other (blocked 1))
    ∷ marks same_twice 8 8 "plan=2\nm=0\nm=0\n" (other missed)
    ∷ marks test_then_move 8 8 "plan=1\nm=1\n" (least 5)
    ∷ marks test_then_move 8 8 "plan=1\nm=0\n" (other (blocked 0))
    ∷ marks (rounds "p=10,0,0,0\n") 18 22 "plan=2\nm=0\nm=1\n" (least 25)
    ∷ marks (rounds "p=10,0,1,0\n") 18 22 "plan=2\nm=0\nm=1\n" (other (blocked 1))
    ∷ marks over_none 2 0 "plan=0\n" (other unfinished)
    ∷ []

-- "The move's cost in a world is its first class, plus the second where the formula holds in the world
-- before the move": rounds of either move, with these lines
abbrev pub dear_move_zero : List ℕ
dear_move_zero = star_by "m=0,3,1,3,2\n" move_one "goal=1\n"

-- move 1 makes fact 0 true: formula 3 holds before it and not after it, formula 1 after it alone
abbrev pub dear_move_one : String → List ℕ
dear_move_one line = star_by move_zero line "goal=1\n"

-- move 0 costs more unless move 1 was made before it, and the goal is what move 0 does
abbrev longer_cheaper : List ℕ
longer_cheaper = star_by "m=0,3,1,3,5\n" "m=0,1,1,0,0\n" "goal=2\n"

-- the formula holds at every move 0, before the move alone, after it alone; two moves cost less than one;
-- both classes cost what they were loaded with
unfoldable pub conditional_cases : List Case
conditional_cases =
    marks dear_move_zero 8 9 "plan=2\nm=0\nm=1\n" (least 37)
    ∷ marks dear_move_zero 8 9 "plan=3\nm=0\nm=0\nm=1\n" (dearer 69 37)
    ∷ marks (dear_move_one "m=2,1,1,3,2\n") 8 9 "plan=2\nm=0\nm=1\n" (least 37)
    ∷ marks (dear_move_one "m=2,1,1,1,2\n") 8 9 "plan=2\nm=0\nm=1\n" (least 25)
    ∷ marks (dear_move_one "m=2,1,1,1,2\n") 8 9 "plan=3\nm=0\nm=1\nm=1\n" (dearer 42 25)
    ∷ marks longer_cheaper 8 9 "plan=1\nm=0\n" (dearer 65 25)
    ∷ marks longer_cheaper 8 9 "plan=2\nm=1\nm=0\n" (least 25)
    ∷ priced (marks (star_by "m=0,3,1,3,3\n" move_one "goal=1\n") 8 9 "plan=2\nm=0\nm=1\n" (least 131077)) own_costs
    ∷ []

-- "the judge program's table holds 6,144", "its compiled list 4,096"
abbrev pub handed_by_program : Texts → Handed
handed_by_program texts = judging texts (most_steps * 4) program_table

-- nothing is refused, the compiled job has these sizes, and this is what the judge finds: by the
-- program's own runs, and by all allowed plans of whatever length
pub record Right (c : Case) : Type 0 where
  pub offer : Offer
  pub passes : loading (handed_by_program c.texts) ≡ passed offer
  pub positions : position_count offer.task.job ≡ c.positions
  pub steps : step_count offer.task.job ≡ c.steps
  pub finds : Finds (domain_of offer.task) (program_of offer.task.job) offer.entries c.says
