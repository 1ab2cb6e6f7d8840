-- Small texts, compiled by the definition: the sample, and examples of refusals 8, 4, 7, 5 and 6.
-- Assumes nothing.
use mathlib.Core.Path.{◌≡◌, refl}
use mathlib.Core.List.{List, [], ◌∷◌, ◌++◌}
use Prim.Native.Nat.{ℕ, ◌*◌}
use lib.ListN.{replicate}
use Rattle.limits.specs.Limits.{most_steps}
use Rattle.text.specs.Bytes.{bytes}
use Rattle.text.specs.Lines.{lines, has_key, value_of}
use Rattle.text.specs.Numbers.{byte_read, numbers}
use Rattle.job.specs.Line.{line_numbers}
use Rattle.job.specs.Fault.{fault}
use Rattle.job.specs.ReadJob.{taken, ended, read_from, read_job}
use Rattle.semantics.specs.CompilingTable.{copy_start, end, copies, steps, pick_steps, object_steps, flat}
use Rattle.semantics.specs.Scope.{scoped}
use Rattle.compile.specs.Program.{build, programs}
use Rattle.compile.specs.CompiledJob.{position_count, fits}
use Rattle.lists.specs.CountedList.{entry_in, count_in, read_entries, read_lines, read_list}
use Rattle.load.specs.Refusals.{passed, refused, next, job_in, task_in, texts_in, loading}
use Rattle.load.specs.View.{view_in}
use Rattle.load.specs.declared.request.Sort.TheVariants.{Moves}
use Rattle.jesmovit.specs.Texts.{without_costs, with_costs_text}
use Rattle.jesmovit.specs.Checking.{checking}
use Rattle.jesmovit.specs.Judging.{costing, judging}
use Rattle.theorems.specs.MarkedCases.{sample, sample_with, pick_move}
use Rattle.jesmovit.specs.Compiling.{compiling, list_after, view_sizes}

-- "`positions=3` `steps=2` `s=3,0,1,0` `s=3,1,2,1`"
compiles_sample : next (view_in (compiling sample 9)) (λ v. passed (view_sizes v)) ≡ passed (record { positions = 3; steps = 2 })
unfolding bytes lines has_key value_of byte_read numbers line_numbers fault taken ended read_from read_job end steps scoped build programs fits
    job_in task_in texts_in loading
compiles_sample = refl

-- with a later entry, which does not change
fills_list : next (view_in (compiling sample 9)) (λ v. passed (list_after v (7 ∷ 7 ∷ 7 ∷ 7 ∷ 7 ∷ 7 ∷ 7 ∷ 7 ∷ 7 ∷ [])))
    ≡ passed (3 ∷ 0 ∷ 1 ∷ 0 ∷ 3 ∷ 1 ∷ 2 ∷ 1 ∷ 7 ∷ [])
unfolding bytes lines has_key value_of byte_read numbers line_numbers fault taken ended read_from read_job end steps flat scoped build programs fits
    job_in task_in texts_in loading
fills_list = refl

-- the copies of two objects, the no-ops to them, and those from them
fills_picks : next (view_in (compiling (pick_move "goal=1\n") 24)) (λ v. passed (list_after v (replicate 24 7)))
    ≡ passed (3 ∷ 1 ∷ 2 ∷ 0 ∷ 3 ∷ 3 ∷ 4 ∷ 1 ∷ 0 ∷ 0 ∷ 1 ∷ 0 ∷ 0 ∷ 0 ∷ 3 ∷ 0 ∷ 0 ∷ 2 ∷ 5 ∷ 0 ∷ 0 ∷ 4 ∷ 5 ∷ 0 ∷ [])
unfolding bytes lines has_key value_of byte_read numbers line_numbers fault taken ended read_from read_job
    copy_start end copies steps pick_steps object_steps flat scoped build programs fits job_in task_in texts_in loading
fills_picks = refl

-- "A variable with too few enclosing picks, … into picks over no object too": one pick too far, over
-- no object; and in a job that has too many positions, "before 4"
refuses_variable : job_in (sample_with "init=0\n" "goal=1\n" "objects=0\n" "program=2\np=10,0,1,0\np=9,0,0,0\n") ≡ refused 8 18
unfolding bytes lines has_key value_of byte_read numbers line_numbers fault taken ended read_from read_job copy_start end copies steps pick_steps object_steps
    scoped build programs fits job_in
refuses_variable = refl

refuses_variable_first : job_in (sample_with "init=0\n" "goal=1\n" "objects=2\n"
    "program=9\np=10,0,0,0\np=4,0,0,0\np=4,1,1,0\np=4,2,2,0\np=4,3,3,0\np=4,4,4,0\np=4,5,5,0\np=4,6,6,0\np=4,7,7,0\n") ≡ refused 8 25
unfolding bytes lines has_key value_of byte_read numbers line_numbers fault taken ended read_from read_job scoped build programs job_in
refuses_variable_first = refl

-- "met while reading down from the recipe": row 0 is not
accepts_unused : next (job_in (sample_with "init=0\n" "goal=1\n" "objects=2\n" "program=2\np=10,0,0,0\np=0,0,0,0\n")) (λ j. passed (position_count j))
    ≡ passed 2
unfolding bytes lines has_key value_of byte_read numbers line_numbers fault taken ended read_from read_job end steps scoped build programs fits job_in
accepts_unused = refl

-- a list that is one place too short
refuses_list : loading (compiling sample 7) ≡ refused 6 8
unfolding bytes lines has_key value_of byte_read numbers line_numbers fault taken ended read_from read_job end steps scoped build programs fits
    job_in task_in texts_in loading
refuses_list = refl

-- "`p=1,0,0,0`, then `p=4,k,k,0` for k from 0 to 7: 257 positions"
abbrev doubled : List ℕ
doubled =
    bytes "job=1\nfacts=0\ninit=0\nformulas=1\nf=1,0,0\nmoves=1\nm=0,0,0,0,0\ngoal=0\nobjects=0\nprogram=9\np=1,0,0,0\n"
    ++ bytes "p=4,0,0,0\np=4,1,1,0\np=4,2,2,0\np=4,3,3,0\np=4,4,4,0\np=4,5,5,0\np=4,6,6,0\np=4,7,7,0\n"

refuses_positions : job_in doubled ≡ refused 4 19
unfolding bytes lines has_key value_of byte_read numbers line_numbers fault taken ended read_from read_job end steps scoped build programs fits job_in
refuses_positions = refl

-- "`plan=1`, `m=2` on the sample: line 2"
refuses_entry : loading (checking Moves (without_costs sample (bytes "plan=1\nm=2\n")) (most_steps * 4)) ≡ refused 5 2
unfolding bytes lines has_key value_of byte_read numbers line_numbers fault taken ended read_from read_job end steps scoped build programs fits
    entry_in count_in read_entries read_lines read_list job_in task_in texts_in loading
refuses_entry = refl

-- "An entry of the other sort is of wrong form."
refuses_step : loading (checking Moves (without_costs sample (bytes "plan=1\nt=0\n")) (most_steps * 4)) ≡ refused 5 2
unfolding bytes lines has_key value_of byte_read numbers line_numbers fault taken ended read_from read_job end steps scoped build programs fits
    entry_in count_in read_entries read_lines read_list job_in task_in texts_in loading
refuses_step = refl

-- "so 6 doesn't look at the plan": a plan that would be blocked, with a list that is one place too
-- short
refuses_before_verdict : loading (checking Moves (without_costs sample (bytes "plan=1\nm=1\n")) 7) ≡ refused 6 8
unfolding bytes lines has_key value_of byte_read numbers line_numbers fault taken ended read_from read_job end steps scoped build programs fits
    entry_in count_in read_entries read_lines read_list job_in task_in texts_in loading
refuses_before_verdict = refl

-- "11 numbers for the sample's cost table: 12"
refuses_table : loading (costing (without_costs sample []) 8 11) ≡ refused 6 12
unfolding bytes lines has_key value_of byte_read numbers line_numbers fault taken ended read_from read_job end steps scoped build programs fits
    job_in task_in texts_in loading
refuses_table = refl

-- "Where it and a cost table are both too short, it decides."
refuses_list_first : loading (judging (without_costs sample (bytes "plan=0\n")) 7 11) ≡ refused 6 8
unfolding bytes lines has_key value_of byte_read numbers line_numbers fault taken ended read_from read_job end steps scoped build programs fits
    entry_in count_in read_entries read_lines read_list job_in task_in texts_in loading
refuses_list_first = refl

-- "an empty one is bad"
refuses_empty_costs : loading (costing (with_costs_text sample [] []) 8 12) ≡ refused 7 1
unfolding bytes lines has_key value_of byte_read numbers line_numbers fault taken ended read_from read_job end steps scoped build programs fits
    entry_in count_in read_entries read_lines read_list job_in task_in texts_in loading
refuses_empty_costs = refl

-- a missing line
refuses_missing_cost : loading (costing (with_costs_text sample [] (bytes "costs=16\n")) 8 12) ≡ refused 7 2
unfolding bytes lines has_key value_of byte_read numbers line_numbers fault taken ended read_from read_job end steps scoped build programs fits
    entry_in count_in read_entries read_lines read_list job_in task_in texts_in loading
refuses_missing_cost = refl

-- "Class 0 must cost 0."
refuses_class_zero : loading (costing (with_costs_text sample [] (bytes "costs=16\nc=1\n")) 8 12) ≡ refused 7 2
unfolding bytes lines has_key value_of byte_read numbers line_numbers fault taken ended read_from read_job end steps scoped build programs fits
    entry_in count_in read_entries read_lines read_list job_in task_in texts_in loading
refuses_class_zero = refl

-- "after the job's refusals 1 to 4 and before 5": with a bad plan text, and with a bad job text
refuses_costs_first : loading (checking Moves (with_costs_text sample (bytes "plan=1\nm=2\n") (bytes "costs=15\n")) 7) ≡ refused 7 1
unfolding bytes lines has_key value_of byte_read numbers line_numbers fault taken ended read_from read_job end steps scoped build programs fits
    entry_in count_in read_entries read_lines read_list job_in task_in texts_in loading
refuses_costs_first = refl

refuses_job_first : loading (checking Moves (with_costs_text doubled (bytes "plan=0\n") []) 7) ≡ refused 4 19
unfolding bytes lines has_key value_of byte_read numbers line_numbers fault taken ended read_from read_job end steps scoped build programs fits
    entry_in count_in read_entries read_lines read_list job_in task_in texts_in loading
refuses_job_first = refl
