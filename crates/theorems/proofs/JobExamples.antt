-- Small texts, read by the definition: a job, and examples of the table of refusals.
-- Assumes nothing.
use mathlib.Core.Path.{◌≡◌, refl}
use mathlib.Core.List.{[], ◌∷◌}
use Rattle.text.specs.Bytes.{bytes}
use Rattle.text.specs.Lines.{lines, has_key, value_of}
use Rattle.text.specs.Numbers.{byte_read, numbers}
use Rattle.job.specs.Line.{line_numbers}
use Rattle.job.specs.Fault.{fault}
use Rattle.theorems.specs.MarkedCases.{sample_by, sample_with}
use Rattle.job.specs.ReadJob.{read, refused, taken, ended, read_from, read_job}

-- one fact, one move that sets it, and the program of that move
reads_job : read_job
    (bytes "job=1\nfacts=1\ninit=0\nformulas=1\nf=2,0,0\nmoves=1\nm=0,3,1,0,2\ne=0,0,1\ngoal=0\nobjects=0\nprogram=1\np=1,0,0,0\n") ≡ read 12 (record {
      scalars = record { facts = 1; init = 0; goal = 0; objects = 0 };
      formulas = record { kind = 2; a = 0; b = 0 } ∷ [];
      moves = record { pre = 0; class = 3; effects = 1; when = 0; second = 2; first = 0 } ∷ [];
      effects = record { cond = 0; fact = 0; value = 1 } ∷ [];
      program = record { kind = 1; a = 0; b = 0; c = 0 } ∷ [];
    })
unfolding bytes lines has_key value_of byte_read numbers line_numbers fault taken ended read_from read_job
reads_job = refl

-- "`job=2`: line 1"
refuses_form : read_job (bytes "job=2\nfacts=2\n") ≡ refused 1 1
unfolding bytes lines has_key value_of byte_read numbers line_numbers fault taken ended read_from read_job
refuses_form = refl

-- "`facts=13`: line 2"
refuses_count : read_job (bytes "job=1\nfacts=13\n") ≡ refused 2 2
unfolding bytes lines has_key value_of byte_read numbers line_numbers fault taken ended read_from read_job
refuses_count = refl

-- "sample with `goal=4`: line 14"
refuses_goal : read_job (sample_with "init=0\n" "goal=4\n" "objects=0\n" "program=3\np=1,0,0,0\np=1,1,0,0\np=4,0,1,0\n") ≡ refused 3 14
unfolding bytes lines has_key value_of byte_read numbers line_numbers fault taken ended read_from read_job
refuses_goal = refl

-- "A missing line's place is one past the last."
refuses_missing : read_job (bytes "job=1\n") ≡ refused 1 2
unfolding bytes lines has_key value_of byte_read numbers line_numbers fault taken ended read_from read_job
refuses_missing = refl

-- "`objects=O`, 0 to 16"
refuses_objects : read_job (sample_with "init=0\n" "goal=1\n" "objects=17\n" "") ≡ refused 2 15
unfolding bytes lines has_key value_of byte_read numbers line_numbers fault taken ended read_from read_job
refuses_objects = refl

-- "The sum of a and O may not exceed the count of moves or formulas, else 3": two moves, four formulas
refuses_base : read_job (sample_with "init=0\n" "goal=1\n" "objects=1\n" "program=1\np=10,2,0,0\n") ≡ refused 3 17
unfolding bytes lines has_key value_of byte_read numbers line_numbers fault taken ended read_from read_job
refuses_base = refl

refuses_formula_base : read_job (sample_with "init=0\n" "goal=1\n" "objects=16\n" "program=1\np=11,0,0,0\n") ≡ refused 3 17
unfolding bytes lines has_key value_of byte_read numbers line_numbers fault taken ended read_from read_job
refuses_formula_base = refl

-- "A move line gains two numbers at its end, a formula and a class", which "are checked as the others are":
-- four formulas, sixteen classes
refuses_second_formula : read_job (sample_by "m=0,3,1,4,2\n" "" "init=0\n" "" "" "") ≡ refused 3 10
unfolding bytes lines has_key value_of byte_read numbers line_numbers fault taken ended read_from read_job
refuses_second_formula = refl

refuses_second_class : read_job (sample_by "m=0,3,1,3,16\n" "" "init=0\n" "" "" "") ≡ refused 3 10
unfolding bytes lines has_key value_of byte_read numbers line_numbers fault taken ended read_from read_job
refuses_second_class = refl

-- an effect count is still looked at before them, and the form of the line before that
refuses_effects_first : read_job (sample_by "m=0,3,17,4,16\n" "" "init=0\n" "" "" "") ≡ refused 2 10
unfolding bytes lines has_key value_of byte_read numbers line_numbers fault taken ended read_from read_job
refuses_effects_first = refl

refuses_three_numbers : read_job (sample_by "m=0,3,1\n" "" "init=0\n" "" "" "") ≡ refused 1 10
unfolding bytes lines has_key value_of byte_read numbers line_numbers fault taken ended read_from read_job
refuses_three_numbers = refl
