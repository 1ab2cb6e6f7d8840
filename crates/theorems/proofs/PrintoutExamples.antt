-- Printouts computed from the definitions: the sample's, and one of each other kind.
-- Assumes nothing.
use Prim.Native.Nat.{ℕ}
use mathlib.Core.Path.{◌≡◌, refl}
use mathlib.Core.List.{List, [], ◌∷◌}
use Rattle.text.specs.Bytes.{bytes}
use Rattle.text.specs.Written.{digits_within, written}
use Rattle.job.specs.declared.head.Counts.{Counts}
use Rattle.job.specs.declared.refusal.Reason.TheVariants.{Room}
use Rattle.validate.specs.declared.verdict.Verdict.TheVariants.{Plan, Blocked, Unfinished, Missed}
use Rattle.jesmovit.specs.declared.judging.Judgement.TheVariants.{Least, Dearer, Other}
use Rattle.std.specs.Prelude.{Ok, Err, Some, None}
use Rattle.compile.specs.declared.sizes.Sizes.{Sizes}
use Rattle.jesmovit.specs.Outcomes.{JudgeResult}
use Rattle.jesmovit.specs.declared.judging.Judgement.{Judgement}
use Rattle.report.specs.Printout.{step_lines, judge_printout, least_printout, compile_printout, check_printout, read_printout}

abbrev sizes : ℕ → ℕ → Sizes
sizes positions steps = record { positions = positions; steps = steps }

abbrev judged : ℕ → ℕ → Judgement → JudgeResult
judged positions steps g = Ok (record { sizes = sizes positions steps; judgement = g })

-- the sample's list, with places to spare
sample_list : List ℕ
sample_list = 3 ∷ 0 ∷ 1 ∷ 0 ∷ 3 ∷ 1 ∷ 2 ∷ 1 ∷ 7 ∷ 7 ∷ 7 ∷ 7 ∷ 7 ∷ []

-- "`positions=3` `steps=2` `s=3,0,1,0` `s=3,1,2,1` `cost=25` `least=25` `answer=least`"
judged_sample : judge_printout (judged 3 2 (Least 25)) sample_list ≡ bytes "positions=3\nsteps=2\ns=3,0,1,0\ns=3,1,2,1\ncost=25\nleast=25\nanswer=least\n"
unfolding bytes digits_within written step_lines sample_list
judged_sample = refl

-- "A dearer plan differs in the numbers and `answer=dearer`"
judged_dearer : judge_printout (judged 2 1 (Dearer 45 25)) (0 ∷ 9 ∷ 10 ∷ 0 ∷ []) ≡ bytes "positions=2\nsteps=1\ns=0,9,10,0\ncost=45\nleast=25\nanswer=dearer\n"
unfolding bytes digits_within written step_lines
judged_dearer = refl

-- "other verdicts replace the last three lines by `answer=blocked,i`, `answer=unfinished` or
-- `answer=missed`"
judged_blocked : judge_printout (judged 3 2 (Other (Blocked 12))) sample_list ≡ bytes "positions=3\nsteps=2\ns=3,0,1,0\ns=3,1,2,1\nanswer=blocked,12\n"
unfolding bytes digits_within written step_lines sample_list
judged_blocked = refl

judged_unfinished : judge_printout (judged 3 2 (Other Unfinished)) sample_list ≡ bytes "positions=3\nsteps=2\ns=3,0,1,0\ns=3,1,2,1\nanswer=unfinished\n"
unfolding bytes digits_within written step_lines sample_list
judged_unfinished = refl

judged_missed : judge_printout (judged 3 2 (Other Missed)) sample_list ≡ bytes "positions=3\nsteps=2\ns=3,0,1,0\ns=3,1,2,1\nanswer=missed\n"
unfolding bytes digits_within written step_lines sample_list
judged_missed = refl

-- "A refusal prints only `refused=number,place`."
judged_refused : judge_printout (Err (record { reason = Room; place = 12 })) sample_list ≡ bytes "refused=6,12\n"
unfolding bytes digits_within written
judged_refused = refl

least_found : least_printout (Ok (Some 25)) ≡ bytes "least=25\n"
unfolding bytes digits_within written
least_found = refl

least_none : least_printout (Ok None) ≡ bytes "answer=none\n"
least_none = refl

compiled_sample : compile_printout (Ok (sizes 3 2)) sample_list ≡ bytes "positions=3\nsteps=2\ns=3,0,1,0\ns=3,1,2,1\n"
unfolding bytes digits_within written step_lines sample_list
compiled_sample = refl

checked_plan : check_printout (Ok (Plan 0)) ≡ bytes "cost=0\nanswer=plan\n"
unfolding bytes digits_within written
checked_plan = refl

sample_counts : Counts
sample_counts = record { facts = 2; formulas = 4; moves = 2; effects = 2; objects = 0; program = 3 }

read_sample : read_printout (Ok sample_counts) ≡ bytes "facts=2\nformulas=4\nmoves=2\neffects=2\nobjects=0\nprogram=3\n"
unfolding bytes digits_within written sample_counts
read_sample = refl
