-- 003's star is wrong: with the steps of its own row, on the job of marked case 8, some path that
-- makes move 0 reaches the final position, while no run of the program that makes move 0 leaves
-- nil.
-- Assumes nothing.
use Prim.Native.Nat.{ℕ, ◌<◌}
use mathlib.Core.Path.{◌≡◌, refl}
use mathlib.Core.Bool.{false}
use mathlib.Core.List.{List, [], ◌∷◌}
use native.Mathlib.Omega.{arith}
use Rattle.text.specs.Bytes.{bytes}
use Rattle.text.specs.Lines.{lines, has_key, value_of}
use Rattle.text.specs.Numbers.{byte_read, numbers}
use Rattle.job.specs.Job.{Job}
use Rattle.job.specs.Task.{at_house_costs, class_cost}
use Rattle.job.specs.Line.{line_numbers}
use Rattle.job.specs.Fault.{fault}
use Rattle.job.specs.ReadJob.{read, taken, ended, read_from, read_job}
use Rattle.semantics.specs.Program.{Program, nil, move, while, star}
use Rattle.semantics.specs.Domain.{Domain}
use Rattle.semantics.specs.Transition.{Run}
use Rattle.semantics.specs.CompilingTable.{end, steps, while_steps, star_steps, final_position}
use Rattle.semantics.specs.Path as P
use Rattle.semantics.specs.Path.{Path, here, there, idles, passes, moves_on}
use Rattle.semantics.specs.Verdict.{Entries, Judged, unfinished, by_runs, is_unfinished}
use Rattle.semantics.specs.Machine.{onward, finished, verdict_from}
use Rattle.semantics.specs.PositionSets.{spread, close, silent_in, is_move, any_mark, first_set, next_set, move_on, verdict_by}
use Rattle.semantics.proofs.CheckLaws.{verdict_by_judged}
use Rattle.domain.specs.State.{fact, state_with, value, values}
use Rattle.domain.specs.Effects.{gives, gets, conflicts, fact_after, affected}
use Rattle.domain.specs.Domain.{holds_in, successor_of, cost_in, domain_of}
use Rattle.compile.specs.Program.{build, programs, program_of}
use Rattle.theorems.specs.MarkedCases.{star_of_while}
use Rattle.theorems.specs.OriginalStar.{original_end, original_steps, StarFails}

abbrev case_eight : Job
case_eight = record {
  scalars = record { facts = 2; init = 0; goal = 1; objects = 0 };
  formulas = record { kind = 1; a = 0; b = 0 } ∷ record { kind = 2; a = 0; b = 0 } ∷ record { kind = 2; a = 1; b = 0 } ∷ record { kind = 3; a = 1; b = 0 } ∷ [];
  moves = record { pre = 0; class = 3; effects = 1; when = 0; second = 0; first = 0 }
      ∷ record { pre = 2; class = 1; effects = 1; when = 0; second = 0; first = 1 } ∷ [];
  effects = record { cond = 0; fact = 1; value = 1 } ∷ record { cond = 0; fact = 0; value = 1 } ∷ [];
  program = record { kind = 1; a = 0; b = 0; c = 0 } ∷ record { kind = 7; a = 3; b = 0; c = 0 } ∷ record { kind = 8; a = 1; b = 0; c = 0 } ∷ [];
}

case_read : read_job star_of_while ≡ read 19 case_eight
unfolding bytes lines has_key value_of byte_read numbers line_numbers fault taken ended read_from read_job
case_read = refl

abbrev D : Domain
D = domain_of (at_house_costs case_eight)

-- the star's body
abbrev body : Program
body = while 3 (move 0)

star_of_body : program_of case_eight ≡ star body
unfolding build programs
star_of_body = refl

-- into the while, move 0, back to the while's position, which is the star's too, and out through
-- the star
way_out : Path D (original_steps D body 0) D.start 0 (1 ∷ 0 ∷ 3 ∷ 4 ∷ []) (0 ∷ []) 2 (original_end D body 0)
unfolding end steps while_steps fact state_with value values gives gets conflicts fact_after affected holds_in successor_of
way_out =
    P.step (there here) (passes refl)
    (P.step here (moves_on refl) (P.step (there (there (there here))) idles (P.step (there (there (there (there here)))) idles P.stop)))

-- fact 0 is false there
goal_false : D.goal 2 ≡ false
unfolding fact value values holds_in
goal_false = refl

final_below : final_position D (star body) < 6
unfolding end
final_below = omega arith

-- the program's own runs, by the verdict on move 0
computed : verdict_by 6 D (star body) (0 ∷ []) ≡ unfinished
unfolding end steps while_steps star_steps fact state_with value values gives gets conflicts fact_after affected class_cost holds_in successor_of cost_in
    spread close silent_in is_move any_mark first_set next_set onward finished verdict_from move_on verdict_by
computed = refl

not_completed : (E : Entries) (es : List ℕ) → Judged D E es unfinished → (t : ℕ) → E.Completed es t → ⊥
not_completed E es (is_unfinished x f) = f

no_run : (t : ℕ) → Run D D.start (program_of case_eight) (0 ∷ []) t nil → ⊥
unfolding by_runs
no_run = rw star_of_body (not_completed (by_runs D (star body)) (0 ∷ []) (rw computed at (verdict_by_judged D (star body) 6 final_below (0 ∷ []))))

-- marked case 8: "case 8 would say goal missed"
pub original_star_fails : StarFails star_of_while (0 ∷ [])
original_star_fails = record {
  lines = 19;
  job = case_eight;
  is_read = case_read;
  body = body;
  is_star = star_of_body;
  numbers = 1 ∷ 0 ∷ 3 ∷ 4 ∷ [];
  last = 2;
  path = way_out;
  goal_false = goal_false;
  no_run = no_run;
}
