-- The ten marked cases, and those of requests, from the bytes of their texts, by position sets and
-- computed cost tables.
-- Assumes nothing.
use Prim.Native.Nat.{ℕ}
use mathlib.Core.Path.{◌≡◌, refl, ap}
use Rattle.std.specs.Prelude.{Option, Some}
use mathlib.Core.List.{List, [], ◌∷◌, ◌++◌, map, Memᴰ}
use native.Mathlib.Omega.{arith}
use Rattle.laws.proofs.Tests.{never}
use Rattle.text.specs.Bytes.{bytes}
use Rattle.text.specs.Lines.{lines, has_key, value_of}
use Rattle.text.specs.Numbers.{byte_read, numbers}
use Rattle.job.specs.Line.{line_numbers}
use Rattle.job.specs.Fault.{fault}
use Rattle.job.specs.ReadJob.{taken, ended, read_from, read_job}
use Rattle.semantics.specs.CompilingTable.{copy_start, end, copies, steps, branch_steps, while_steps, star_steps, pick_steps, object_steps}
use Rattle.semantics.specs.Scope.{scoped}
use Rattle.semantics.specs.Judgement.{Judgement}
use Rattle.semantics.specs.Machine.{onward, finished, verdict_from}
use Rattle.semantics.specs.PositionSets.{spread, close, silent_in, is_move, any_mark, first_set, next_set, move_on, verdict_by}
use Rattle.semantics.specs.StepVerdict.{arrives}
use Rattle.semantics.proofs.CheckLaws.{verdict_by_judged}
use Rattle.domain.specs.State.{fact, state_with, value, values}
use Rattle.domain.specs.Effects.{gives, gets, conflicts, fact_after, affected}
use Rattle.job.specs.Task.{class_cost}
use Rattle.domain.specs.Domain.{holds_in, successor_of, cost_in, domain_of}
use Rattle.compile.specs.Program.{build, programs, program_of}
use Rattle.compile.specs.CompiledJob.{position_count, step_count, fits}
use Rattle.lists.specs.CountedList.{entry_in, count_in, read_entries, read_lines, read_list}
use Rattle.load.specs.Refusals.{Checked, passed, refused, Offer, next, job_in, task_in, texts_in, loading}
use Rattle.theorems.specs.MarkedCases.{Case, marked, priced_cases, conflict_cases, pick_cases, conditional_cases, handed_by_program, Right}
use Rattle.theorems.proofs.Acceptance.{accepted_within, accepted_iff}
use Rattle.theorems.proofs.ComputedTable.{follow, follow_all, sweep, sweeps, computed_table, keeps, every, relaxed_below}
use Rattle.theorems.proofs.ComputedJudgement.{lowest_below, computed_judgement, computed_finds}

-- the judgement by position sets and a computed cost table
abbrev judgement : Offer → Option Judgement
judgement o = computed_judgement o.task (verdict_by (position_count o.task.job) (domain_of o.task) (program_of o.task.job) o.entries)

-- the sizes and the judgement
record Computed : Type 0 where
  positions : ℕ
  steps : ℕ
  says : Option Judgement

abbrev computed_of : Offer → Computed
computed_of o = record { positions = position_count o.task.job; steps = step_count o.task.job; says = judgement o }

-- the same from the texts, or the refusal
unfoldable judged : Case → Checked Computed
judged c = next (loading (handed_by_program c.texts)) (λ o. passed (computed_of o))

abbrev said : Case → Checked Computed
said c = passed (record { positions = c.positions; steps = c.steps; says = Some c.says })

-- the cases of requests
abbrev others : List Case
others = priced_cases ++ (conflict_cases ++ (pick_cases ++ conditional_cases))

computed : map judged (marked ++ others) ≡ map said (marked ++ others)
unfolding bytes lines has_key value_of byte_read numbers
    line_numbers fault taken ended read_from read_job
    copy_start end copies steps branch_steps while_steps star_steps pick_steps object_steps scoped build programs fits
    fact state_with value values gives gets conflicts fact_after affected class_cost holds_in successor_of cost_in
    spread close silent_in is_move any_mark first_set next_set onward finished verdict_from move_on verdict_by
    entry_in count_in read_entries read_lines read_list job_in task_in texts_in loading
    arrives follow follow_all sweep sweeps computed_table keeps every relaxed_below lowest_below computed_judgement
    marked priced_cases conflict_cases pick_cases conditional_cases judged
computed = refl

judged_right : (c : Case) → judged c ≡ said c → Right c
unfolding judged
judged_right c e = by (loading (handed_by_program c.texts)) refl e
  where
    by : (k : Checked Offer) → loading (handed_by_program c.texts) ≡ k → next k (λ o. passed (computed_of o)) ≡ said c → Right c
    by (passed o) f g =
        let z : computed_of o ≡ record { positions = c.positions; steps = c.steps; says = Some c.says } = cc in
        let accepted = ((accepted_iff (handed_by_program c.texts) o).0 f).texts.its_task in
        let j = verdict_by_judged (domain_of o.task) (program_of o.task.job) (position_count o.task.job) (omega arith) o.entries in
        record {
          offer = o;
          passes = f;
          positions = ap (λ (x : Computed). x.positions) z;
          steps = ap (λ (x : Computed). x.steps) z;
          finds = computed_finds c.texts.job o.task accepted.its_job (accepted_within _ _ _ o.task accepted) o.entries _ c.says j
              (ap (λ (x : Computed). x.says) z);
        }
    by (refused number place) f g = never (cc)

each_right : (cs : List Case) → map judged cs ≡ map said cs → (c : Case) → Memᴰ c cs → Right c
each_right [] e c m = elim m [ ]
each_right (d ∷ cs) e c (Memᴰ.head h) = rw h (judged_right d (cc))
each_right (d ∷ cs) e c (Memᴰ.tail m) = each_right cs (cc) c m

-- a case of one table is one of both
in_first : {c : Case} (xs ys : List Case) → Memᴰ c xs → Memᴰ c (xs ++ ys)
in_first [] ys m = elim m [ ]
in_first (d ∷ xs) ys (Memᴰ.head h) = Memᴰ.head h
in_first (d ∷ xs) ys (Memᴰ.tail m) = Memᴰ.tail (in_first xs ys m)

in_second : {c : Case} (xs ys : List Case) → Memᴰ c ys → Memᴰ c (xs ++ ys)
in_second [] ys m = m
in_second (d ∷ xs) ys m = Memᴰ.tail (in_second xs ys m)

-- every case of the table
pub marked_cases : (c : Case) → Memᴰ c marked → Right c
marked_cases c m = each_right (marked ++ others) computed c (in_first marked others m)

other_right : (c : Case) → Memᴰ c others → Right c
other_right c m = each_right (marked ++ others) computed c (in_second marked others m)

-- of the table by other costs
pub priced_cases_lem : (c : Case) → Memᴰ c priced_cases → Right c
priced_cases_lem c m = other_right c (in_first priced_cases _ m)

-- of the one with effects that conflict
pub conflict_cases_lem : (c : Case) → Memᴰ c conflict_cases → Right c
conflict_cases_lem c m = other_right c (in_second priced_cases _ (in_first conflict_cases _ m))

-- of the one with picks
pub pick_cases_lem : (c : Case) → Memᴰ c pick_cases → Right c
pick_cases_lem c m = other_right c (in_second priced_cases _ (in_second conflict_cases _ (in_first pick_cases _ m)))

-- and of the one with second classes
pub conditional_cases_lem : (c : Case) → Memᴰ c conditional_cases → Right c
conditional_cases_lem c m = other_right c (in_second priced_cases _ (in_second conflict_cases _ (in_second pick_cases conditional_cases m)))
