-- The check of a list of moves, move by move: the verdict from the start is the verdict from here.
-- Assumes nothing.
use Rattle.std.proofs.Common.{◌≡◌, ℕ, ◌+◌, ◌-◌, ◌*◌, ◌≤◌, ◌<◌, Bool, true, false, List, None, Some, length, get_or, set, replicate, sym, ◌∙◌, ap, arith}
use Rattle.limits.specs.Limits.{most_positions, most_cost}
use Rattle.job.specs.StoredTask.{stored_job}
use Rattle.semantics.specs.Domain.{Domain}
use Rattle.semantics.specs.CompilingTable.{Step}
use Rattle.semantics.specs.Verdict.{Verdict, blocked}
use Rattle.semantics.specs.Machine.{Machine, onward, finished, verdict_from}
use Rattle.semantics.specs.PositionSets.{closure, spread, is_move, silent_in, any_mark, first_set, next_set, Configurations, move_on, set_machine, verdict_by}
use Rattle.semantics.proofs.Marks.{count_zero, count_some}
use Rattle.semantics.proofs.SetVerdict.{not_applicable, moves_nowhere, moves_somewhere}
use Rattle.domain.specs.Domain.{domain_at}
use Rattle.domain.specs.declared.world.World.{World}
use Rattle.compile.specs.Program.{program_of}
use Rattle.compile.specs.CompiledJob.{steps_of, final_position_of}
use Rattle.compiled.specs.StepList.{steps_on}
use Rattle.compiled.specs.declared.CompiledJob.{CompiledJob}
use Rattle.compiled.specs.Steps.{silent_by}
use Rattle.compiled.proofs.ReadyLaws.{last_final}
use Rattle.compiled.proofs.SilentLaws.{silent_told}
use Rattle.validate.specs.declared.position_set.PositionSet.{PositionSet}
use Rattle.validate.proofs.VerdictLaws.{Left, left_start, left_blocked, left_more, left_end}

-- marks as the code closes them by a world's values
pub closed_in : (world : World) (L : List Step) (T : List Bool) {S : List Bool} → S ≡ closure (silent_by world.values) L T
    → S ≡ closure (silent_in (domain_at world.task) world.state) L T
closed_in world L T f = f ∙ ap (λ on. closure on L T) (silent_told (domain_at world.task) world.state world.values world.told)

module _ (job : CompiledJob) (plan : List ℕ) where
  abbrev D : Domain
  D = domain_at job.task

  abbrev L : List Step
  L = steps_of (stored_job job.task)

  abbrev e : ℕ
  e = final_position_of (stored_job job.task)

  -- the verdict on the whole list
  abbrev whole : Verdict
  whole = verdict_by most_positions D (program_of (stored_job job.task)) plan

  abbrev M : Machine
  M = set_machine D L e

  -- after i moves at this cost, in this world, where the program may be at the positions of S
  pub record Checking (world : World) (S : PositionSet) (cost i : ℕ) : Type 0 where
    pub left : Left (domain_at job.task) (set_machine (domain_at job.task) (steps_of (stored_job job.task)) (final_position_of (stored_job job.task))) plan
        (verdict_by most_positions (domain_at job.task) (program_of (stored_job job.task)) plan) (record { state = world.state; marks = S.marks }) cost i
    pub here : world.task ≡ job.task
    pub cost_within : cost ≤ most_cost * i

  -- marks as the code closes them
  closed_is : (T : List Bool) {U : List Bool} (s : ℕ) → U ≡ closure (silent_in D s) (steps_on job.list.now) T → U ≡ closure (silent_in D s) L T
  closed_is T s f = f ∙ rw job.ready.steps

  module _ (world : World) (task : world.task ≡ job.task) (start : world.state ≡ D.start) (S T : PositionSet) where
    begins : T.marks ≡ set (replicate most_positions false) 0 true
        → S.marks ≡ closure (silent_in (domain_at world.task) world.state) (steps_on job.list.now) T.marks
        → verdict_from D M (record { state = world.state; marks = S.marks }) plan ≡ whole
    unfolding verdict_by first_set
    begins f g = rw (closed_is T.marks world.state (rw task at g), f, start)

    pub checking_start : T.marks ≡ set (replicate most_positions false) 0 true
        → S.marks ≡ closure (silent_in (domain_at world.task) world.state) (steps_on job.list.now) T.marks → Checking world S 0 0
    checking_start f g = record { left = left_start D M plan whole _ (sym (begins f g)); here = task; cost_within = omega arith }

  module _ {world : World} {S : PositionSet} {cost i : ℕ} (x : Checking world S cost i) where
    module _ (h : i < length plan) where
      abbrev m : ℕ
      m = get_or plan i 0

      abbrev here : Configurations
      here = record { state = world.state; marks = S.marks }

      stops : move_on D L here m ≡ None → blocked i ≡ whole
      stops = left_blocked D M plan whole x.left h

      -- the move is not applicable
      pub checking_none : None ≡ (domain_at world.task).successor (get_or plan i 0) world.state → blocked i ≡ whole
      checking_none f = stops (not_applicable D L here m (sym (rw x.here at f)))

      module _ (next : World) (to : Some next.state ≡ (domain_at world.task).successor (get_or plan i 0) world.state) (task : next.task ≡ job.task)
          (A B : PositionSet) (advanced : A.marks ≡ spread (is_move (get_or plan i 0)) (steps_on job.list.now) S.marks (replicate most_positions false))
          (closed : B.marks ≡ closure (silent_in (domain_at next.task) next.state) (steps_on job.list.now) A.marks) where
        made : D.successor m world.state ≡ Some next.state
        made = sym (rw x.here at to)

        is_next : B.marks ≡ next_set D L next.state m S.marks
        unfolding next_set
        is_next = closed_is A.marks next.state (rw task at closed) ∙ rw (advanced, job.ready.steps, S.counted.size)

        -- no position is left
        pub checking_stuck : B.count ≡ 0 → blocked i ≡ whole
        checking_stuck f =
            stops (moves_nowhere D L here m next.state made (ap any_mark (sym is_next) ∙ count_zero B.marks (sym B.counted.counted ∙ f)))

        goes_on : (B.count ≡ 0 → ⊥)
            → move_on D L here m ≡ Some (record { to = record { state = next.state; marks = B.marks }; cost = D.cost m world.state })
        goes_on f =
            moves_somewhere D L here m next.state made (ap any_mark (sym is_next) ∙ count_some B.marks (omega (arith, B.counted.counted, f)))
            ∙ ap (λ (T : List Bool). Some (record { to = record { state = next.state; marks = T }; cost = D.cost m world.state })) (sym is_next)

        pub checking_more : (B.count ≡ 0 → ⊥) → {c : ℕ} → c ≡ (domain_at world.task).cost (get_or plan i 0) world.state → c ≤ most_cost
            → Checking next B (cost + c) (i + 1)
        checking_more f {c} g k = record {
          left = rw (rw x.here at g) (left_more D M plan whole x.left h (goes_on f));
          here = task;
          cost_within = omega (arith, x.cost_within);
        }

    -- all moves are made
    pub checking_end : length plan ≤ i → {complete goal : Bool} → complete ≡ get_or S.marks (job.positions - 1) false
        → goal ≡ (domain_at world.task).goal world.state
        → onward cost (finished complete goal) ≡ verdict_by most_positions (domain_at job.task) (program_of (stored_job job.task)) plan
    checking_end h f g = rw (f, rw x.here at g, last_final job.ready) (left_end D M plan whole x.left h)
