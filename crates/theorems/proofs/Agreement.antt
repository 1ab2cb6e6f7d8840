-- Demand 2: the compiled job of an accepted text has just the plans that its program allows, and
-- the list holds that compiled job.
-- Assumes nothing.
use Prim.Native.Nat.{ℕ, ◌≤◌}
use mathlib.Core.Path.{◌≡◌, refl, sym, ◌∙◌, ap, subst}
use mathlib.Core.List.{List, []}
use native.Mathlib.Omega.{arith}
use lib.ListN.{length}
use Rattle.laws.proofs.Tests.{never}
use Rattle.job.specs.Job.{Job}
use Rattle.job.specs.Task.{Task, at_house_costs}
use Rattle.semantics.specs.CompilingTable.{Step, steps_in}
use Rattle.semantics.specs.Agreement.{Agrees}
use Rattle.semantics.proofs.Agreement.{agreement}
use Rattle.semantics.proofs.FlatLaws.{laid_back}
use Rattle.domain.specs.Domain.{domain_of}
use Rattle.compile.specs.Program.{program_of}
use Rattle.compile.specs.CompiledJob.{steps_of, final_position_of, step_count}
use Rattle.load.specs.Refusals.{Checked, passed, list_need, loading}
use Rattle.load.specs.View.{View}
use Rattle.jesmovit.specs.Compiling.{compiling, list_in, Compiles}
use Rattle.jesmovit.specs.Outcomes.{CompileResult}
use Rattle.jesmovit.proofs.AnswerLaws.{view_of_lem}
use Rattle.theorems.specs.Accepted.{AcceptedJob}
use Rattle.theorems.proofs.Acceptance.{accepted_iff}

-- by whatever costs
module _ (text : List ℕ) (t : Task) (accepted : AcceptedJob text t.job) where
  abbrev j : Job
  j = t.job

  -- "a plan of the compiled job, bookkeeping dropped, is allowed by the program on the original
  -- job, and every allowed plan comes from one"
  pub accepted_plans_agree : Agrees (domain_of t) (program_of t.job) (steps_of t.job) (final_position_of t.job)
  accepted_plans_agree = agreement (domain_of t) (program_of j)

  -- a list that is long enough, and whatever answer and list meet the promise of compiling
  module _ (list : List ℕ) (long : list_need t.job ≤ length list) (answer : CompileResult) (after : List ℕ)
      (promised : Compiles text list answer after) where
    compiles : loading (compiling text (length list)) ≡ passed (record { task = at_house_costs j; entries = [] })
    compiles = (accepted_iff (compiling text (length list)) (record { task = at_house_costs j; entries = [] })).1 (record {
      texts = record {
        its_task = record { its_job = accepted; its_costs = λ f. never (cc); house = λ f. refl };
        its_plan = λ sort f. never (cc);
        alone = λ f. refl;
      };
      list = long;
      table = omega arith;
    })

    pub list_holds : steps_in (step_count t.job) after ≡ steps_of t.job
    list_holds =
        ap (steps_in (step_count j)) (promised.holds ∙ ap (λ (c : Checked View). list_in c list) (view_of_lem (compiling text (length list)) compiles))
        ∙ laid_back (steps_of j) list long

    -- the same of the steps that it holds after compiling
    pub compiled_plans_agree : Agrees (domain_of t) (program_of t.job) (steps_in (step_count t.job) after) (final_position_of t.job)
    compiled_plans_agree = subst (λ (L : List Step). Agrees (domain_of t) (program_of j) L (final_position_of j)) (sym list_holds) accepted_plans_agree
