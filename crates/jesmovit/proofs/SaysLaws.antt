-- The verdicts that the checks compute are those of "Verdicts".
-- Assumes nothing.
use Prim.Native.Nat.{ℕ}
use mathlib.Core.Path.{◌≡◌, ap, subst}
use mathlib.Core.List.{List}
use lib.ListN.{length}
use Rattle.limits.specs.Limits.{most_positions}
use Rattle.job.specs.Job.{Job}
use Rattle.job.specs.Store.{job_of, task_of}
use Rattle.job.specs.declared.head.Head.{Head}
use Rattle.semantics.specs.Verdict.{Verdict}
use Rattle.semantics.specs.PositionSets.{verdict_by}
use Rattle.semantics.specs.StepVerdict.{step_verdict}
use Rattle.semantics.proofs.CheckLaws.{verdict_by_judged}
use Rattle.semantics.proofs.StepVerdictLaws.{step_verdict_judged}
use Rattle.domain.specs.Domain.{domain_in}
use Rattle.domain.specs.Entries.{EntriesBelow}
use Rattle.compile.specs.Program.{program_of}
use Rattle.compile.specs.CompiledJob.{steps_of, final_position_of}
use Rattle.compiled.specs.Ready.{Ready}
use Rattle.compiled.proofs.ReadyLaws.{final_below}
use Rattle.load.specs.Refusals.{bound_for}
use Rattle.load.specs.View.{view_of}
use Rattle.load.specs.declared.request.Sort.{Sort}
use Rattle.load.specs.declared.request.Sort.TheVariants.{Moves, Steps}
use Rattle.jesmovit.specs.Checking.{Says}

module _ (h : Head) (rows plan : List ℕ) where
  abbrev j : Job
  j = job_of h rows

  module _ {sort : Sort} (e : sort ≡ Moves) where
    pub move_entries : EntriesBelow plan (bound_for sort (job_of h rows)) → EntriesBelow plan (domain_in h rows).moves
    move_entries x = subst (λ (b : ℕ). EntriesBelow plan b) (ap (λ (s : Sort). bound_for s j) e) x

    pub says_moves : {list : List ℕ} {positions : ℕ} → Ready h rows list positions
        → {v : Verdict} → v ≡ verdict_by most_positions (domain_in h rows) (program_of (job_of h rows)) plan
        → Says sort (view_of (record { task = task_of h rows; entries = plan })) v
    says_moves r f = rw (e, f) (verdict_by_judged (domain_in h rows) (program_of j) most_positions (final_below r) plan)

  module _ {sort : Sort} (e : sort ≡ Steps) where
    pub step_entries : EntriesBelow plan (bound_for sort (job_of h rows)) → EntriesBelow plan (length (steps_of (job_of h rows)))
    step_entries x = subst (λ (b : ℕ). EntriesBelow plan b) (ap (λ (s : Sort). bound_for s j) e) x

    pub says_steps : {v : Verdict} → v ≡ step_verdict (domain_in h rows) (steps_of (job_of h rows)) (final_position_of (job_of h rows)) plan
        → Says sort (view_of (record { task = task_of h rows; entries = plan })) v
    says_steps f = rw (e, f) (step_verdict_judged (domain_in h rows) (steps_of j) (final_position_of j) plan)
