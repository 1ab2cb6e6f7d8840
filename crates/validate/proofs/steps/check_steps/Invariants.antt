use Rattle.limits.specs.Limits.{most_cost}
use Rattle.job.specs.StoredTask.{stored_job}
use Rattle.domain.specs.Domain.{domain_at}
use Rattle.compile.specs.CompiledJob.{steps_of, final_position_of}
use Rattle.validate.proofs.StepLaws.{Stepping}
use Rattle.validate.proofs.steps.check_steps.Given as goal

abbrev pub invariant-loop-i : goal.invariant-loop-i
invariant-loop-i l =
    let j = stored_job l.job.task in
    Stepping (domain_at l.job.task) most_cost (steps_of j) (final_position_of j) l.plan l.state l.position l.cost l.i
