use Rattle.std.proofs.Common.{sym, ◌∙◌}
use Rattle.domain.specs.Domain.{domain_at}
use Rattle.semantics.proofs.FlatLaws.{steps_at}
use Rattle.validate.proofs.StepLaws.{made_here, made_nowhere}
use Rattle.validate.proofs.steps.make_step.Goals as goal

pub returns-then-start_at-position : goal.returns-then-start_at-position
returns-then-start_at-position c =
    made_nowhere _ _ _ (steps_at _ _ _ c.requires.i_in_bounds) (λ e. c.if-start_at-position.true (c.start_at.ensures ∙ e))

pub returns : goal.returns
returns c =
    let here = rw (c.at-world.ensures.0, c.at-world.ensures.1) at c.arrive.ensures in
    made_here (domain_at c.args.job.now.task) c.args.state c.args.position c.step_at.ensures (sym c.start_at.ensures ∙ c.if-start_at-position.false) here
