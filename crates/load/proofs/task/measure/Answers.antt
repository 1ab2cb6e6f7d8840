use mathlib.Core.Path.{sym, ◌∙◌}
use Rattle.load.proofs.JobLaws.{unscoped, many_positions, many_steps, job_passes, job_sized}
use Rattle.load.proofs.task.measure.Goals as goal

pub returns-then-not-program_scoped-clause-value : goal.returns-then-not-program_scoped-clause-value
returns-then-not-program_scoped-clause-value c = unscoped _ _ (sym c.program_scoped.ensures ∙ c.if-not-program_scoped.true)

pub returns-then-sizes-gt-POSITIONS-clause-value : goal.returns-then-sizes-gt-POSITIONS-clause-value
returns-then-sizes-gt-POSITIONS-clause-value c =
    many_positions _ _ (sym c.program_scoped.ensures ∙ c.if-not-program_scoped.false) _ c.measure-sizes.ensures c.if-sizes-gt-POSITIONS.true

pub returns-then-sizes-gt-STEPS-clause-value : goal.returns-then-sizes-gt-STEPS-clause-value
returns-then-sizes-gt-STEPS-clause-value c =
    many_steps _ _ (sym c.program_scoped.ensures ∙ c.if-not-program_scoped.false) _ c.measure-sizes.ensures
    c.if-sizes-gt-POSITIONS.false c.if-sizes-gt-STEPS.true

pub returns-clause-value : goal.returns-clause-value
returns-clause-value c =
    job_passes _ _ (sym c.program_scoped.ensures ∙ c.if-not-program_scoped.false) _ c.measure-sizes.ensures
    c.if-sizes-gt-POSITIONS.false c.if-sizes-gt-STEPS.false

pub returns-clause-sized : goal.returns-clause-sized
returns-clause-sized c =
    job_sized c.args.lines _ (sym c.program_scoped.ensures ∙ c.if-not-program_scoped.false) _ c.measure-sizes.ensures
    c.if-sizes-gt-POSITIONS.false c.if-sizes-gt-STEPS.false
