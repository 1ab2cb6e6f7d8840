use Rattle.std.proofs.Common.{arith, ◌∙◌, sym}
use Rattle.job.specs.StoredTask.{stored_job}
use Rattle.domain.proofs.DomainLaws.{stored_bounded}
use Rattle.domain.proofs.SuccessorLaws.{successor_some, successor_conflict}
use Rattle.domain.proofs.world.World.successor.Goals as goal

pub returns-clause-after : goal.returns-clause-after
returns-clause-after c =
    let w = c.args.self.now in
    successor_some (stored_job w.task) c.args.m w.state c.requires.0 c.move_at-made.ensures (sym c.holds.ensures ∙ c.if-not-holds.false)
    w.told c.changes_of-cleared.ensures (omega (arith, c.if-cleared-set-ne0.false)) w.task.stored.job.facts c.requires.1

pub returns-clause-within : goal.returns-clause-within
returns-clause-within c =
    let w = c.args.self.now in
    (stored_bounded w.task.stored).successors c.args.m w.state _ c.requires.1 (sym (returns-clause-after c))

pub returns-then-cleared-set-ne0-clause-after : goal.returns-then-cleared-set-ne0-clause-after
returns-then-cleared-set-ne0-clause-after c =
    let w = c.args.self.now in
    successor_conflict (stored_job w.task) c.args.m w.state c.requires.0 c.move_at-made.ensures (sym c.holds.ensures ∙ c.if-not-holds.false)
    w.told c.changes_of-cleared.ensures (λ e. absurd (omega (arith, c.if-cleared-set-ne0.true)))
