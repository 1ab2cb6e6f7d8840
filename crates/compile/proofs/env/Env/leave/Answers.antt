use Rattle.compile.proofs.EnvLaws.{each_left}
use Rattle.compile.proofs.env.Env.leave.Goals as goal

pub invariant_of-self : goal.invariant_of-self
invariant_of-self c = each_left c.pop.new.self.items c.pop.result (λ k. rw (← c.pop.ensures.items) (c.self.invariant k))
