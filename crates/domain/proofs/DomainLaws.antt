-- The domain of a well-formed job and costs is bounded, and has at most so many states.
-- Assumes nothing.
use Rattle.std.proofs.Common.{ℕ, ◌≤◌, ◌<◌, List, ◌≡◌, Some}
use Rattle.limits.specs.Limits.{most_states, most_cost}
use Rattle.job.specs.StateCount.{state_count}
use Rattle.job.specs.Job.{Job, move_at}
use Rattle.job.specs.Task.{Task, CostsWithin}
use Rattle.job.specs.WellFormed.{WellFormed}
use Rattle.job.specs.Stored.{Stored}
use Rattle.job.specs.declared.head.Head.{Head}
use Rattle.semantics.proofs.Bounds.{Bounded}
use Rattle.domain.specs.State.{values}
use Rattle.domain.specs.Effects.{fact_after, affected}
use Rattle.domain.specs.Domain.{effects_of, successor_of, domain_of, domain_in}
use Rattle.domain.proofs.FactLaws.{count_within}
use Rattle.domain.proofs.StateLaws.{state_below}
use Rattle.domain.proofs.SuccessorLaws.{successor_is}
use Rattle.domain.proofs.CostLaws.{cost_within}

pub domain_bounded : (t : Task) → WellFormed t.job → CostsWithin t.costs → Bounded (domain_of t) most_cost
unfolding affected
domain_bounded t k c = record { start = k.init; successors = stays; costs = λ m w. cost_within t m w c }
  where
    j : Job
    j = t.job

    stays : (m w t : ℕ) → w < state_count j.scalars.facts → successor_of j m w ≡ Some t → t < state_count j.scalars.facts
    stays m w t h e = rw (successor_is j m w t e) at (state_below j.scalars.facts (fact_after (values w j.formulas) (effects_of j (move_at j m)) w))

-- the same of a stored task
module _ {head : Head} {rows : List ℕ} (s : Stored head rows) where
  pub stored_bounded : Bounded (domain_in head rows) most_cost
  stored_bounded = domain_bounded _ s.job s.costs

  pub states_few : (domain_in head rows).states ≤ most_states
  states_few = count_within head.counts.facts s.job.facts
