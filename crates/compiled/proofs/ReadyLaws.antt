-- What a check may take from what it is handed: sizes, positions, and that states and costs stay
-- within bounds.
-- Assumes nothing.
use Rattle.std.proofs.Common.{◌≡◌, ℕ, ◌+◌, ◌-◌, ◌*◌, ◌/◌, ◌≤◌, ◌<◌, List, length, get_or, arith}
use Rattle.limits.specs.Limits.{most_steps, most_positions, most_cost}
use Rattle.job.specs.Job.{Job}
use Rattle.job.specs.Store.{job_of}
use Rattle.job.specs.declared.head.Head.{Head}
use Rattle.semantics.proofs.Bounds.{Bounded}
use Rattle.semantics.proofs.Compiled.{compiled}
use Rattle.semantics.proofs.FlatLaws.{steps_at}
use Rattle.semantics.proofs.Part.{Range}
use Rattle.domain.specs.Domain.{domain_in}
use Rattle.domain.proofs.DomainLaws.{stored_bounded}
use Rattle.compile.specs.Program.{program_of}
use Rattle.compile.specs.CompiledJob.{final_position_of}
use Rattle.compile.proofs.FitLaws.{few_positions, few_steps}
use Rattle.compiled.specs.StepList.{start_in, Listed}
use Rattle.compiled.specs.Ready.{Ready}

module _ {head : Head} {rows list : List ℕ} {positions : ℕ} (r : Ready head rows list positions) where
  abbrev j : Job
  j = job_of head rows

  pub job_bounded : Bounded (domain_in head rows) most_cost
  job_bounded = stored_bounded r.stored

  pub last_final : positions - 1 ≡ final_position_of (job_of head rows)
  last_final = omega (arith, r.positions)

  pub final_below : final_position_of (job_of head rows) < most_positions
  final_below = omega (arith, few_positions j r.fit)

  pub positions_few : positions ≤ most_positions
  positions_few = omega (arith, r.positions, few_positions j r.fit)

  pub some_position : 1 ≤ positions
  some_position = omega (arith, r.positions)

  list_short : length list ≤ most_steps * 4
  list_short = omega (arith, r.whole, few_steps j r.fit)

  step_range : (k : ℕ) → k < length list / 4 → Range 0 (final_position_of j) (start_in list k) (get_or list (k * 4 + 2) 0)
  step_range k h = (compiled (domain_in head rows) (program_of j) 0).range (rw r.steps at (steps_at (length list / 4) list k h))

  pub ready_listed : Listed list
  ready_listed = record {
    few = list_short;
    from = λ k h. omega (arith, (step_range k h).1, final_below);
    to = λ k h. omega (arith, (step_range k h).3, final_below);
  }
