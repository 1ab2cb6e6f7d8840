-- The graph of a job's steps.
-- Assumes nothing.
use Rattle.std.proofs.Common.{◌≡◌, ℕ, ◌+◌, arith}
use Rattle.limits.specs.Limits.{most_cost}
use Rattle.semantics.specs.Program.{Program}
use Rattle.semantics.specs.Domain.{Domain}
use Rattle.semantics.specs.CompilingTable.{compiled_steps, final_position}
use Rattle.semantics.proofs.Bounds.{Bounded, Closed}
use Rattle.semantics.proofs.Compiled.{compiled}
use Rattle.job.specs.StoredTask.{stored_job}
use Rattle.domain.specs.Domain.{domain_at}
use Rattle.compile.specs.Program.{program_of}
use Rattle.compiled.specs.declared.CompiledJob.{CompiledJob}
use Rattle.compiled.proofs.ReadyLaws.{job_bounded}
use Rattle.search.specs.Sweeps.{graph_of}

-- the steps of a compiled program stay between its positions
pub compiled_closed : (D : Domain) (σ : Program) {positions most : ℕ} → Bounded D most → positions ≡ final_position D σ + 1
    → Closed (record { domain = D; steps = compiled_steps D σ; positions = positions }) most
compiled_closed D σ b e = record {
  bounded = b;
  within = λ i p q l a. let g = (compiled D σ 0).range a in (omega (arith, g), omega (arith, g));
}

pub graph_closed : (job : CompiledJob) → Closed (graph_of job) most_cost
graph_closed job = rw job.ready.steps (compiled_closed (domain_at job.task) (program_of (stored_job job.task)) (job_bounded job.ready) job.ready.positions)
