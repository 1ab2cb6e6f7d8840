use Rattle.job.specs.StoredTask.{stored_job}
use Rattle.domain.specs.Domain.{domain_at}
use Rattle.compile.specs.Program.{program_of}
use Rattle.compiled.proofs.ReadyLaws.{job_bounded}
use Rattle.search.proofs.LowestLaws.{lowest_least}
use Rattle.search.proofs.least.least_cost.Goals as goal

pub returns-clause-least : goal.returns-clause-least
returns-clause-least c =
    let job = c.args.job.now in
    rw c.then_some.ensures (lowest_least (domain_at job.task) (program_of (stored_job job.task)) (job_bounded job.ready)
    job.ready.positions c.fill.ensures c.least_entry-least.ensures)
