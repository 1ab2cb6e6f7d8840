use Rattle.capi.proofs.GivesLaws.{given_by}
use Rattle.capi.proofs.jesmovit_read_job.Goals as goal

pub returns : goal.returns
returns c =
    given_by c.read_job-a.result c.read_job-a.ensures c.from-n.ensures c.hand_out.ensures
