use Rattle.jesmovit.proofs.FrontLaws.{front_ready}
use Rattle.jesmovit.proofs.preparing.compiled.Goals as goal

pub invariant_of-result : goal.invariant_of-result
invariant_of-result c =
    let j = c.args.job.now in record { ready = front_ready j.task.stored j.sized c.requires c.list_need.ensures; counted = j.counted }
