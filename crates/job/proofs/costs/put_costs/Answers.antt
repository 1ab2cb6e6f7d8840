use Rattle.std.proofs.Common.{rules, arith}
use Rattle.job.proofs.StoreLaws.{put_mid_sets}
use Rattle.job.proofs.costs.put_costs.Goals as goal

pub returns : goal.returns
returns c = put_mid_sets _ _ _ _ _ c.copy_from_slice.ensures.after (search rules) (omega arith)
