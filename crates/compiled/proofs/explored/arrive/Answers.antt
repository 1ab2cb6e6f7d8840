use Rattle.std.proofs.Common.{arith}
use Rattle.job.specs.Store.{task_of}
use Rattle.domain.proofs.SuccessorLaws.{successor_past}
use Rattle.compiled.proofs.ArrivalLaws.{arrives_after, arrives_nowhere}
use Rattle.compiled.proofs.LeadLaws.{leads_silently}
use Rattle.compiled.proofs.SilentLaws.{same_label}
use Rattle.compiled.proofs.explored.arrive.Goals as goal

pub returns-in_default : goal.returns-in_default
returns-in_default c = leads_silently _ _ _ _ c.in_default.not-Make (same_label _ _ _ c.args.world.now.told _) c.stays.ensures

pub returns-then-move_count-m : goal.returns-then-move_count-m
returns-then-move_count-m c =
    let w = c.args.world.now in
    rw c.in-Make.is (arrives_nowhere _ _ _ _
    (successor_past (task_of w.task.head w.task.rows.now) c.in-Make.m w.state (omega (arith, c.if-move_count-m.true, c.move_count.ensures))))

pub returns-in_err-made : goal.returns-in_err-made
returns-in_err-made c = rw (c.from_residual.ensures, c.in-Make.is) (arrives_nowhere _ _ _ _ c.in_err-made.ensures.after)

pub returns : goal.returns
returns c = let made = c.in_ok-made.ensures in rw (c.after.ensures, c.in-Make.is) (arrives_after _ _ _ _ made.after made.cost)
