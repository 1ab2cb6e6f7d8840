use Rattle.std.proofs.Common.{refl, arith}
use Rattle.job.specs.Store.{task_of}
use Rattle.domain.proofs.SuccessorLaws.{successor_past}
use Rattle.compiled.proofs.ArrivalLaws.{arrives_after, arrives_nowhere}
use Rattle.compiled.proofs.LeadLaws.{leads_silently}
use Rattle.compiled.proofs.SilentLaws.{same_label}
use Rattle.compiled.proofs.explored.Explored.arrive.Goals as goal

pub returns-in_default : goal.returns-in_default
returns-in_default c = record {
  leads = leads_silently _ _ _ _ c.in_default.not-Make (same_label _ _ _ c.args.self.now.world.told _) c.stays.ensures;
  world = refl;
}

pub returns-then-move_count-m-clause-leads : goal.returns-then-move_count-m-clause-leads
returns-then-move_count-m-clause-leads c =
    let w = c.args.self.now.world in
    rw c.in-Make.is (arrives_nowhere _ _ _ _
    (successor_past (task_of w.task.head w.task.rows.now) c.in-Make.m w.state (omega (arith, c.if-move_count-m.true, c.move_count.ensures))))

pub returns-in_err-made-clause-leads : goal.returns-in_err-made-clause-leads
returns-in_err-made-clause-leads c =
    rw (c.from_residual.ensures, c.in-Make.is) (arrives_nowhere _ _ _ _ c.in_err-made.ensures.gives.after)

pub returns-clause-leads : goal.returns-clause-leads
returns-clause-leads c =
    let made = c.in_ok-made.ensures in
    rw (c.after.ensures, c.in-Make.is) (arrives_after _ _ _ _ made.gives.after made.gives.cost)
