use Rattle.std.proofs.Common.{subst}
use Rattle.domain.specs.declared.world.World.{World}
use Rattle.search.specs.Relaxation.{Relaxing, stays, leads}
use Rattle.search.specs.Table.{graph_in}
use Rattle.search.proofs.RelaxationLaws.{target_inside, world_inside, world_arrives}
use Rattle.search.proofs.sweep.Sweep.follow.Goals as goal

pub returns-in_default-clause-steps : goal.returns-in_default-clause-steps
returns-in_default-clause-steps c =
    let led = world_arrives c.args.table.now.job c.args.self.now.explored.world c.requires.same_task _ _ _ c.arrive.ensures.leads in
    stays (rw c.in_default.is at led)

pub relax-requires-clause-state_inside : goal.relax-requires-clause-state_inside
relax-requires-clause-state_inside c =
    let led = world_arrives c.args.table.now.job c.args.self.now.explored.world c.requires.same_task _ _ _ c.arrive.ensures.leads in
    let inside = world_inside c.args.table.now.job c.args.self.now.explored.world c.requires.same_task c.args.self.now.explored.inside in
    (target_inside c.args.table.now.job _ inside c.args.step c.in-Some.target (rw c.in-Some.is at led) c.requires.inside).0

pub relax-requires-clause-position_inside : goal.relax-requires-clause-position_inside
relax-requires-clause-position_inside c =
    let led = world_arrives c.args.table.now.job c.args.self.now.explored.world c.requires.same_task _ _ _ c.arrive.ensures.leads in
    let inside = world_inside c.args.table.now.job c.args.self.now.explored.world c.requires.same_task c.args.self.now.explored.inside in
    (target_inside c.args.table.now.job _ inside c.args.step c.in-Some.target (rw c.in-Some.is at led) c.requires.inside).1

pub returns-clause-steps : goal.returns-clause-steps
returns-clause-steps c =
    let led = world_arrives c.args.table.now.job c.args.self.now.explored.world c.requires.same_task _ _ _ c.arrive.ensures.leads in
    let s = c.args.self.now in
    let t = c.args.table.now in
    let after = c.relax.new in
    leads c.in-Some.target (rw c.in-Some.is at led)
    (subst (λ (w : World). Relaxing (graph_in t) w.state c.args.x c.in-Some.target c.args.next t.costs.now t.queue.now s.marks
    after.table.costs.now after.table.queue.now after.self.marks c.relax.result) c.arrive.ensures.world c.relax.ensures.relaxes)
