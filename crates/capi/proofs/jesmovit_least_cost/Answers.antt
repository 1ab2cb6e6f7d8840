use Rattle.capi.proofs.GivesLaws.{given_by}
use Rattle.capi.proofs.jesmovit_least_cost.Goals as goal

pub returns : goal.returns
returns c =
    given_by c.least_cost-a.result (rw c.given_in-g.ensures at c.least_cost-a.ensures)
    c.from-n.ensures c.hand_out.ensures
