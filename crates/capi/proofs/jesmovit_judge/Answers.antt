use Rattle.capi.proofs.GivesLaws.{given_by}
use Rattle.capi.proofs.jesmovit_judge.Goals as goal

pub returns : goal.returns
returns c =
    given_by c.judge-a.result (rw c.given_in-g.ensures at c.judge-a.ensures) c.from-n.ensures c.hand_out.ensures
