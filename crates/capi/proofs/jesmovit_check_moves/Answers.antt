use Rattle.capi.proofs.GivesLaws.{given_by}
use Rattle.capi.proofs.jesmovit_check_moves.Goals as goal

pub returns : goal.returns
returns c =
    given_by c.check_moves-a.result (rw c.given_in-g.ensures at c.check_moves-a.ensures)
    c.from-n.ensures c.hand_out.ensures
