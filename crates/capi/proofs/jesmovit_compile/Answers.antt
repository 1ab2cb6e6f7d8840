use Rattle.capi.proofs.GivesLaws.{given_by}
use Rattle.capi.proofs.jesmovit_compile.Goals as goal

pub returns : goal.returns
returns c =
    given_by c.compile-a.result c.compile-a.ensures
    c.from-n.ensures c.hand_out.ensures
