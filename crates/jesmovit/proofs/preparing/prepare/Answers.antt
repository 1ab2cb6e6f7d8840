use Rattle.jesmovit.proofs.LoadedLaws.{load_room}
use Rattle.std.proofs.Common.{Ok, refl}
use Rattle.jesmovit.proofs.preparing.prepare.Goals as goal

pub compile-requires-clause-fits : goal.compile-requires-clause-fits
compile-requires-clause-fits c =
    let o = c.in_ok-offer.offer in
    (o.job.sized.fit, rw c.requires.1 at (load_room {a = Ok o} c.in_ok-offer.ensures refl))
