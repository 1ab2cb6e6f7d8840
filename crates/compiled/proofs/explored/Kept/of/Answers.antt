use Rattle.std.proofs.Common.{sym, ap, Some}
use Rattle.compiled.specs.Explored.{known_by}
use Rattle.compiled.proofs.explored.Kept.of.Goals as goal

pub returns-in-None : goal.returns-in-None
unfolding known_by
returns-in-None c = sym (ap Some c.in-None.is)

pub returns-in-Some : goal.returns-in-Some
unfolding known_by
returns-in-Some c = sym (ap Some c.in-Some.is)
