use Rattle.text.specs.Bytes.{bytes}
use Rattle.lists.proofs.plan_text.read_plan.Goals as goal

pub returns-clause-is : goal.returns-clause-is
unfolding bytes
returns-clause-is c = rw (c.from.ensures, c.from-2.ensures) at c.read_list.ensures.is
