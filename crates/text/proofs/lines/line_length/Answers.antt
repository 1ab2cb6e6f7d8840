use Rattle.std.proofs.Common.{arith}
use Rattle.text.proofs.LineLaws.{length_to_feed, length_to_end, length_le}
use Rattle.text.proofs.lines.line_length.Goals as goal

pub returns-in-Some : goal.returns-in-Some
returns-in-Some c = let h = length_to_feed _ _ c.in-Some.ensures in record { value = h; bound = omega (arith, h, length_le c.args.text.now) }

pub returns-in-None : goal.returns-in-None
returns-in-None c = record { value = length_to_end _ c.in-None.ensures; bound = omega arith }
