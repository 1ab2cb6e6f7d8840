use Rattle.layout.proofs.LineLaws.{blank_length, line_placed}
use Rattle.layout.proofs.line.put_blank.Goals as goal

pub returns : goal.returns
returns c = rw c.lay_blank.ensures (line_placed _ _ _ (blank_length) c.requires)
