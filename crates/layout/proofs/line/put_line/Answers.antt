use Rattle.layout.proofs.LineLaws.{line_length_lem, line_placed}
use Rattle.layout.proofs.line.put_line.Goals as goal

pub returns : goal.returns
returns c = rw c.lay_line.ensures (line_placed _ _ _ (line_length_lem _ c.requires.fits) c.requires.room)
