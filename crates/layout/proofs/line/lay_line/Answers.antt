use Rattle.layout.proofs.LineLaws.{line_put}
use Rattle.layout.proofs.line.lay_line.Goals as goal

pub returns : goal.returns
returns c = line_put c.args.line c.requires.fits _ _ _ _ _ c.requires.size c.column.ensures c.column-2.ensures c.column-3.ensures c.column-4.ensures
