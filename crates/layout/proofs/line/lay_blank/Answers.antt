use Rattle.layout.proofs.LineLaws.{blank_put}
use Rattle.layout.proofs.line.lay_blank.Goals as goal

pub returns : goal.returns
returns c = blank_put _ _ c.requires (c.fill.ensures.after (λ b e. e))
