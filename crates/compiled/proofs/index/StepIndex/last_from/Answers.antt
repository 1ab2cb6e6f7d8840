use Rattle.std.proofs.Common.{◌∙◌}
use Rattle.compiled.proofs.IndexLaws.{same_link}
use Rattle.compiled.proofs.index.StepIndex.last_from.Goals as goal

pub returns : goal.returns
returns c = same_link _ _ (c.linked.ensures ∙ c.args.self.now.indexed.linked.last_from _ c.requires)
