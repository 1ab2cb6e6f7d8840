use Rattle.std.proofs.Common.{◌∙◌}
use Rattle.compiled.proofs.IndexLaws.{same_link}
use Rattle.compiled.proofs.index.StepIndex.before.Goals as goal

pub returns : goal.returns
returns c = same_link _ _ (c.linked.ensures ∙ c.args.self.now.indexed.linked.before_each _ c.requires)
