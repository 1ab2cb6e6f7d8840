use Rattle.compiled.proofs.IndexLaws.{read_step}
use Rattle.compiled.proofs.index.StepIndex.step.Goals as goal

pub returns : goal.returns
returns c = read_step c.args.self.now.read _ c.requires
