use Rattle.std.proofs.Common.{arith}
use Rattle.queue.specs.Queue.{due}
use Rattle.queue.proofs.QueueLaws.{chosen_first}
use Rattle.queue.proofs.queue.Queue.choose.Goals as goal

pub returns-then-key-lt-NO_KEY : goal.returns-then-key-lt-NO_KEY
returns-then-key-lt-NO_KEY c =
    let x = c.key.ensures c.if-key-lt-NO_KEY.true in due {s = c.named-s.result} x.0 (omega arith)

pub returns : goal.returns
returns c = rw (← c.self.view_is) (chosen_first _ _ c.first.ensures)
