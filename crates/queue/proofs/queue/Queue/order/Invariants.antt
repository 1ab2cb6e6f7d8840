use Rattle.std.proofs.Common.{◌≡◌}
use Rattle.queue.proofs.queue.Queue.order.Given as goal

abbrev pub invariant-loop-i : goal.invariant-loop-i
invariant-loop-i l = l.self ≡ l.initial.self
