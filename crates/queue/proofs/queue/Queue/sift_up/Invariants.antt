use Rattle.std.proofs.Common.{◌≡◌, ◌<◌}
use Rattle.queue.proofs.queue.Queue.sift_up.Given as goal

abbrev pub invariant-loop-i : goal.invariant-loop-i
invariant-loop-i l = (l.i < l.n) × (l.self ≡ l.initial.self)

abbrev pub decreases-loop-i : goal.decreases-loop-i
decreases-loop-i l = l.i
