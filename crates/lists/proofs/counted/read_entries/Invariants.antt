use Rattle.std.proofs.Common.{[], drop}
use Rattle.text.specs.Lines.{lines}
use Rattle.lists.specs.CountedList.{bound_at, read_entries}
use Rattle.lists.proofs.ListLaws.{SoFar}
use Rattle.lists.proofs.counted.read_entries.Given as goal

abbrev pub invariant-loop-n : goal.invariant-loop-n
invariant-loop-n g l =
    SoFar l.key (bound_at l.ranges) (read_entries l.key (bound_at l.ranges) [] l.count (lines (drop l.start l.text))) l.text l.list.items l.count l.n l.at
