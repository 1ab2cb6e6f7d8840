use Rattle.std.proofs.Common.{◌+◌, ◌*◌}
use Rattle.compile.proofs.CallLaws.{of, Copied}
use Rattle.compile.proofs.program.+compile_pick_compile_row.Given as goal

abbrev pub decreases-compile_pick : goal.decreases-compile_pick
decreases-compile_pick l = 2 * l.a + 1

abbrev pub decreases-compile_row : goal.decreases-compile_row
decreases-compile_row l = 2 * l.i

abbrev pub invariant-compile_pick-loop-o : goal.invariant-compile_pick-loop-o
invariant-compile_pick-loop-o l =
    Copied l.task.head.counts (of l.task.head l.task.rows.now l.a) l.initial.env l.initial.list l.from l.o l.list l.next l.env
