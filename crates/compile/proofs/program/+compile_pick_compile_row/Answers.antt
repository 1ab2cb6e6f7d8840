use Rattle.std.proofs.Common.{refl, ◌∙◌, arith}
use Rattle.compile.proofs.StepsLaidLaws.{wrote_leaf, wrote_any, wrote_seq, wrote_branch, wrote_loop, wrote_pick}
use Rattle.compile.proofs.PickLaws.{wrote_none, all_copied, after_first, pick_ok, wrote_copies}
use Rattle.compile.proofs.CallLaws.{in_env, leaf_object, leaf_ok, any_ok, seq_first, seq_second, branch_first, branch_next}
use Rattle.compile.proofs.CallLaws.{branch_second, branch_ok, loop_first, loop_ok, pick_first, none_copied, enter_ok, copy_first}
use Rattle.compile.proofs.CallLaws.{next_copy, one_copied, some_object}
use Rattle.compile.proofs.program.+compile_pick_compile_row.Goals as goal

pub compile_pick-returns-then-objects-eq0 : goal.compile_pick-returns-then-objects-eq0
compile_pick-returns-then-objects-eq0 t c = record { steps = rw c.next-first.ensures (wrote_none c.if-objects-eq0.true); kept = refl }

pub compile_pick-loop-o-init : goal.compile_pick-loop-o-init
compile_pick-loop-o-init t c = rw c.next-first.ensures none_copied

pub compile_pick-enter-requires : goal.compile_pick-enter-requires
compile_pick-enter-requires t c =
    enter_ok c.args.task.now.stored (c.decreases, (c.requires.bounds, c.requires.enough)) c.loop-o.invariant c.loop-o-test.true

pub compile_pick-compile_row-x-requires : goal.compile_pick-compile_row-x-requires
compile_pick-compile_row-x-requires t c =
    copy_first c.args.task.now.stored (c.decreases, (c.requires.bounds, c.requires.enough)) c.loop-o.invariant
    c.loop-o-test.true c.enter.ensures refl

pub compile_pick-next-next-requires : goal.compile_pick-next-next-requires
compile_pick-next-next-requires t c =
    next_copy c.args.task.now.stored (c.decreases, (c.requires.bounds, c.requires.enough)) c.loop-o.invariant
    c.loop-o-test.true c.enter.ensures c.compile_row-x.ensures refl

pub compile_pick-loop-o-preserved : goal.compile_pick-loop-o-preserved
compile_pick-loop-o-preserved t c =
    rw c.next-next.ensures
    (one_copied c.args.task.now.stored (c.decreases, (c.requires.bounds, c.requires.enough)) c.loop-o.invariant c.loop-o-test.true
    c.enter.ensures c.compile_row-x.ensures c.leave.ensures c.compile_row-x.auto.list)

pub compile_pick-overflow_sub-apart : goal.compile_pick-overflow_sub-apart
compile_pick-overflow_sub-apart t c =
    let k = all_copied c.loop-o.invariant.copies (omega arith) in
    let some = some_object c.if-objects-eq0.false in
    rw c.next-first.ensures (omega (arith, after_first c.requires.enough refl some k))

pub compile_pick-pick_steps-requires : goal.compile_pick-pick_steps-requires
compile_pick-pick_steps-requires t c =
    let k = all_copied c.loop-o.invariant.copies (omega arith) in
    let some = some_object c.if-objects-eq0.false in
    rw c.next-first.ensures (pick_ok c.requires.enough refl some k _ refl)

pub compile_pick-returns : goal.compile_pick-returns
compile_pick-returns t c =
    let k = all_copied c.loop-o.invariant.copies (omega arith) in
    let some = some_object c.if-objects-eq0.false in
    record { steps = wrote_copies c.requires.enough refl some k (rw c.next-first.ensures) c.pick_steps.ensures; kept = c.loop-o.invariant.kept }

pub compile_row-leaf_step-requires : goal.compile_row-leaf_step-requires
compile_row-leaf_step-requires t c =
    let ok = leaf_ok c.args.task.now.stored (c.decreases, (c.requires.bounds, c.requires.enough)) c.in-Leaf.ensures in
    record { object = ok.0; room = ok.1 }

pub compile_row-any_steps-requires : goal.compile_row-any_steps-requires
compile_row-any_steps-requires t c = any_ok c.args.task.now.stored (c.decreases, (c.requires.bounds, c.requires.enough)) c.in-Any.ensures

pub compile_row-compile_row-x-requires : goal.compile_row-compile_row-x-requires
compile_row-compile_row-x-requires t c = seq_first c.args.task.now.stored (c.decreases, (c.requires.bounds, c.requires.enough)) c.in-Seq.ensures

pub compile_row-compile_row-requires : goal.compile_row-compile_row-requires
compile_row-compile_row-requires t c =
    seq_second c.args.task.now.stored (c.decreases, (c.requires.bounds, c.requires.enough)) c.in-Seq.ensures
    c.compile_row-x.auto.list c.compile_row-x.ensures

pub compile_row-compile_row-x-requires-in-Branch : goal.compile_row-compile_row-x-requires-in-Branch
compile_row-compile_row-x-requires-in-Branch t c =
    rw c.next.ensures (branch_first c.args.task.now.stored (c.decreases, (c.requires.bounds, c.requires.enough)) c.in-Branch.ensures)

pub compile_row-next-requires-in-Branch : goal.compile_row-next-requires-in-Branch
compile_row-next-requires-in-Branch t c =
    let x = rw c.next.ensures at c.compile_row-x-in-Branch.ensures in
    branch_next c.args.task.now.stored (c.decreases, (c.requires.bounds, c.requires.enough)) c.in-Branch.ensures x

pub compile_row-compile_row-y-requires : goal.compile_row-compile_row-y-requires
compile_row-compile_row-y-requires t c =
    let x = rw c.next.ensures at c.compile_row-x-in-Branch.ensures in
    rw c.next-in-Branch.ensures
    (branch_second c.args.task.now.stored (c.decreases, (c.requires.bounds, c.requires.enough)) c.in-Branch.ensures x c.compile_row-x-in-Branch.auto.list)

pub compile_row-branch_steps-requires : goal.compile_row-branch_steps-requires
compile_row-branch_steps-requires t c =
    let x = rw c.next.ensures at c.compile_row-x-in-Branch.ensures in
    let y = rw c.next-in-Branch.ensures at c.compile_row-y.ensures in
    branch_ok c.args.task.now.stored (c.decreases, (c.requires.bounds, c.requires.enough)) c.in-Branch.ensures x
    (c.compile_row-y.auto.list ∙ c.compile_row-x-in-Branch.auto.list) y

pub compile_row-compile_row-x-requires-in-Loop : goal.compile_row-compile_row-x-requires-in-Loop
compile_row-compile_row-x-requires-in-Loop t c =
    rw c.next-in-Loop.ensures (loop_first c.args.task.now.stored (c.decreases, (c.requires.bounds, c.requires.enough)) c.in-Loop.ensures)

pub compile_row-loop_steps-requires : goal.compile_row-loop_steps-requires
compile_row-loop_steps-requires t c =
    let x = rw c.next-in-Loop.ensures at c.compile_row-x-in-Loop.ensures in
    loop_ok c.args.task.now.stored (c.decreases, (c.requires.bounds, c.requires.enough)) c.in-Loop.ensures c.compile_row-x-in-Loop.auto.list x

pub compile_row-compile_pick-requires : goal.compile_row-compile_pick-requires
compile_row-compile_pick-requires t c = pick_first c.args.task.now.stored (c.decreases, (c.requires.bounds, c.requires.enough)) c.in-Pick.ensures

pub compile_row-returns-in-Leaf : goal.compile_row-returns-in-Leaf
compile_row-returns-in-Leaf t c =
    let s = c.in-Leaf.ensures in
    let object = leaf_object c.args.task.now.stored (c.decreases, (c.requires.bounds, c.requires.enough)) s in
    record { steps = wrote_leaf s object c.leaf_step.ensures; kept = refl }

pub compile_row-returns-in-Any : goal.compile_row-returns-in-Any
compile_row-returns-in-Any t c = record { steps = wrote_any c.in-Any.ensures c.any_steps.ensures; kept = refl }

pub compile_row-returns-in-Seq : goal.compile_row-returns-in-Seq
compile_row-returns-in-Seq t c =
    let x = c.compile_row-x.ensures in
    let y = c.compile_row.ensures in
    record { steps = wrote_seq c.in-Seq.ensures x.steps (in_env x.kept y.steps); kept = y.kept ∙ x.kept }

pub compile_row-returns-in-Branch : goal.compile_row-returns-in-Branch
compile_row-returns-in-Branch t c =
    let x = rw c.next.ensures at c.compile_row-x-in-Branch.ensures in
    let y = rw c.next-in-Branch.ensures at c.compile_row-y.ensures in
    record { steps = wrote_branch c.args.from c.in-Branch.ensures x.steps (in_env x.kept y.steps) c.branch_steps.ensures; kept = y.kept ∙ x.kept }

pub compile_row-returns-in-Loop : goal.compile_row-returns-in-Loop
compile_row-returns-in-Loop t c =
    let x = rw c.next-in-Loop.ensures at c.compile_row-x-in-Loop.ensures in
    record { steps = wrote_loop c.args.from c.in-Loop.ensures x.steps c.loop_steps.ensures; kept = x.kept }

pub compile_row-returns-in-Pick : goal.compile_row-returns-in-Pick
compile_row-returns-in-Pick t c = record { steps = wrote_pick c.in-Pick.ensures c.compile_pick.ensures.steps; kept = c.compile_pick.ensures.kept }
