use Rattle.std.proofs.Common.{arith, ◌∙◌, sym}
use Rattle.std.proofs.lemmas.Result.{err_from_is_err_and}
use Rattle.lists.proofs.ListLaws.{bound_is, line_fits, entry_more, entry_wrong, entry_extra, entries_all, err_line}
use Rattle.lists.proofs.counted.read_entries.Goals as goal

pub slice_bounds-read_entry-end : goal.slice_bounds-read_entry-end
slice_bounds-read_entry-end g c = line_fits c.loop-n.invariant c.line_end-end.ensures

pub returns-in_err-number : goal.returns-in_err-number
returns-in_err-number g c =
    let p = err_from_is_err_and c.from_residual.result c.from_residual.ensures.1 in
    let e = c.in_err-number.ensures in
    rw (p.1, p.2, err_line c.read_entry.result _ _ e.value e.ok_part)
    (sym (entry_wrong c.loop-n.invariant c.line_end-end.ensures (omega arith)
    (bound_is _ _ c.bound_at-bound.ensures (sym c.read_entry.ensures ∙ e.ok_part))))

pub loop-n-preserved : goal.loop-n-preserved
loop-n-preserved g c =
    rw c.push.ensures.items (entry_more c.loop-n.invariant c.line_end-end.ensures _ (omega arith)
    (bound_is _ _ c.bound_at-bound.ensures (sym c.read_entry.ensures ∙ c.in_ok-number.ensures.ok_part)))

pub returns-then-at-text : goal.returns-then-at-text
returns-then-at-text g c = sym (entry_extra c.loop-n.invariant (omega arith) c.if-at-text.true)

pub returns : goal.returns
returns g c = sym (entries_all c.loop-n.invariant (omega arith) c.if-at-text.false)
