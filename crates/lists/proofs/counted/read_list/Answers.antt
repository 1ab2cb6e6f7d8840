use Rattle.std.proofs.Common.{rules, arith, ◌≤◌, length, ◌∙◌, sym, length-take-le}
use Rattle.std.proofs.lemmas.Result.{err_from_is_err_and}
use Rattle.text.proofs.LineLaws.{length_le}
use Rattle.lists.proofs.ListLaws.{count_few, err_line, first_right, first_wrong}
use Rattle.lists.proofs.ListTold.{list_few}
use Rattle.lists.proofs.counted.read_list.Goals as goal

pub slice_bounds-read_count-end : goal.slice_bounds-read_count-end
slice_bounds-read_count-end g c =
    let h : c.line_end-end.result ≤ length c.args.text.now = omega (arith, c.line_end-end.ensures, length_le c.args.text.now) in
    sym (length-take-le _ _ h)

pub returns-in_err-count-clause-is : goal.returns-in_err-count-clause-is
returns-in_err-count-clause-is g c =
    let p = err_from_is_err_and c.from_residual.result c.from_residual.ensures.1 in
    let e = c.in_err-count.ensures in
    rw (p.1, p.2, err_line c.read_count.result _ _ e.value e.ok_part)
    (first_wrong _ _ _ _ _ (c.line_end-end.ensures ∙ omega arith) (sym c.read_count.ensures ∙ e.ok_part))

pub read_entries-requires : goal.read_entries-requires
read_entries-requires g c = (
  search rules,
  (
    omega (arith, c.requires, c.from.ensures, count_few _ _ _ _ (sym c.read_count.ensures ∙ c.in_ok-count.ensures.ok_part)),
    omega (arith, c.line_end-end.ensures, length_le c.args.text.now),
  ),
)

pub returns-clause-is : goal.returns-clause-is
returns-clause-is g c =
    first_right _ _ _ _ _ (c.line_end-end.ensures ∙ omega arith) _ (sym c.read_count.ensures ∙ c.in_ok-count.ensures.ok_part)
    (rw c.from.ensures at c.read_entries.ensures)

pub returns-clause-few : goal.returns-clause-few
returns-clause-few g c =
    list_few _ _ _ _ c.read_entries.result _
    (first_right _ _ _ _ _ (c.line_end-end.ensures ∙ omega arith) _ (sym c.read_count.ensures ∙ c.in_ok-count.ensures.ok_part)
    (rw c.from.ensures at c.read_entries.ensures))
