use Rattle.std.proofs.Common.{◌+◌, sym, ◌∙◌, ap, subst, arith, drop, rules}
use Rattle.text.specs.Lines.{lines}
use Rattle.text.proofs.LineLaws.{line_within}
use Rattle.job.specs.ReadJob.{refused, read_from, read_job}
use Rattle.reader.specs.Reading.{reading_of}
use Rattle.reader.proofs.FormedLaws.{FormedSoFar, taken_formed, begun_formed}
use Rattle.reader.proofs.ReadLaws.{read_on, read_refused, read_ended, reason_of_lem, numbers_of_lem, right_of, room_of, number_of_positive}
use Rattle.reader.proofs.reading.read_job.Goals as goal

pub loop-at-init : goal.loop-at-init
unfolding read_job
loop-at-init c =
    let e = c.start-state.ensures c.args.rows.now in
    (search rules, search rules, c.requires, subst FormedSoFar (sym e) begun_formed, ap (λ q. read_from 0 q (lines c.args.text.now)) (sym e))

pub slice_bounds-read_line-start : goal.slice_bounds-read_line-start
slice_bounds-read_line-start c =
    omega (arith, c.line_end-end.ensures, (line_within c.args.text.now c.loop-at.at c.loop-at-test.true).0)

pub slice_bounds-read_line-end : goal.slice_bounds-read_line-end
slice_bounds-read_line-end c =
    omega (arith, c.line_end-end.ensures, (line_within c.args.text.now c.loop-at.at c.loop-at-test.true).1)

pub check_line-requires : goal.check_line-requires
check_line-requires c = (room_of c.loop-at.state c.loop-at.rows c.loop-at.invariant.3).facts

pub returns-in-Err : goal.returns-in-Err
returns-in-Err c =
    let l = c.loop-at in
    let t = c.args.text.now in
    let e = reason_of_lem l.state l.rows _ c.read_line-line.result c.read_line-line.ensures in
    let g = c.in-Err.ensures.reason ∙ e in
    ap (λ k. refused k (l.n + 1)) g
    ∙ sym (read_refused t l.at _ l.n (reading_of l.state l.rows) c.loop-at-test.true
    c.line_end-end.ensures l.invariant.4 (λ z. number_of_positive c.in-Err.reason (g ∙ z)))

pub take_line-state-requires : goal.take_line-state-requires
take_line-state-requires c =
    record { room = room_of c.loop-at.state c.loop-at.rows c.loop-at.invariant.3; rows_len = c.loop-at.invariant.2 }

pub loop-at-smaller : goal.loop-at-smaller
loop-at-smaller c =
    omega (
      arith,
      c.line_end-end.ensures,
      (line_within c.args.text.now c.loop-at.at c.loop-at-test.true).0,
      (line_within c.args.text.now c.loop-at.at c.loop-at-test.true).1,
    )

pub loop-at-preserved : goal.loop-at-preserved
loop-at-preserved c =
    let l = c.loop-at in
    let t = c.args.text.now in
    let r = c.in-Ok.numbers in
    let some = c.in-Ok.ensures.numbers in
    let e = reason_of_lem l.state l.rows _ c.read_line-line.result c.read_line-line.ensures in
    let z = sym c.in-Ok.ensures.reason in (
      omega (arith, c.line_end-end.ensures, (line_within c.args.text.now c.loop-at.at c.loop-at-test.true).1),
      omega (arith, l.invariant.1, c.line_end-end.ensures, (line_within c.args.text.now c.loop-at.at c.loop-at-test.true).0),
      omega (arith, l.invariant.2, c.take_line-state.auto.rows),
      subst FormedSoFar (sym c.take_line-state.ensures)
          (taken_formed (reading_of l.state l.rows) _ (right_of l.state l.rows _ c.read_line-line.result c.read_line-line.ensures r some z) l.invariant.3),
      read_on t l.at _ l.n (reading_of l.state l.rows) c.loop-at-test.true c.line_end-end.ensures l.invariant.4 _
          (numbers_of_lem l.state l.rows _ c.read_line-line.result c.read_line-line.ensures r some) (sym e ∙ z)
          ∙ ap (λ q. read_from (l.n + 1) q (lines (drop c.line_end-end.result t))) (sym c.take_line-state.ensures),
    )

pub returns : goal.returns
returns c =
    c.finish.ensures c.loop-at.rows
    ∙ sym (read_ended c.args.text.now c.loop-at.at c.loop-at.n
    (reading_of c.loop-at.state c.loop-at.rows) c.loop-at-test.false c.loop-at.invariant.4)
