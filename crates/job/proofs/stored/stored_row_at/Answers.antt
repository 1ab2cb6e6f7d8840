use Rattle.std.proofs.Common.{◌+◌, [], get_or, ap, sym, ◌∙◌, arith}
use Rattle.job.specs.Store.{row_at}
use Rattle.job.proofs.StoreLaws.{rows_at}
use Rattle.job.proofs.StoredLaws.{limited}
use Rattle.job.proofs.stored.stored_row_at.Goals as goal

pub overflow_add-first : goal.overflow_add-first
overflow_add-first g c =
    let a = c.args in
    let within = g.met.R.StoredRow.room a.head.counts a.i (limited c.requires.0) c.requires.1 in
    omega (arith, c.first.ensures, within)

pub row_at-requires : goal.row_at-requires
row_at-requires g c =
    let a = c.args in
    let within = g.met.R.StoredRow.room a.head.counts a.i (limited c.requires.0) c.requires.1 in
    (omega (arith, c.first.ensures, within), c.requires.0.size)

pub returns : goal.returns
returns g c =
    let a = c.args in
    let r = g.R.StoredRow in
    let l = a.rows.now in
    c.said.ensures
    ∙ ap r.said (c.row_at.ensures ∙ ap (λ f. row_at l (f + a.i)) c.first.ensures)
    ∙ sym (rows_at r.said l r.first (r.said []) (r.count a.head.counts) a.i c.requires.1)
    ∙ sym (ap (λ rows. get_or rows a.i (r.said [])) (g.met.R.StoredRow.stands a.head l))
