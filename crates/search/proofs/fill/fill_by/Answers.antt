use Rattle.std.proofs.Common.{ap, length, sym, ◌∙◌, rules}
use Rattle.std.proofs.Math.ListN.{length-replicate}
use Rattle.search.proofs.FillLaws.{table_starts, table_fills, filled_as}
use Rattle.search.proofs.fill.fill_by.Goals as goal

pub of-table-requires-clause-keys : goal.of-table-requires-clause-keys
of-table-requires-clause-keys c = ap length c.requires.keys ∙ length-replicate _ _

pub settle-requires : goal.settle-requires
settle-requires c =
    let t = c.of-table.ensures in
    let s = c.start.ensures in
    table_starts c.args.job.now c.args.costs.now c.requires.room (rw c.args.job.now.counted at c.clear.ensures) t.job t.costs (t.queue ∙ c.requires.keys)
    s.costs s.queue s.keeps

pub returns : goal.returns
returns c =
    let t = c.of-table.ensures in
    let s = c.start.ensures in
    let x = c.settle.ensures in
    let filled = table_fills c.args.job.now c.args.costs.now c.requires.room (rw c.args.job.now.counted at c.clear.ensures) t.job t.costs
    (t.queue ∙ c.requires.keys) s.costs s.queue s.keeps x.exhausted in
    let same = sym (x.keeps.same_reference ∙ s.keeps.same_reference ∙ t.same_reference) in
    filled_as filled _ (search (rules, same))
