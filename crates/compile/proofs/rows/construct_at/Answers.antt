use Rattle.job.specs.Store.{row_in}
use Rattle.compile.proofs.ProgramLaws.{row_says}
use Rattle.compile.proofs.rows.construct_at.Goals as goal

pub returns : goal.returns
returns c =
    let row = c.program_row_at in
    rw c.from.ensures (row_says c.args.task.now.stored c.args.i c.requires (row_in row.result) row.ensures)
