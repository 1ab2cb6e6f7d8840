use mathlib.Core.Path.{refl}
use native.Mathlib.Omega.{arith}
use Rattle.job.proofs.StoredLaws.{limited, some_row}
use Rattle.compile.proofs.FitLaws.{all_fit, all_written}
use Rattle.compile.proofs.program.compile.Goals as goal

pub overflow_sub-last : goal.overflow_sub-last
overflow_sub-last c =
    omega (arith, some_row c.args.task.now.stored)

pub compile_row-requires : goal.compile_row-requires
compile_row-requires c =
    let h = c.args.task.now.stored in
    let g = some_row h in
    rw c.new-env.ensures (record {
      bounds = (omega (arith, g), omega (arith, g, (limited h).program));
      enough = all_fit c.args.task.now.head c.args.task.now.rows.now c.requires.scoped refl c.requires.fits.0 c.requires.fits.1;
    })

pub returns : goal.returns
returns c =
    all_written c.args.task.now.head c.args.task.now.rows.now c.new-env.ensures c.compile_row.ensures.steps
