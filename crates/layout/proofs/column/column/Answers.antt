use Rattle.std.proofs.Common.{length, ap, arith}
use Rattle.text.proofs.PrintedDecimal.{printed_decimal}
use Rattle.layout.proofs.ColumnLaws.{column_set}
use Rattle.layout.proofs.column.column.Goals as goal

pub write_digits-start-requires : goal.write_digits-start-requires
write_digits-start-requires c = (omega (arith, ap length (printed_decimal c.args.n c.ranges.n.fits)), omega arith)

pub returns : goal.returns
returns c = column_set _ _ _ _ c.ranges.n.fits c.write_digits-start.auto.buf c.write_digits-start.ensures.start c.write_digits-start.ensures.written (c.fill.ensures.after (λ b e. e))
