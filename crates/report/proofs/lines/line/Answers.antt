use Rattle.std.proofs.Common.{arith, ◌++◌}
use Rattle.text.specs.Written.{line_text}
use Rattle.report.proofs.LineLaws.{first_put, number_put}
use Rattle.report.proofs.lines.line.Goals as goal

pub loop-n-init : goal.loop-n-init
loop-n-init c = record {
  text = first_put _ _ _ c.requires.some c.push_str.ensures.bytes c.push_str-2.ensures.bytes c.number.ensures.text;
  short = omega arith;
}

pub loop-n-preserved : goal.loop-n-preserved
loop-n-preserved c = record {
  text =
      number_put (c.args.out.now.bytes ++ line_text c.args.key.now c.args.numbers.now) _ _ _ c.loop-n.invariant.text c.loop-n-test.true
      c.push_str-in-loop-n.ensures.bytes c.number-in-loop-n.ensures.text;
  short = omega arith;
}
