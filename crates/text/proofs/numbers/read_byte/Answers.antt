use Rattle.std.proofs.Common.{sym, ◌∙◌}
use Rattle.text.proofs.NumberLaws.{step_start, step_digit, step_end, step_other}
use Rattle.text.proofs.numbers.read_byte.Goals as goal

pub returns-in-Start : goal.returns-in-Start
returns-in-Start c = step_start _ _ c.args.b c.args.out.now c.requires _ c.in-Start.is c.first_digit.ensures

pub returns-in-Digits : goal.returns-in-Digits
returns-in-Digits c =
    step_digit _ _ c.args.b c.args.out.now c.requires _ _ c.in-Digits.is (sym c.is_ascii_digit.ensures.value ∙ c.if-is_ascii_digit.true) c.more_digits.ensures

pub returns-in-Digits-2 : goal.returns-in-Digits-2
returns-in-Digits-2 c =
    step_end _ _ c.args.b c.args.out.now c.requires _ _ _ c.in-Digits-2.is (sym c.is_ascii_digit.ensures.value ∙ c.if-is_ascii_digit.false) c.number_end.ensures

pub returns-in-Done : goal.returns-in-Done
returns-in-Done c = step_other _ c.args.b c.args.out.now c.in-Done.is
