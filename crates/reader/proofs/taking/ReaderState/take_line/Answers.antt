use Rattle.std.proofs.Common.{rules, sym, ◌∙◌}
use Rattle.job.specs.declared.line.Line.TheVariants.{One, Of, End}
use Rattle.reader.proofs.AddLaws.{taken_of}
use Rattle.reader.proofs.taking.ReaderState.take_line.Goals as goal

pub returns-in-One : goal.returns-in-One
returns-in-One c =
    let a = c.args in
    c.take_one.ensures a.rows.now ∙ sym (taken_of a.self a.rows.now a.numbers (One _) c.in-One.is (search rules))

pub returns-in-Of : goal.returns-in-Of
returns-in-Of c =
    let a = c.args in
    c.take_row.ensures ∙ sym (taken_of a.self a.rows.now a.numbers (Of _) c.in-Of.is (search rules))

pub returns-in-End : goal.returns-in-End
returns-in-End c =
    let a = c.args in
    sym (taken_of a.self a.rows.now a.numbers End c.in-End.is (search rules))
