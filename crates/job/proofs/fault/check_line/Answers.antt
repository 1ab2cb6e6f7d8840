use Rattle.std.proofs.Common.{rules, sym, ◌∙◌}
use Rattle.std.proofs.lemmas.Result.{err_from_is_err_and}
use Rattle.job.proofs.FaultLaws.{fault_of, fault_none}
use Rattle.job.proofs.fault.check_line.Goals as goal

pub returns-in_default-clause-reason : goal.returns-in_default-clause-reason
returns-in_default-clause-reason c = sym (fault_none c.args.next c.args.counts (search rules))

pub returns-in_err-check_numbers-clause-reason : goal.returns-in_err-check_numbers-clause-reason
returns-in_err-check_numbers-clause-reason c =
    let p = err_from_is_err_and c.from_residual.result c.from_residual.ensures.1 in
    rw (p.1, p.2)
    (c.in_err-check_numbers.ensures ∙ sym (fault_of c.args.next c.args.counts c.in-Some.numbers c.in-Some.is (search rules)))

pub returns-clause-reason : goal.returns-clause-reason
returns-clause-reason c =
    c.in_ok-check_numbers.ensures
    ∙ sym (fault_of c.args.next c.args.counts c.in-Some.numbers c.in-Some.is (search rules))
