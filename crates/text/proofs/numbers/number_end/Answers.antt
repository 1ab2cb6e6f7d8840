use Rattle.std.proofs.Common.{arith}
use Rattle.text.proofs.NumberLaws.{feed_last}
use Rattle.text.proofs.numbers.number_end.Goals as goal

pub returns-in-10 : goal.returns-in-10
returns-in-10 c =
    let a = c.args in
    record { reads = feed_last a.out.now a.k a.n a.b c.requires (λ e. omega arith) c.in-10.is c.if-due-eq1.true; within = omega arith }
