use Rattle.std.proofs.Common.{◌≡◌, rules, tests, sym, ◌∙◌}
use Rattle.std.proofs.lemmas.Iterator.{YieldsList-from_slice}
use Rattle.std.proofs.lemmas.Iterator.Consumers.{YieldsList-from_enumerate}
use Rattle.std.proofs.lemmas.Iterator.Search.{all_from_yields_List}
use borrow.Author.Tests.{ne_eqb}
use Rattle.job.proofs.RowLaws.{right_at, within_placed, within_uneven}
use Rattle.job.proofs.fields.within.Goals as goal

pub returns-then-fields-numbers : goal.returns-then-fields-numbers
returns-then-fields-numbers c =
    let a = c.args in
    all_from_yields_List (right_at a.counts a.numbers.now) c.all.new.self _ c.all.result c.all.ensures.ran
    (YieldsList-from_enumerate (YieldsList-from_slice a.fields.now cc) cc)
    (λ x b q k. let below : b ≡ right_at a.counts a.numbers.now (x.0, x.1.now) = search (rules, tests) in (search (rules, tests), below))
    ∙ within_placed a.counts a.fields.now a.numbers.now c.if-fields-numbers.true

pub returns-else-fields-numbers : goal.returns-else-fields-numbers
returns-else-fields-numbers c =
    let a = c.args in
    ne_eqb _ _ c.if-fields-numbers.false ∙ sym (within_uneven a.counts a.fields.now a.numbers.now c.if-fields-numbers.false)
