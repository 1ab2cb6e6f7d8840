use Rattle.std.proofs.Common.{◌∙◌}
use Rattle.lists.proofs.ListLaws.{entry_found, entry_none}
use Rattle.lists.proofs.counted.read_entry.Goals as goal

pub returns-then-not-read_numbers : goal.returns-then-not-read_numbers
returns-then-not-read_numbers c = entry_none _ _ _ _ _ _ c.value-value.ensures c.read_numbers.ensures c.if-not-read_numbers.true

pub returns : goal.returns
returns c = c.then_some.ensures ∙ rw c.from.ensures (entry_found _ _ _ _ _ _ c.value-value.ensures c.read_numbers.ensures c.if-not-read_numbers.false)
