use Rattle.std.proofs.Common.{◌∙◌, ◌+◌, sym, ap, add-one}
use Rattle.lists.proofs.ListLaws.{bound_is, count_none, count_read}
use Rattle.lists.proofs.counted.read_count.Goals as goal

pub returns-in_err-count : goal.returns-in_err-count
returns-in_err-count c = rw c.from_residual.ensures (sym (count_none _ _ _ (bound_is _ _ (ap (λ k. k + 1) c.from.ensures ∙ add-one _) (sym c.in_err-count.ensures))))

pub returns : goal.returns
returns c = c.then_some.ensures ∙ count_read _ _ _ _ (bound_is _ _ (ap (λ k. k + 1) c.from.ensures ∙ add-one _) (sym c.in_ok-count.ensures))
