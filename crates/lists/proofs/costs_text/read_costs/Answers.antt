use Rattle.std.proofs.Common.{Ok, ◌∙◌, sym, ap}
use Rattle.std.proofs.lemmas.Result.{err_from_is_err_and, IfOk-at_ok}
use Rattle.text.specs.Bytes.{bytes}
use Rattle.lists.proofs.ListTold.{costs_told}
use Rattle.lists.proofs.costs_text.read_costs.Goals as goal

pub returns-in_err-read_list : goal.returns-in_err-read_list
unfolding bytes
returns-in_err-read_list c =
    let p = err_from_is_err_and c.from_residual.result c.from_residual.ensures.1 in
    rw (p.1, p.2) c.in_err-read_list.ensures.is

pub unwrap-requires : goal.unwrap-requires
unfolding bytes
unwrap-requires c = c.into_inner.ensures.variant.1 (costs_told _ _ (sym c.in_ok-read_list.ensures.is)).count

pub returns : goal.returns
unfolding bytes
returns c = ap Ok (IfOk-at_ok _ c.unwrap.ensures c.into_inner.ensures.ok) ∙ c.in_ok-read_list.ensures.is
