use Rattle.std.proofs.Common.{ℕ, sym}
use Rattle.std.proofs.lemmas.List.{length-replicate}
use Rattle.large_table.proofs.print_cost_of.Goals as goal

pub slice_bounds-print_cost-end : goal.slice_bounds-print_cost-end
slice_bounds-print_cost-end c = sym (length-replicate {A = ℕ} 524288 0)
