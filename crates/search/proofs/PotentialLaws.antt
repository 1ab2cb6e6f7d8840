-- What falls with each store and each sweep.
-- Assumes nothing.
use Rattle.std.proofs.Common.{◌≡◌, ℕ, ◌+◌, ◌-◌, ◌<◌, List, length, get_or, set, arith}
use Rattle.semantics.specs.CostTable.{unreached}
use Rattle.semantics.proofs.Totals.{total_but, total_set}
use Rattle.semantics.proofs.CellLaws.{sum_falls}
use Rattle.queue.specs.Queue.{Lowered}
use Rattle.search.specs.Sweeps.{potential}

abbrev gap : ℕ → ℕ
gap x = unreached - x

-- an entry lowered, and then a key
pub store_falls : (n : ℕ) (T queue queue' : List ℕ) (v x t y : ℕ) → v < length T → x < get_or T v 0 → t < n → Lowered t y queue queue'
    → potential n (set T v x) queue' < potential n T queue
store_falls n T queue queue' v x t y room less inside low =
    omega (arith, sum_falls T v x room less, total_but gap queue queue' t n inside (λ k h e. low.others k e))

-- a key taken back, and one set
pub key_gap : (n : ℕ) (T queue : List ℕ) (s k : ℕ) → s < length queue → s < n
    → potential n T (set queue s k) + (unreached - get_or queue s 0) ≡ potential n T queue + (unreached - k)
key_gap n T queue s k room inside = omega (arith, total_set gap queue s k n room inside)
