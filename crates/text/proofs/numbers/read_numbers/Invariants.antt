use Rattle.std.proofs.Common.{◌≡◌, ◌≤◌, [], length, drop}
use mathlib.Core.List.{foldl}
use Rattle.text.specs.Numbers.{start, byte_read}
use Rattle.text.specs.Progress.{partial_of, complete_count}
use Rattle.text.proofs.numbers.read_numbers.Given as goal

abbrev pub invariant-loop-b : goal.invariant-loop-b
invariant-loop-b l =
    (complete_count l.p ≤ length l.out)
    × (foldl (byte_read (length l.initial.out)) (start []) l.value
    ≡ foldl (byte_read (length l.initial.out)) (partial_of l.p l.out) (drop l.b-index l.value))
