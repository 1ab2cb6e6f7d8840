use Prim.Native.Nat.{◌-◌, ◌≤◌}
use mathlib.Core.Path.{◌≡◌}
use lib.ListN.{length, drop}
use Rattle.text.specs.Lines.{lines}
use Rattle.job.specs.ReadJob.{read_from, read_job}
use Rattle.job.specs.Store.{store_size}
use Rattle.reader.specs.Reading.{reading_of}
use Rattle.reader.proofs.FormedLaws.{FormedSoFar}
use Rattle.reader.proofs.reading.read_job.Given as goal

abbrev pub invariant-loop-at : goal.invariant-loop-at
invariant-loop-at l =
    (l.at ≤ length l.text) × (l.n ≤ l.at) × (length l.rows ≡ store_size) × FormedSoFar (reading_of l.state l.rows)
    × (read_job l.text ≡ read_from l.n (reading_of l.state l.rows) (lines (drop l.at l.text)))

abbrev pub decreases-loop-at : goal.decreases-loop-at
decreases-loop-at l = length l.text - l.at
