-- What the reader of a list answers, and the list then holds: the numbers, or the line at which the
-- text is refused. "On a refusal nothing is said of the numbers" that the list holds.
use Rattle.std.specs.Prelude.{ℕ, Result, Ok, Err}
use Rattle.arrayvec.specs.ArrayVec.{ArrayVec}
use Rattle.lists.specs.CountedList.{ListOutcome}

abbrev pub listed_as : Result (Unit {0}) ℕ → ArrayVec ℕ → ListOutcome
listed_as (Ok read) list = Ok list.items
listed_as (Err line) list = Err line
