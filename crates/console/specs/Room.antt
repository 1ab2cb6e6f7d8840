-- How many bytes a buffer has that may be left out.
use Rattle.std.specs.Prelude.{ℕ, Option, None, Some, List, length}
use Rattle.std.specs.Borrow.{MutBor}

abbrev pub room_of : Option (MutBor (List ℕ)) → ℕ
room_of None = 0
room_of (Some buf) = length buf.now
