-- Room for what a program prints, a sheet apart. `src/room.rt` has the same number.
use Rattle.std.specs.Prelude.{ℕ}

abbrev pub room : ℕ
room = 90112
