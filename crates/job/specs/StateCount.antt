-- "A world is a whole number; its bit i (worth 2^i) says that fact i is true": so many states
-- (document 01: worlds) have F facts.
use Rattle.std.specs.Prelude.{ℕ, ◌^◌}

abbrev pub state_count : ℕ → ℕ
state_count facts = 2 ^ facts
