-- The limits of documents 01 and 02. `src/lib.rt` has the same numbers, of costs that of a class.
use Rattle.std.specs.Prelude.{ℕ, suc, ◌+◌, ◌*◌, ◌^◌}

-- "`facts=F`, 0 to 12"
abbrev pub most_facts : ℕ
most_facts = 12

-- how many states so many facts have
abbrev pub most_states : ℕ
most_states = 2 ^ most_facts

-- "`formulas=N`, 1 to 255"
abbrev pub most_formulas : ℕ
most_formulas = 255

-- "`moves=M`, 0 to 64", "cost class 0 to 15, effect count 0 to 16"
abbrev pub most_moves : ℕ
most_moves = 64

abbrev pub last_class : ℕ
last_class = 15

abbrev pub most_move_effects : ℕ
most_move_effects = 16

-- of all moves together
abbrev pub most_effects : ℕ
most_effects = most_moves * most_move_effects

-- "`objects=O`, 0 to 16"
abbrev pub most_objects : ℕ
most_objects = 16

-- "`program=P`, 1 to 128"
abbrev pub most_program : ℕ
most_program = 128

-- "The sixteen class costs"
abbrev pub class_count : ℕ
class_count = suc last_class

-- "A cost may be 0 to 65,535", of a class
abbrev pub most_class_cost : ℕ
most_class_cost = 65535

-- of a move: "its first class, plus the second"
abbrev pub most_cost : ℕ
most_cost = most_class_cost + most_class_cost

-- "At most 256 positions and 1,024 steps."
abbrev pub most_positions : ℕ
most_positions = 256

abbrev pub most_steps : ℕ
most_steps = 1024

-- "`plan=K`, K from 0 to 4,000"
abbrev pub most_entries : ℕ
most_entries = 4000

-- "every plan of up to eight moves"
abbrev pub most_listed : ℕ
most_listed = 8

-- "the judge program's table holds 6,144"
abbrev pub program_table : ℕ
program_table = 6144
