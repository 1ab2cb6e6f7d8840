-- Which texts are given, as C's number says it.
use Rattle.std.specs.Prelude.{ℕ, ◌%◌, eqb}
use Rattle.load.specs.declared.request.Given.{Given}

-- bit 0 says that a costs text is
abbrev pub given_of : ℕ → Given
given_of n = record { costs = eqb (n % 2) 1 }
