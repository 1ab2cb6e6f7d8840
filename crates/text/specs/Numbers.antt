-- "A value is one or more decimal numbers 0 to 65,535, no leading zeros, commas between, no
-- spaces."
use Rattle.std.specs.Prelude.{ℕ, ◌+◌, ◌-◌, ◌*◌, Bool, cond, ◌&&◌, eqb, ltb, leb, length}
use mathlib.Core.List.{List, [], ◌∷◌, ◌++◌, foldl}
use Rattle.std.specs.Prelude.{Option, None, Some}

-- a value as far as it was read: before a number's first digit, with the numbers before it; within
-- a number; past the line feed; of wrong form
pub data PartialValue : Type 0 where
  start : List ℕ → PartialValue
  digits : List ℕ → ℕ → PartialValue
  done : List ℕ → PartialValue
  broken : PartialValue

-- bytes 48 to 57
abbrev pub is_digit : ℕ → Bool
is_digit b = leb 48 b && leb b 57

-- the first digit of a number
abbrev pub first_digit : List ℕ → ℕ → PartialValue
first_digit l b = cond (is_digit b) (digits l (b - 48)) broken

-- a further digit: "no leading zeros", "0 to 65,535"
abbrev pub more_digits : List ℕ → ℕ → ℕ → PartialValue
more_digits l n b = cond (eqb n 0) broken (cond (ltb (n * 10 + (b - 48)) 65536) (digits l (n * 10 + (b - 48))) broken)

-- what ends a number, of `want` in all: a comma (byte 44) where more are due, the line feed after
-- the last
abbrev pub number_end : ℕ → List ℕ → ℕ → ℕ → PartialValue
number_end want l n b =
    cond (eqb b 44) (cond (ltb (length l + 1) want) (start (l ++ (n ∷ []))) broken)
    (cond (eqb b 10) (cond (eqb (length l + 1) want) (done (l ++ (n ∷ []))) broken) broken)

-- one byte more
unfoldable pub byte_read : ℕ → PartialValue → ℕ → PartialValue
byte_read want (start l) b = first_digit l b
byte_read want (digits l n) b = cond (is_digit b) (more_digits l n b) (number_end want l n b)
byte_read want (done l) b = broken
byte_read want broken b = broken

abbrev pub numbers_outcome : PartialValue → Option (List ℕ)
numbers_outcome (start l) = None
numbers_outcome (digits l n) = None
numbers_outcome (done l) = Some l
numbers_outcome broken = None

-- the numbers of a value that is to hold `want` of them, or none where its form is wrong
unfoldable pub numbers : ℕ → List ℕ → Option (List ℕ)
numbers want value = numbers_outcome (foldl (byte_read want) (start []) value)
