-- Numbers and lines as text: "decimal numbers 0 to 65,535, no leading zeros, commas between", ended
-- by the line feed.
use Rattle.std.specs.Prelude.{ℕ, zero, suc, ◌+◌, ◌/◌, ◌%◌, cond, List, [], ◌∷◌, ◌++◌, ltb}

-- a number's decimal digits, the last `most` of them
unfoldable pub digits_within : ℕ → ℕ → List ℕ
digits_within zero n = []
digits_within (suc most) n = cond (ltb n 10) ((48 + n) ∷ []) (digits_within most (n / 10) ++ ((48 + n % 10) ∷ []))

-- all of them: a number has no more digits than one more than itself
abbrev pub decimal : ℕ → List ℕ
decimal n = digits_within (suc n) n

unfoldable pub written : List ℕ → List ℕ
written [] = 10 ∷ []
written (n ∷ []) = decimal n ++ (10 ∷ [])
written (n ∷ m ∷ ns) = decimal n ++ (44 ∷ written (m ∷ ns))

-- "Lines are key=value": a line with this key and these numbers
abbrev pub line_text : List ℕ → List ℕ → List ℕ
line_text key numbers = key ++ (61 ∷ written numbers)
