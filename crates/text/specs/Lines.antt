-- Lines of a text, a line's key, and the value after it.
use Rattle.std.specs.Prelude.{ℕ, suc, ◌+◌, Bool, false, cond, List, [], ◌∷◌, eqb, length, drop}

-- "each ended by a line feed (byte 10)": how many bytes the first line has, its line feed among
-- them; all of them where there is none
unfoldable pub line_length : List ℕ → ℕ
line_length [] = 0
line_length (b ∷ t) = cond (eqb b 10) 1 (suc (line_length t))

-- lines with one byte more in front of the first
abbrev pub onto : ℕ → List (List ℕ) → List (List ℕ)
onto b [] = (b ∷ []) ∷ []
onto b (l ∷ ls) = (b ∷ l) ∷ ls

-- the lines of a text, each with its line feed; bytes after the last line feed are one line more,
-- which lacks it
unfoldable pub lines : List ℕ → List (List ℕ)
lines [] = []
lines (b ∷ t) = cond (eqb b 10) ((10 ∷ []) ∷ lines t) (onto b (lines t))

-- "the key is compared byte for byte": a line begins with the key and an equals sign (byte 61)
unfoldable pub has_key : List ℕ → List ℕ → Bool
has_key [] [] = false
has_key [] (b ∷ l) = eqb b 61
has_key (k ∷ ks) [] = false
has_key (k ∷ ks) (b ∷ l) = cond (eqb b k) (has_key ks l) false

-- "the value after the equals sign", with the line feed; nothing where the line has another key
unfoldable pub value_of : List ℕ → List ℕ → List ℕ
value_of key line = cond (has_key key line) (drop (length key + 1) line) []
