-- Texts of a counted list: a line `title=N`, then N lines `key=number`.
use Rattle.std.specs.Prelude.{ℕ, zero, suc, ◌+◌, cond, Option, None, Some, Result, Ok, Err, List, [], ◌∷◌, ◌++◌, map, eqb, ltb, leb, length, get_or}
use mathlib.Core.List.{flatten}
use Rattle.text.specs.Lines.{lines, value_of}
use Rattle.text.specs.Numbers.{numbers}
use Rattle.text.specs.Written.{line_text}
use Rattle.lists.specs.declared.counted.Ranges.{Ranges}

-- the numbers of a list, or the line at which its text is refused
abbrev pub ListOutcome : Type 0
ListOutcome = Result (List ℕ) ℕ

-- number i of a list is below this
abbrev pub bound_at : Ranges → ℕ → ℕ
bound_at r i = cond (eqb i 0) r.first r.rest

abbrev pub below : ℕ → Option (List ℕ) → Option ℕ
below bound None = None
below bound (Some l) = cond (ltb (get_or l 0 0) bound) (Some (get_or l 0 0)) None

-- the one number of a line with this key, where it is below a bound
unfoldable pub entry_in : List ℕ → ℕ → List ℕ → Option ℕ
entry_in key bound line = below bound (numbers 1 (value_of key line))

-- the lines after the first: the numbers read so far, and how many are due. "A missing line's place
-- is one past the last."
unfoldable pub read_entries : List ℕ → (ℕ → ℕ) → List ℕ → ℕ → List (List ℕ) → ListOutcome
read_entries key bound got zero [] = Ok got
read_entries key bound got (suc due) [] = Err (length got + 2)
read_entries key bound got zero (line ∷ rest) = Err (length got + 2)
read_entries key bound got (suc due) (line ∷ rest) = elim (entry_in key (bound (length got)) line) [
  | None ↦ Err (length got + 2)
  | Some v ↦ read_entries key bound (got ++ (v ∷ [])) due rest
]

-- the first line says how many there are, of at least so many
abbrev pub at_least : ℕ → Option ℕ → Option ℕ
at_least least None = None
at_least least (Some n) = cond (leb least n) (Some n) None

unfoldable pub count_in : List ℕ → Ranges → List ℕ → Option ℕ
count_in title r line = at_least r.least (entry_in title (suc r.most) line)

unfoldable pub read_lines : List ℕ → List ℕ → Ranges → List (List ℕ) → ListOutcome
read_lines title key r [] = Err 1
read_lines title key r (line ∷ rest) = elim (count_in title r line) [
  | None ↦ Err 1
  | Some count ↦ read_entries key (bound_at r) [] count rest
]

unfoldable pub read_list : List ℕ → List ℕ → Ranges → List ℕ → ListOutcome
read_list title key r text = read_lines title key r (lines text)

-- a list as text
abbrev pub entry_lines : List ℕ → List ℕ → List (List ℕ)
entry_lines key es = map (λ e. line_text key (e ∷ [])) es

abbrev pub list_text : List ℕ → List ℕ → List ℕ → List ℕ
list_text title key es = line_text title (length es ∷ []) ++ flatten (entry_lines key es)
