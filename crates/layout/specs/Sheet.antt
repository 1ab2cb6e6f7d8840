-- The sheet of a plan (document 02: shift sheet), line by line and page by page.
use Rattle.std.specs.Prelude.{ℕ, suc, ◌+◌, ◌-◌, ◌*◌, ◌/◌, ◌≤◌, length, replicate}
use Rattle.std.specs.Prelude.{None, Some}
use mathlib.Core.List.{List, [], ◌∷◌, ◌++◌, map, flatten}
use Rattle.text.specs.Written.{decimal}
use Rattle.semantics.specs.Domain.{Domain}
use Rattle.layout.specs.Column.{spaces, column}
use Rattle.layout.specs.declared.line.SheetLine.{SheetLine}

-- "lines of exactly 30 bytes and a line feed"
abbrev pub line_width : ℕ
line_width = 30

abbrev pub line_size : ℕ
line_size = line_width + 1

-- "A page has 60 lines"
abbrev pub page_size : ℕ
page_size = 60

-- "row from 1 in 5 columns, two spaces, move in 3, two spaces, cost in 7, two spaces, running total
-- in 9", and the line feed (byte 10)
unfoldable pub line_bytes : SheetLine → List ℕ
line_bytes l =
    column 5 l.row ++ spaces 2 ++ column 3 l.action ++ spaces 2 ++ column 7 l.cost ++ spaces 2 ++ column 9 l.total ++ (10 ∷ [])

-- each number has room in its column, so that none is shifted
pub record FitsColumns (l : SheetLine) : Type 0 where
  pub row : length (decimal l.row) ≤ 5
  pub action : length (decimal l.action) ≤ 3
  pub cost : length (decimal l.cost) ≤ 7
  pub total : length (decimal l.total) ≤ 9

-- the line of a move in the state before it: n lines stand above, and their costs sum to `total`
abbrev pub line_at : Domain → ℕ → ℕ → ℕ → ℕ → SheetLine
line_at D s n total m = record { row = suc n; action = m; cost = D.cost m s; total = total + D.cost m s }

-- a line for each move from state s on, up to the first that is not applicable
unfoldable pub plan_lines_from : Domain → ℕ → ℕ → ℕ → List ℕ → List SheetLine
plan_lines_from D s n total [] = []
plan_lines_from D s n total (m ∷ ms) =
    line_at D s n total m ∷ elim (D.successor m s) [ None ↦ [] | Some t ↦ plan_lines_from D t (suc n) (total + D.cost m s) ms ]

-- of a plan, from the start on
abbrev pub plan_lines : Domain → List ℕ → List SheetLine
plan_lines D ms = plan_lines_from D D.start 0 0 ms

-- how many lines the pages of so many rows have: those of each page that is begun; "an empty plan
-- has no page"
abbrev pub page_lines : ℕ → ℕ
page_lines n = (n + (page_size - 1)) / page_size * page_size

-- a line of spaces
unfoldable pub blank_line : List ℕ
blank_line = spaces line_width ++ (10 ∷ [])

-- "the last page filled with lines of spaces"
unfoldable pub paged_lines : List (List ℕ) → List (List ℕ)
paged_lines ls = ls ++ replicate (page_lines (length ls) - length ls) blank_line

-- the bytes of the sheet of a list of moves
unfoldable pub sheet_of : Domain → List ℕ → List ℕ
sheet_of D ms = flatten (paged_lines (map line_bytes (plan_lines D ms)))

-- how many there are, of so many moves
abbrev pub sheet_size : ℕ → ℕ
sheet_size n = page_lines n * line_size
