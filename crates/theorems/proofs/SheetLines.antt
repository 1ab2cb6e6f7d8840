-- The lines of a sheet's text: each is whole, and there are as many as whole pages have.
-- Assumes nothing.
use Prim.Native.Nat.{ℕ, zero, suc, ◌-◌, ◌≤◌}
use mathlib.Core.Path.{◌≡◌, refl, sym, ◌∙◌, ap, subst}
use mathlib.Core.Bool.{true}
use Rattle.std.specs.Prelude.{Some}
use mathlib.Core.List.{List, [], ◌∷◌, ◌++◌, map}
use native.Mathlib.Omega.{arith}
use lib.ListN.{length, replicate}
use Rattle.laws.proofs.Each.{All, all_any, all_both, all_same, all_map}
use Rattle.limits.specs.Limits.{most_moves, most_cost, most_entries}
use Rattle.text.specs.Lines.{lines}
use Rattle.text.specs.Written.{decimal}
use Rattle.text.proofs.LineText.{plain, plain_both, plain_ends, digits_plain}
use Rattle.semantics.specs.Domain.{Domain}
use Rattle.semantics.proofs.Bounds.{Bounded}
use Rattle.semantics.proofs.PathLaws.{state_after}
use Rattle.domain.specs.Entries.{EntriesBelow}
use Rattle.layout.specs.Column.{spaces, column}
use Rattle.layout.specs.Sheet.{line_bytes, plan_lines, page_lines, blank_line, paged_lines, sheet_of, sheet_size}
use Rattle.layout.specs.declared.line.SheetLine.{SheetLine}
use Rattle.layout.proofs.LineLaws.{WholeLine}
use Rattle.layout.proofs.PlanLines.{pages_count, pages_whole}
use Rattle.theorems.proofs.TextLaws.{Once, lines_flatten}

-- no line feed but the last byte of each line
spaces_plain : (n : ℕ) → plain (spaces n) ≡ true
spaces_plain zero = refl
spaces_plain (suc n) = spaces_plain n

column_plain : (width n : ℕ) → plain (column width n) ≡ true
unfolding column
column_plain width n =
    let front : ℕ = width - length (decimal n) in plain_both (spaces front) (decimal n) (spaces_plain front) (digits_plain (suc n) n)

-- one column more, behind two spaces
plain_more : (v : List ℕ) (width n : ℕ) → plain v ≡ true → plain (v ++ spaces 2 ++ column width n) ≡ true
plain_more v width n h = plain_both (v ++ spaces 2) (column width n) (plain_both v (spaces 2) h refl) (column_plain width n)

line_once : (l : SheetLine) → Once (line_bytes l)
unfolding line_bytes
line_once l =
    let two : List ℕ = column 5 l.row ++ spaces 2 ++ column 3 l.action in
    let three : List ℕ = two ++ spaces 2 ++ column 7 l.cost in
    plain_ends (three ++ spaces 2 ++ column 9 l.total) (10 ∷ [])
    (plain_more three 9 l.total (plain_more two 7 l.cost (plain_more (column 5 l.row) 3 l.action (column_plain 5 l.row)))) refl

blank_once : Once blank_line
unfolding blank_line
blank_once = refl

module _ (D : Domain) (ms : List ℕ) where
  -- the lines of the sheet's text are those of its pages
  pub sheet_lines : lines (sheet_of D ms) ≡ paged_lines (map line_bytes (plan_lines D ms))
  unfolding sheet_of paged_lines
  sheet_lines =
      let ls : List (List ℕ) = map line_bytes (plan_lines D ms) in
      let n : ℕ = page_lines (length ls) - length ls in
      let f = all_map line_bytes Once (plan_lines D ms) (all_any (λ (l : SheetLine). Once (line_bytes l)) line_once (plan_lines D ms)) in
      lines_flatten (paged_lines ls) (all_both Once ls (replicate n blank_line) f (all_same Once n blank_line blank_once))

  module _ (b : Bounded D most_cost) (few : D.moves ≤ most_moves) (e : EntriesBelow ms D.moves) where
    -- "lines of exactly 30 bytes and a line feed"
    pub sheet_lines_whole : All WholeLine (lines (sheet_of D ms))
    sheet_lines_whole = subst (All WholeLine) (sym sheet_lines) (pages_whole D b few ms e)

  -- "A page has 60 lines"
  pub sheet_pages : {u : ℕ} → state_after D D.start ms ≡ Some u → length (lines (sheet_of D ms)) ≡ page_lines (length ms)
  sheet_pages leads = ap length sheet_lines ∙ pages_count D ms leads

-- as the header says: 124,620 bytes are enough for every plan
pub sheet_within : (count : ℕ) → count ≤ most_entries → sheet_size count ≤ 124620
sheet_within count h = omega arith
