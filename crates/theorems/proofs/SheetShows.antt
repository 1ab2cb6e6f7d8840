-- What the lines of a sheet show: the moves in their order, each with what it adds to the cost and the
-- cost of all up to it; then come lines of spaces.
-- Assumes nothing.
use Prim.Native.Nat.{ℕ, zero, suc, ◌+◌, ◌-◌, ◌≤◌, ◌<◌}
use mathlib.Core.Path.{◌≡◌, refl, sym, ◌∙◌, ap}
use Rattle.std.specs.Prelude.{Option, None, Some}
use mathlib.Core.List.{List, [], ◌∷◌, ◌++◌, map}
use native.Mathlib.Omega.{arith}
use lib.ListN.{length, get_or, take, replicate, length-map, get_or-replicate, get_or-append}
use lib.Seq.{get_or-append-add}
use Rattle.laws.proofs.Tests.{never}
use Rattle.laws.proofs.Each.{all_at, map_at}
use Rattle.limits.specs.Limits.{most_moves, most_cost}
use Rattle.text.specs.Lines.{lines}
use Rattle.semantics.specs.Domain.{Domain}
use Rattle.semantics.specs.Plan.{cost}
use Rattle.semantics.proofs.Bounds.{Bounded}
use Rattle.semantics.proofs.CostLaws.{cost_first, cost_one}
use Rattle.semantics.proofs.PathLaws.{state_after}
use Rattle.domain.specs.Entries.{EntriesBelow}
use Rattle.layout.specs.Sheet.{line_bytes, line_at, plan_lines_from, plan_lines, page_lines, blank_line, paged_lines, sheet_of}
use Rattle.layout.specs.declared.line.SheetLine.{SheetLine}
use Rattle.layout.proofs.LineLaws.{WholeLine}
use Rattle.layout.proofs.PlanLines.{lines_after, lines_count}
use Rattle.theorems.specs.LaysOut.{Shows, IsSheet}
use Rattle.theorems.proofs.SheetLines.{sheet_lines, sheet_lines_whole, sheet_pages}

-- the lines of moves from state s on, behind n lines whose costs sum to `total`
record ShowsFrom (D : Domain) (s n total : ℕ) (ms : List ℕ) (i : ℕ) (l : SheetLine) : Type 0 where
  row : l.row ≡ suc (n + i)
  action : l.action ≡ get_or ms i 0
  adds : cost D s (take i ms) + l.cost ≡ cost D s (take (suc i) ms)
  total_is : l.total ≡ total + cost D s (take (suc i) ms)

-- what is past the last line
abbrev pub no_line : SheetLine
no_line = record { row = 0; action = 0; cost = 0; total = 0 }

cost_none : (D : Domain) (s : ℕ) → cost D s [] ≡ 0
unfolding cost
cost_none D s = refl

module _ (D : Domain) where
  shows_from : (ms : List ℕ) (s n total u : ℕ) → state_after D s ms ≡ Some u → (i : ℕ) → i < length ms
      → ShowsFrom D s n total ms i (get_or (plan_lines_from D s n total ms) i no_line)
  unfolding plan_lines_from state_after
  shows_from [] s n total u e i h = absurd (omega arith)
  shows_from (m ∷ ms) s n total u e i h = by (D.successor m s) refl e i h (λ t. shows_from ms t (suc n) (total + D.cost m s) u)
    where
      by : (o : Option ℕ) → D.successor m s ≡ o → elim o [ None ↦ None | Some t ↦ state_after D t ms ] ≡ Some u → (i : ℕ) → i < suc (length ms)
          → ((t : ℕ) → state_after D t ms ≡ Some u → (j : ℕ) → j < length ms
          → ShowsFrom D t (suc n) (total + D.cost m s) ms j (get_or (plan_lines_from D t (suc n) (total + D.cost m s) ms) j no_line))
          → ShowsFrom D s n total (m ∷ ms) i
          (get_or (line_at D s n total m ∷ lines_after D (suc n) (total + D.cost m s) ms o) i no_line)
      by None f e i h g = never (cc)
      by (Some t) f e zero h g =
          let one : cost D s [] + D.cost m s ≡ cost D s (m ∷ []) = omega (arith, cost_none D s, cost_one D s t m f) in
          let sum : total + D.cost m s ≡ total + cost D s (m ∷ []) = omega (arith, cost_one D s t m f) in
          record { row = omega arith; action = refl; adds = one; total_is = sum }
      by (Some t) f e (suc j) h g =
          let x = g t e j (omega arith) in
          record {
            row = omega (arith, x.row);
            action = x.action;
            adds = omega (arith, x.adds, cost_first D s t m (take j ms) f, cost_first D s t m (take (suc j) ms) f);
            total_is = omega (arith, x.total_is, cost_first D s t m (take (suc j) ms) f);
          }

  pub sheet_shows : (ms : List ℕ) {u : ℕ} → state_after D D.start ms ≡ Some u → (i : ℕ) → i < length ms
      → Shows D ms i (get_or (plan_lines D ms) i no_line)
  sheet_shows ms {u} e i h =
      let x = shows_from ms D.start 0 0 u e i h in
      record { row = omega (arith, x.row); action = x.action; adds = x.adds; total = omega (arith, x.total_is) }

-- of moves that lead somewhere: where each line stands in the sheet's text
module _ (D : Domain) (ms : List ℕ) {u : ℕ} (leads : state_after D D.start ms ≡ Some u) where
  abbrev rows : List (List ℕ)
  rows = map line_bytes (plan_lines D ms)

  abbrev blanks : ℕ
  blanks = page_lines (length (map line_bytes (plan_lines D ms))) - length (map line_bytes (plan_lines D ms))

  count : length (plan_lines D ms) ≡ length ms
  count = lines_count D ms D.start 0 0 u leads

  rows_count : length (map line_bytes (plan_lines D ms)) ≡ length ms
  rows_count = length-map (plan_lines D ms) line_bytes ∙ count

  abbrev At : List (List ℕ) → ℕ → List ℕ
  At ls i = get_or ls i []

  row_at_lem : (i : ℕ) → i < length ms → get_or (lines (sheet_of D ms)) i [] ≡ line_bytes (get_or (plan_lines D ms) i no_line)
  unfolding paged_lines
  row_at_lem i h =
      ap (λ (ls : List (List ℕ)). At ls i) (sheet_lines D ms) ∙ get_or-append rows (replicate blanks blank_line) [] i (omega (arith, rows_count))
      ∙ map_at line_bytes (plan_lines D ms) i no_line [] (omega (arith, count))

  blank_at : (i : ℕ) → length ms ≤ i → i < length (lines (sheet_of D ms)) → get_or (lines (sheet_of D ms)) i [] ≡ blank_line
  unfolding paged_lines
  blank_at i h g =
      let k : length rows + (i - length ms) ≡ i = omega (arith, rows_count) in
      ap (λ (ls : List (List ℕ)). At ls i) (sheet_lines D ms) ∙ ap (At (rows ++ replicate blanks blank_line)) (sym k)
      ∙ get_or-append-add rows (replicate blanks blank_line) (i - length ms) []
      ∙ get_or-replicate blanks (i - length ms) blank_line [] (omega (arith, g, sheet_pages D ms leads, rows_count))

  module _ (b : Bounded D most_cost) (few : D.moves ≤ most_moves) (e : EntriesBelow ms D.moves) where
    pub sheet_is : IsSheet D ms (sheet_of D ms)
    sheet_is = record {
      whole = all_at [] WholeLine (lines (sheet_of D ms)) (sheet_lines_whole D ms b few e);
      pages = sheet_pages D ms leads;
      shown = λ i h. (get_or (plan_lines D ms) i no_line, row_at_lem i h, sheet_shows D ms leads i h);
      filled = blank_at;
    }
