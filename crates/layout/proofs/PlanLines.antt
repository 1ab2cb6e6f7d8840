-- The lines of a list of moves: each fits its columns and is whole, and a plan has one for each move.
-- Assumes nothing.
use Prim.Native.Nat.{ℕ, suc, ◌+◌, ◌-◌, ◌*◌, ◌≤◌, ◌<◌}
use mathlib.Core.Path.{◌≡◌, refl, ◌∙◌, ap}
use Rattle.std.specs.Prelude.{Option, None, Some}
use mathlib.Core.List.{List, [], ◌∷◌, map, flatten}
use native.Mathlib.Omega.{arith}
use lib.ListN.{length, get_or, replicate, length-append, length-map, length-replicate}
use Rattle.laws.proofs.Tests.{never}
use Rattle.laws.proofs.Each.{All, all_so, all_both, all_same, all_map, flatten_length}
use Rattle.limits.specs.Limits.{most_moves, most_cost, most_entries}
use Rattle.semantics.specs.Domain.{Domain}
use Rattle.semantics.proofs.Bounds.{Bounded}
use Rattle.semantics.proofs.PathLaws.{state_after}
use Rattle.domain.specs.Entries.{EntriesBelow}
use Rattle.layout.specs.Sheet.{line_size, line_bytes, FitsColumns, line_at, plan_lines_from, plan_lines, page_lines, blank_line, paged_lines, sheet_of, sheet_size}
use Rattle.layout.specs.declared.line.SheetLine.{SheetLine}
use Rattle.layout.proofs.LineLaws.{WholeLine, within_fits, line_length_lem, blank_length}

-- the lines of the moves behind one, from the state after it, where there is one
abbrev pub lines_after : Domain → ℕ → ℕ → List ℕ → Option ℕ → List SheetLine
lines_after D n total ms o = elim o [ None ↦ [] | Some t ↦ plan_lines_from D t n total ms ]

-- a list of moves that leads somewhere has a line for each
pub lines_count : (D : Domain) (ms : List ℕ) (s n total u : ℕ) → state_after D s ms ≡ Some u → length (plan_lines_from D s n total ms) ≡ length ms
unfolding plan_lines_from state_after
lines_count D [] s n total u e = refl
lines_count D (m ∷ ms) s n total u e = ap suc (by (D.successor m s) e (λ t f. lines_count D ms t (suc n) (total + D.cost m s) u f))
  where
    by : (o : Option ℕ) → elim o [ None ↦ None | Some t ↦ state_after D t ms ] ≡ Some u
        → ((t : ℕ) → state_after D t ms ≡ Some u → length (plan_lines_from D t (suc n) (total + D.cost m s) ms) ≡ length ms)
        → length (lines_after D (suc n) (total + D.cost m s) ms o) ≡ length ms
    by None f g = never (cc)
    by (Some t) f g = g t f

-- so its pages have the lines of each that is begun
pub pages_count : (D : Domain) (ms : List ℕ) {u : ℕ} → state_after D D.start ms ≡ Some u
    → length (paged_lines (map line_bytes (plan_lines D ms))) ≡ page_lines (length ms)
unfolding paged_lines
pages_count D ms {u} leads =
    let ls : List (List ℕ) = map line_bytes (plan_lines D ms) in
    let n : ℕ = page_lines (length ls) - length ls in
    let k : length (map line_bytes (plan_lines D ms)) ≡ length ms = length-map (plan_lines D ms) line_bytes ∙ lines_count D ms D.start 0 0 u leads in
    length-append ls (replicate n blank_line) ∙ omega (arith, length-replicate n blank_line, k)

-- a domain whose moves and costs fit the columns
module _ (D : Domain) (b : Bounded D most_cost) (few : D.moves ≤ most_moves) where
  -- the line of move m in state s, behind n lines
  pub line_fits : (s n total m : ℕ) → n < most_entries → m < D.moves → total ≤ n * most_cost → FitsColumns (line_at D s n total m)
  line_fits s n total m h k t = within_fits (omega arith) (omega arith) (b.costs m s) (omega (arith, b.costs m s))

  lines_fit : (ms : List ℕ) (s n total : ℕ) → ((i : ℕ) → i < length ms → get_or ms i 0 < D.moves) → n + length ms ≤ most_entries → total ≤ n * most_cost
      → All FitsColumns (plan_lines_from D s n total ms)
  unfolding plan_lines_from
  lines_fit [] s n total below h t = tt
  lines_fit (m ∷ ms) s n total below h t = (
    line_fits s n total m (omega arith) (below 0 (omega arith)) t,
    by (D.successor m s)
        (λ u. lines_fit ms u (suc n) (total + D.cost m s) (λ i g. below (suc i) (omega arith)) (omega arith) (omega (arith, b.costs m s))),
  )
    where
      by : (o : Option ℕ) → ((u : ℕ) → All FitsColumns (plan_lines_from D u (suc n) (total + D.cost m s) ms))
          → All FitsColumns (lines_after D (suc n) (total + D.cost m s) ms o)
      by None f = tt
      by (Some u) f = f u

  module _ (ms : List ℕ) (e : EntriesBelow ms D.moves) where
    all_fit : All FitsColumns (plan_lines D ms)
    all_fit = lines_fit ms D.start 0 0 e.below (omega (arith, e.few)) (omega arith)

    -- each line is whole
    lines_whole : All WholeLine (map line_bytes (plan_lines D ms))
    lines_whole = all_map line_bytes WholeLine (plan_lines D ms)
        (all_so FitsColumns (λ (l : SheetLine). WholeLine (line_bytes l)) line_length_lem (plan_lines D ms) all_fit)

    pub lines_length : length (flatten (map line_bytes (plan_lines D ms))) ≡ length (plan_lines D ms) * line_size
    lines_length = flatten_length line_size (map line_bytes (plan_lines D ms)) lines_whole ∙ ap (λ (k : ℕ). k * line_size) (length-map (plan_lines D ms) line_bytes)

    -- with lines of spaces to the end of the last page
    pub pages_whole : All WholeLine (paged_lines (map line_bytes (plan_lines D ms)))
    unfolding paged_lines
    pages_whole =
        let ls : List (List ℕ) = map line_bytes (plan_lines D ms) in
        let n : ℕ = page_lines (length ls) - length ls in
        all_both WholeLine ls (replicate n blank_line) lines_whole (all_same WholeLine n blank_line blank_length)

    -- of moves that lead somewhere, a sheet has the bytes that so many take
    pub sheet_length : {u : ℕ} → state_after D D.start ms ≡ Some u → length (sheet_of D ms) ≡ sheet_size (length ms)
    unfolding sheet_of
    sheet_length leads =
        flatten_length line_size (paged_lines (map line_bytes (plan_lines D ms))) pages_whole ∙ ap (λ (j : ℕ). j * line_size) (pages_count D ms leads)
