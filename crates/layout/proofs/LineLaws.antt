-- Lines of a sheet, column by column.
-- Assumes nothing.
use Rattle.std.proofs.Common.{◌≡◌, ℕ, ◌+◌, ◌-◌, ◌*◌, ◌≤◌, ◌<◌, List, [], ◌∷◌, ◌++◌, length, take, drop, set, get_or, sym, refl, ap, ◌∙◌, arith, append_assoc, length-append}
use Rattle.std.proofs.Common.{drop-cons, suc, replicate, length-drop, length-take-le}
use Rattle.std.proofs.lemmas.List.Edits.{sets, sets-eq}
use borrow.Rule.Slice.PartMut.{put_mid}
use Rattle.std.proofs.lemmas.List.{take_at, drop_at, drop-drop, drop_all, set_at}
use Rattle.limits.specs.Limits.{most_moves, most_cost, most_entries}
use Rattle.text.specs.Written.{decimal}
use Rattle.text.proofs.DecimalLaws.{decimal_short}
use Rattle.layout.specs.Column.{spaces, column}
use Rattle.layout.specs.Sheet.{line_size, line_bytes, FitsColumns, blank_line}
use Rattle.layout.specs.declared.line.SheetLine.{SheetLine}
use Rattle.layout.proofs.ColumnLaws.{column_length, column_wider}

-- a line's bytes, its line feed among them
abbrev pub WholeLine : List ℕ → Type 0
WholeLine l = length l ≡ line_size

-- a line that is written in its place
pub line_placed : (p : ℕ) (out l : List ℕ) → WholeLine l → p + line_size ≤ length out → put_mid p (p + line_size - p) out l ≡ sets out p l
line_placed p out l w h =
    let k : p + line_size - p ≡ length l = omega (arith, w) in
    rw (k, drop-drop (length l) p out) (sym (append_assoc (take p out) l (drop (p + length l) out))) ∙ sym (sets-eq l out p (omega (arith, w)))

-- each number fits its column, by the limits of plans, moves and costs
pub within_fits : {l : SheetLine} → l.row ≤ most_entries → l.action < most_moves → l.cost ≤ most_cost → l.total ≤ most_entries * most_cost → FitsColumns l
within_fits {l} r m c t = record {
  row = decimal_short 4 l.row (omega arith);
  action = decimal_short 2 l.action (omega arith);
  cost = decimal_short 6 l.cost (omega arith);
  total = decimal_short 8 l.total (omega arith);
}

-- two spaces and a column behind some bytes
gap : (v : List ℕ) (width n : ℕ) → length (decimal n) ≤ width → v ++ spaces 2 ++ column width n ≡ v ++ column (2 + width) n
gap v width n h = append_assoc v (spaces 2) (column width n) ∙ ap (λ (w : List ℕ). v ++ w) (column_wider width n h)

-- a column that is written behind what is written
column_behind : (v old l c : List ℕ) (p k n : ℕ) → length v ≡ p → p + k ≤ length old → l ≡ v ++ drop p old → c ≡ column (length (take k (drop p l))) n
    → put_mid p k l c ≡ v ++ column k n ++ drop (p + k) old
column_behind v old l c p k n h w e f =
    let d : drop p l ≡ drop p old = ap (drop p) e ∙ drop_at v (drop p old) p h in
    let m : length (take k (drop p l)) ≡ k = rw d (length-take-le k (drop p old) (omega (arith, length-drop p old))) in
    rw (d, ap (take p) e ∙ take_at v (drop p old) p h, drop-drop k p old, f, m) (sym (append_assoc v (column k n) (drop (p + k) old)))

-- a byte that is written behind what is written, and is the last
last_behind : (v old : List ℕ) (n b : ℕ) → length v ≡ n → length old ≡ n + 1 → set (v ++ drop n old) n b ≡ v ++ (b ∷ [])
last_behind v old n b h k = rw (drop-cons old n 0 (omega arith), drop_all (suc n) old (omega arith)) (set_at v (get_or old n 0) [] b n h)

module _ (l : SheetLine) (f : FitsColumns l) where
  abbrev two : List ℕ
  two = column 5 l.row ++ column 5 l.action

  abbrev three : List ℕ
  three = column 5 l.row ++ column 5 l.action ++ column 9 l.cost

  abbrev four : List ℕ
  four = column 5 l.row ++ column 5 l.action ++ column 9 l.cost ++ column 11 l.total

  -- the line, as the code writes it
  as_written : four ++ (10 ∷ []) ≡ line_bytes l
  unfolding line_bytes
  as_written = sym (ap (λ (v : List ℕ). v ++ (10 ∷ []))
      (ap (λ (v : List ℕ). v ++ spaces 2 ++ column 7 l.cost ++ spaces 2 ++ column 9 l.total) (gap (column 5 l.row) 3 l.action f.action)
      ∙ ap (λ (v : List ℕ). v ++ spaces 2 ++ column 9 l.total) (gap two 7 l.cost f.cost)
      ∙ gap three 9 l.total f.total))

  two_length : length two ≡ 10
  two_length =
      length-append (column 5 l.row) (column 5 l.action)
      ∙ omega (arith, column_length 5 l.row f.row, column_length 5 l.action (omega (arith, f.action)))

  three_length : length three ≡ 19
  three_length = length-append two (column 9 l.cost) ∙ omega (arith, two_length, column_length 9 l.cost (omega (arith, f.cost)))

  four_length : length four ≡ 30
  four_length = length-append three (column 11 l.total) ∙ omega (arith, three_length, column_length 11 l.total (omega (arith, f.total)))

  pub line_length_lem : WholeLine (line_bytes l)
  line_length_lem = ap length (sym as_written) ∙ length-append four (10 ∷ []) ∙ omega (arith, four_length)

  -- four columns and the line feed, one after another
  pub line_put : (old a b c d : List ℕ) → WholeLine old → a ≡ column (length (take 5 old)) l.row
      → b ≡ column (length (take 5 (drop 5 (a ++ drop 5 old)))) l.action
      → c ≡ column (length (take 9 (drop 10 (put_mid 5 5 (a ++ drop 5 old) b)))) l.cost
      → d ≡ column (length (take 11 (drop 19 (put_mid 10 9 (put_mid 5 5 (a ++ drop 5 old) b) c)))) l.total
      → set (put_mid 19 11 (put_mid 10 9 (put_mid 5 5 (a ++ drop 5 old) b) c) d) 30 10 ≡ line_bytes l
  line_put old a b c d w ea eb ec ed =
      let first : a ++ drop 5 old ≡ column 5 l.row ++ drop 5 old = rw (ea, length-take-le 5 old (omega arith)) in
      let second = column_behind (column 5 l.row) old _ b 5 5 l.action (column_length 5 l.row f.row) (omega arith) first eb in
      let third = column_behind two old _ c 10 9 l.cost two_length (omega arith) second ec in
      let fourth = column_behind three old _ d 19 11 l.total three_length (omega arith) third ed in
      ap (λ (v : List ℕ). set v 30 10) fourth ∙ last_behind four old 30 10 four_length w ∙ as_written

-- a line of spaces
pub blank_length : WholeLine blank_line
unfolding blank_line
blank_length = refl

pub blank_put : (old spaced : List ℕ) → WholeLine old → spaced ≡ replicate (length old) 32 → set spaced 30 10 ≡ blank_line
unfolding blank_line
blank_put old spaced w e = rw (e, w)
