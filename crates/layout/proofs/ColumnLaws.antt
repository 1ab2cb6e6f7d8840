-- A number in its column, and runs of spaces.
-- Assumes nothing.
use Rattle.std.proofs.Common.{◌≡◌, ℕ, ◌+◌, ◌-◌, ◌≤◌, ◌<◌, ◌^◌, List, ◌++◌, length, take, drop, replicate, sym, ap, ◌∙◌, arith, append_assoc, append-nil, length-append, length-take-le}
use Rattle.std.specs.Fmt as printed
use Rattle.std.proofs.Math.ListN.{length-replicate, replicate-append-replicate}
use Rattle.std.proofs.lemmas.List.{drop_all}
use native.Mathlib.Decide.{dec_lt}
use Rattle.text.specs.Written.{decimal}
use Rattle.text.proofs.DecimalLaws.{digit_length, tens_length}
use Rattle.text.proofs.PrintedDecimal.{printed_decimal}
use Rattle.layout.specs.Column.{spaces, column}

pub spaces_length : (k : ℕ) → length (spaces k) ≡ k
spaces_length k = length-replicate k 32

-- two spaces in front make a column wider
pub column_wider : (width n : ℕ) → length (decimal n) ≤ width → spaces 2 ++ column width n ≡ column (2 + width) n
unfolding column
column_wider width n h =
    let e : 2 + (width - length (decimal n)) ≡ 2 + width - length (decimal n) = omega arith in
    sym (append_assoc (spaces 2) (spaces (width - length (decimal n))) (decimal n))
    ∙ ap (λ (l : List ℕ). l ++ decimal n) (replicate-append-replicate 2 (width - length (decimal n)) 32 ∙ ap spaces e)

pub column_length : (width n : ℕ) → length (decimal n) ≤ width → length (column width n) ≡ width
unfolding column
column_length width n h = length-append (spaces (width - length (decimal n))) (decimal n) ∙ omega (arith, spaces_length (width - length (decimal n)))

pub decimal_some : (n : ℕ) → 1 ≤ length (decimal n)
decimal_some n = elim (dec_lt n 10) [ yes h ↦ omega (arith, digit_length n h) | no h ↦ omega (arith, tens_length n (omega arith)) ]

-- the digits at the end, and spaces in front
pub column_set : (n start : ℕ) (old mid : List ℕ) {front : List ℕ} → n < 2 ^ 64 → length mid ≡ length old → start + length (printed.decimal n) ≡ length old
    → drop start mid ≡ printed.decimal n ++ drop (length old) old → front ≡ replicate (length (take start mid)) 32
    → front ++ drop start mid ≡ column (length old) n
unfolding column
column_set n start old mid h m s d f =
    let e : printed.decimal n ≡ decimal n = printed_decimal n h in
    let k : length (take start mid) ≡ length old - length (decimal n) = omega (arith, length-take-le start mid (omega arith), ap length e) in
    let z : drop start mid ≡ decimal n = rw (drop_all (length old) old (omega arith), append-nil) at d ∙ e in
    rw (f, k, z)
