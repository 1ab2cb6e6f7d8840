-- How many digits a number has: one, or one more than its tenth.
-- Assumes nothing.
use Prim.Native.Nat.{ℕ, zero, suc, ◌+◌, ◌*◌, ◌/◌, ◌%◌, ◌≤◌, ◌<◌}
use mathlib.Core.Path.{◌≡◌, ◌∙◌, ap}
use mathlib.Core.List.{[], ◌∷◌}
use native.Mathlib.Omega.{arith}
use native.Mathlib.Decide.{dec_lt}
use lib.ListN.{length, length-append}
use Rattle.text.specs.Written.{decimal}
use Rattle.text.proofs.WrittenLaws.{decimal_digit, decimal_tens}

pub digit_length : (n : ℕ) → n < 10 → length (decimal n) ≡ 1
digit_length n h = ap length (decimal_digit n h)

pub tens_length : (n : ℕ) → 10 ≤ n → length (decimal n) ≡ length (decimal (n / 10)) + 1
tens_length n h = ap length (decimal_tens n h) ∙ length-append (decimal (n / 10)) ((48 + n % 10) ∷ [])

-- 10, 100, ..
abbrev pub tens : ℕ → ℕ
tens zero = 10
tens (suc k) = tens k * 10

-- below them: at most so many digits
pub decimal_short : (k n : ℕ) → n < tens k → length (decimal n) ≤ suc k
decimal_short zero n h = omega (arith, digit_length n h)
decimal_short (suc k) n h = elim (dec_lt n 10) [
  | yes d ↦ omega (arith, digit_length n d)
  | no d ↦ omega (arith, tens_length n (omega arith), decimal_short k (n / 10) (omega arith))
]
