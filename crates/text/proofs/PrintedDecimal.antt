-- What `{}` and `itoa` write of a number are its decimal digits.
-- Assumes nothing.
use Rattle.std.proofs.Common.{◌≡◌, ℕ, suc, ◌<◌, ◌^◌, arith, rules, sym}
use Rattle.std.specs.Fmt as printed
use Rattle.std.proofs.lemmas.Fmt.{AppendsLastDigit, decimal_from_appends, length-decimal-le_succ}
use Rattle.text.specs.Written.{digits_within, decimal}

appends : AppendsLastDigit digits_within
unfolding digits_within
appends = search rules

pub printed_decimal : (n : ℕ) → n < 2 ^ 64 → printed.decimal n ≡ decimal n
printed_decimal n h = sym (decimal_from_appends digits_within appends (suc n) n h (omega (arith, length-decimal-le_succ n h)))
