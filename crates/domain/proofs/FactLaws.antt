-- Facts of a state: those of the operations on bits, and of a state that has one fact or none.
-- Assumes nothing.
use Rattle.std.proofs.Common.{ℕ, zero, suc, ◌≡◌, ◌^◌, ◌*◌, ◌-◌, ◌≤◌, ◌<◌, min, max, Bool, true, false, cond, not, ◌&&◌, ◌||◌, eqb, bit_and, bit_or}
use Rattle.std.proofs.Common.{refl, sym, arith, one-mul, zero-mul}
use native.Mathlib.Nat.{pow-le-pow_right}
use native.Mathlib.Decide.{dec_lt, ℕ_discrete}
use mir.Val.{bool_byte}
use lib.Pow.{pow-lt}
use borrow.Author.Tests.{eq-eqb, ne_eqb}
use Rattle.std.specs.Int.{w16, bit_at, bit_not}
use Rattle.std.proofs.lemmas.Nat.Bits.{bit_at-zero, bit_at-lt, bit_at_and, bit_at_or, bit_at_not, bit_at_above, bit_at-pow_same, bit_at-pow_other}
use Rattle.job.specs.StateCount.{state_count}
use Rattle.limits.specs.Limits.{most_facts, most_states}
use Rattle.domain.specs.State.{fact}

pub count_within : (facts : ℕ) → facts ≤ most_facts → state_count facts ≤ most_states
count_within facts h = pow-le-pow_right (omega arith) h

pub bit_times : (b : Bool) (p : ℕ) → bool_byte b * p ≡ cond b p 0
bit_times true p = one-mul p
bit_times false p = zero-mul p

pub digit_bit : (d : ℕ) → d < 2 → d ≡ bool_byte (eqb d 1)
digit_bit zero h = refl
digit_bit (suc zero) h = refl
digit_bit (suc (suc d)) h = absurd (omega arith)

-- two digits
both : (d e : ℕ) → d < 2 → e < 2 → eqb (min d e) 1 ≡ eqb d 1 && eqb e 1
both zero zero h g = refl
both zero (suc zero) h g = refl
both (suc zero) zero h g = refl
both (suc zero) (suc zero) h g = refl
both zero (suc (suc e)) h g = absurd (omega arith)
both (suc zero) (suc (suc e)) h g = absurd (omega arith)
both (suc (suc d)) e h g = absurd (omega arith)

either : (d e : ℕ) → d < 2 → e < 2 → eqb (max d e) 1 ≡ eqb d 1 || eqb e 1
either zero zero h g = refl
either zero (suc zero) h g = refl
either (suc zero) zero h g = refl
either (suc zero) (suc zero) h g = refl
either zero (suc (suc e)) h g = absurd (omega arith)
either (suc zero) (suc (suc e)) h g = absurd (omega arith)
either (suc (suc d)) e h g = absurd (omega arith)

first_alone : (d e : ℕ) → d < 2 → e < 2 → eqb (min d (1 - e)) 1 ≡ eqb d 1 && not (eqb e 1)
first_alone zero zero h g = refl
first_alone zero (suc zero) h g = refl
first_alone (suc zero) zero h g = refl
first_alone (suc zero) (suc zero) h g = refl
first_alone zero (suc (suc e)) h g = absurd (omega arith)
first_alone (suc zero) (suc (suc e)) h g = absurd (omega arith)
first_alone (suc (suc d)) e h g = absurd (omega arith)

module _ (a b i : ℕ) where
  pub fact_and : fact (bit_and a b) i ≡ fact a i && fact b i
  unfolding fact
  fact_and = rw (bit_at_and a b i) (both (bit_at a i) (bit_at b i) (bit_at-lt a i) (bit_at-lt b i))

  pub fact_or : fact (bit_or a b) i ≡ fact a i || fact b i
  unfolding fact
  fact_or = rw (bit_at_or a b i) (either (bit_at a i) (bit_at b i) (bit_at-lt a i) (bit_at-lt b i))

  -- a state without the facts of a set
  pub fact_without : a < 65536 → b < 65536 → fact (bit_and a (bit_not w16 b)) i ≡ fact a i && not (fact b i)
  unfolding fact
  fact_without h g = elim (dec_lt i 16) [
    | yes l ↦ rw (bit_at_and a (bit_not w16 b) i, bit_at_not w16 b i g l) (first_alone (bit_at a i) (bit_at b i) (bit_at-lt a i) (bit_at-lt b i))
    | no l ↦ (let z : min 0 (bit_at (bit_not w16 b) i) ≡ 0 = omega arith in rw (bit_at_and a (bit_not w16 b) i, bit_at_above a 16 i h (omega arith), z) refl)
  ]

-- no fact from n on is true in a state of n facts
pub fact_past : (n w i : ℕ) → w < 2 ^ n → n ≤ i → fact w i ≡ false
unfolding fact
fact_past n w i h l = rw (bit_at_above w n i h l) refl

pub no_fact : (i : ℕ) → fact 0 i ≡ false
unfolding fact
no_fact i = rw (bit_at-zero i) refl

-- the state that has one fact alone
pub one_fact : (k i : ℕ) → fact (2 ^ k) i ≡ eqb k i
unfolding fact
one_fact k i = elim (ℕ_discrete i k) [
  | yes e ↦ rw (e, bit_at-pow_same k, eq-eqb k k refl) refl
  | no e ↦ rw (bit_at-pow_other k i e) (sym (ne_eqb k i (λ d. e (sym d))))
]

pub worth_below : (n k : ℕ) → k < n → (b : Bool) → cond b (2 ^ k) 0 < 2 ^ n
worth_below n k h true = pow-lt h
worth_below n k h false = omega (arith, pow-lt h)

pub worth_fact : (k i : ℕ) (b : Bool) → fact (cond b (2 ^ k) 0) i ≡ b && eqb k i
worth_fact k i true = one_fact k i
worth_fact k i false = no_fact i
