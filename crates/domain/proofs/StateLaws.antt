-- A state of n facts is `state_with` of its own facts; `state_with n p` has, of facts below n, those that p
-- tells.
-- Assumes nothing.
use Rattle.std.proofs.Common.{ℕ, zero, suc, ◌+◌, ◌*◌, ◌/◌, ◌%◌, ◌^◌, ◌<◌, ◌≡◌, refl, sym, ◌∙◌, ap, Bool, true, false, cond, ◌&&◌, ◌||◌, arith}
use Rattle.std.proofs.Common.{one-mul, mod-lt, mod-eq_of_lt, pow-suc, eqb, bit_or}
use mathlib.Core.Bool.{and-true, and-false, or-false}
use native.Mathlib.Nat.{mod-one}
use native.Mathlib.Decide.{ℕ_discrete}
use lib.Arith.{mod-mul}
use lib.Pow.{pow_pos}
use lib.Bits.{or_shifted}
use borrow.Author.Tests.{eq-eqb, ne_eqb}
use Rattle.laws.proofs.Tests.{cond_has}
use Rattle.domain.specs.State.{fact, state_with}
use Rattle.domain.proofs.FactLaws.{bit_times, digit_bit, fact_or, fact_past, one_fact}

pub state_below : (n : ℕ) (p : ℕ → Bool) → state_with n p < 2 ^ n
unfolding state_with
state_below zero p = omega arith
state_below (suc n) p = cond_has (λ (x : ℕ). x + state_with n p < 2 ^ suc n) (p n) (2 ^ n) 0
    (λ e. omega (arith, pow-suc 2 n, state_below n p)) (λ e. omega (arith, pow-suc 2 n, state_below n p))

-- a state of n facts by the facts themselves
pub state_only : (n w : ℕ) → w < 2 ^ n → w ≡ state_with n (fact w)
unfolding state_with fact
state_only n w h = sym (lowest n ∙ mod-eq_of_lt h)
  where
    lowest : (n : ℕ) → state_with n (fact w) ≡ w % 2 ^ n
    lowest zero = sym (mod-one w)
    lowest (suc n) =
        let c : 2 ^ suc n ≡ 2 * 2 ^ n = omega (arith, pow-suc 2 n) in
        let d = digit_bit (w / 2 ^ n % 2) (mod-lt (w / 2 ^ n) (omega arith)) in
        rw (c, mod-mul w {m = 2} {c = 2 ^ n} (omega arith) (pow_pos n), lowest n)
        (ap (λ (x : ℕ). x + w % 2 ^ n) (sym (ap (λ (x : ℕ). x * 2 ^ n) d ∙ bit_times (eqb (w / 2 ^ n % 2) 1) (2 ^ n))))

pub state_same : (n : ℕ) (p q : ℕ → Bool) → ((i : ℕ) → p i ≡ q i) → state_with n p ≡ state_with n q
unfolding state_with
state_same zero p q h = refl
state_same (suc n) p q h = rw (h n, state_same n p q h) refl

-- states of n facts are equal where their facts are
pub facts_decide : (n a b : ℕ) → a < 2 ^ n → b < 2 ^ n → ((i : ℕ) → fact a i ≡ fact b i) → a ≡ b
facts_decide n a b h k same = state_only n a h ∙ state_same n (fact a) (fact b) same ∙ sym (state_only n b k)

-- the highest fact beside those below it
highest : (n r i : ℕ) (b : Bool) → r < 2 ^ n → fact (cond b (2 ^ n) 0 + r) i ≡ (b && eqb n i) || fact r i
highest n r i true h =
    let e : 2 ^ n + r ≡ bit_or (1 * 2 ^ n) r = omega (arith, or_shifted 1 n r h) in
    rw (e, one-mul (2 ^ n), fact_or (2 ^ n) r i, one_fact n i) refl
highest n r i false h = let e : 0 + r ≡ r = omega arith in rw e refl

pub state_facts : (n : ℕ) (p : ℕ → Bool) (i : ℕ) → i < n → fact (state_with n p) i ≡ p i
unfolding state_with
state_facts zero p i h = absurd (omega arith)
state_facts (suc n) p i h = highest n (state_with n p) i (p n) (state_below n p) ∙ elim (ℕ_discrete n i) [
  | yes e ↦ rw (← e, eq-eqb n n refl, fact_past n (state_with n p) n (state_below n p) (omega arith)) (or-false _ ∙ and-true (p n))
  | no e ↦ rw (ne_eqb n i e, and-false (p n)) (state_facts n p i (omega arith))
]
