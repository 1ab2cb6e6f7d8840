-- Laws of a value's numbers as they are read, byte by byte, into a list.
-- Assumes nothing.
use Rattle.std.proofs.Common.{◌≡◌, ℕ, ◌+◌, ◌-◌, ◌≤◌, ◌<◌, ◌⊎◌, inl, inr, true, false, None, List, [], ◌∷◌, ◌++◌, length, get_or, take, drop, refl, sym, ◌∙◌, ap, arith, add-one}
use mathlib.Core.List.{foldl}
use lib.Dec.{leb}
use lib.ListN.{set, length-set}
use lib.Seq.{length-take-le, take-suc-set, take_all}
use borrow.Author.Tests.{leb-true, eq-eqb, ne_eqb}
use Rattle.text.specs.Numbers.{PartialValue, start, done, is_digit, first_digit, more_digits, number_end, byte_read, numbers_outcome, numbers}
use Rattle.text.specs.Progress.{partial_of, complete_count, Goes, After}
use Rattle.text.specs.declared.numbers.Progress.{Progress}
use Rattle.text.specs.declared.numbers.Progress.TheVariants.{Start, Digits, Done, Broken}
use Rattle.laws.proofs.Tests.{and_left, and_right}
use Rattle.laws.proofs.Lists.{fed_at, fed_past}

pub digit_within : (b : ℕ) → is_digit b ≡ true → (48 ≤ b) × (b ≤ 57)
digit_within b e = (leb-true 48 b (and_left (leb 48 b) (leb b 57) e), leb-true b 57 (and_right (leb 48 b) (leb b 57) e))

-- the last number of a list, read to its end by byte b
module _ (out : List ℕ) (k n b : ℕ) (h : k ≤ length out) where
  before : length (take k out) ≡ k
  before = length-take-le k out h

  filled : k + 1 ≡ length out → set out k n ≡ take k out ++ (n ∷ [])
  filled e = sym (take_all (k + 1) (set out k n) (simp length-set (omega arith))) ∙ rw (add-one, take-suc-set out k n (omega arith))

  pub feed_last : (b ≡ 44 → ⊥) → b ≡ 10 → length out - k ≡ 1 → done (set out k n) ≡ number_end (length out) (take k out) n b
  feed_last d e g =
      let f : k + 1 ≡ length out = omega arith in
      rw (ne_eqb b 44 d, eq-eqb b 10 e, before, eq-eqb (k + 1) (length out) f, filled f)

-- one byte more, by the case of the progress
module _ (p r : Progress) (b : ℕ) (out : List ℕ) (h : complete_count p ≤ length out) where
  abbrev next : PartialValue
  next = byte_read (length out) (partial_of p out) b

  pub step_start : (k : ℕ) → p ≡ Start k → Goes k r (λ l. first_digit l b) → After r out next
  unfolding byte_read
  step_start k e g = record {
    reads = g.reads out ∙ rw e;
    within = omega (arith, g.within, ap complete_count e);
  }

  pub step_digit : (k n : ℕ) → p ≡ Digits k n → is_digit b ≡ true → Goes k r (λ l. more_digits l n b) → After r out next
  unfolding byte_read
  step_digit k n e d g = record {
    reads = g.reads out ∙ rw (e, d);
    within = omega (arith, g.within, ap complete_count e);
  }

  pub step_end : (after : List ℕ) (k n : ℕ) → p ≡ Digits k n → is_digit b ≡ false → After r after (number_end (length out) (take k out) n b) → After r after next
  unfolding byte_read
  step_end after k n e d g = record { reads = g.reads ∙ rw (e, d); within = g.within }

-- nothing follows the line feed, and a broken form stays so
pub step_other : (p : Progress) (b : ℕ) (out : List ℕ) → (p ≡ Done) ⊎ (p ≡ Broken) → After Broken out (byte_read (length out) (partial_of p out) b)
unfolding byte_read
step_other p b out (inl e) = record { reads = rw e; within = omega arith }
step_other p b out (inr e) = record { reads = rw e; within = omega arith }

pub not_done : (p : Progress) (out : List ℕ) → (p ≡ Done → ⊥) → numbers_outcome (partial_of p out) ≡ None
not_done (Start k) out h = refl
not_done (Digits k n) out h = refl
not_done Done out h = absurd (h refl)
not_done Broken out h = refl

-- a value from its start on is what it is from here on
module _ (value : List ℕ) (want i : ℕ) (p : Progress) (out : List ℕ)
    (inv : foldl (byte_read want) (start []) value ≡ foldl (byte_read want) (partial_of p out) (drop i value)) where
  pub read_again : (r : Progress) (after : List ℕ) → i < length value → length out ≡ want
      → After r after (byte_read (length out) (partial_of p out) (get_or value i 0))
      → foldl (byte_read want) (start []) value ≡ foldl (byte_read want) (partial_of r after) (drop (i + 1) value)
  read_again r after h e s =
      inv ∙ fed_at (byte_read want) (partial_of p out) value i 0 h
      ∙ ap (λ q. foldl (byte_read want) q (drop (i + 1) value)) (sym (s.reads ∙ ap (λ n. byte_read n (partial_of p out) (get_or value i 0)) e))

  pub read_all : length value ≤ i → numbers want value ≡ numbers_outcome (partial_of p out)
  unfolding numbers
  read_all h = ap numbers_outcome (inv ∙ fed_past (byte_read want) (partial_of p out) value i h)
