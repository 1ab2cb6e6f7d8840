-- One more mark in a position set that is counted and listed.
-- Assumes nothing.
use Rattle.std.proofs.Common.{◌≡◌, ℕ, zero, suc, ◌+◌, ◌<◌, Bool, true, false, List, eqb, length, get_or, set, replicate, sym, ◌∙◌, ap, inl, inr, arith}
use Rattle.std.proofs.Math.Bool.{or-true}
use Rattle.std.proofs.Math.ListN.{length-set, length-replicate}
use Rattle.std.proofs.Math.Seq.{get_or-set_same, get_or-set_other, set-get_or}
use native.Mathlib.Decide.{dec_lt, ℕ_discrete}
use borrow.Author.Tests.{eqb-true, eq-eqb}
use Rattle.limits.specs.Limits.{most_positions}
use Rattle.laws.proofs.Tests.{never, or_either}
use Rattle.semantics.specs.PositionSets.{Marked}
use Rattle.semantics.proofs.Marks.{set_keeps, set_from, count_le, count_new, count_none, none_marked, marked_below}
use Rattle.validate.specs.Counted.{among, Counted}

module _ (ms : List ℕ) where
  among_at : (n q : ℕ) → among ms n q ≡ true → (i : ℕ) × (i < n) × (get_or ms i 0 ≡ q)
  unfolding among
  among_at zero q e = never e
  among_at (suc n) q e =
      or_either (eqb (get_or ms n 0) q) (among ms n q) (λ f. (n, omega arith, eqb-true (get_or ms n 0) q f))
      (λ f. let v = among_at n q f in (v.0, omega (arith, v.1), v.2)) e

  at_among : (n q i : ℕ) → i < n → get_or ms i 0 ≡ q → among ms n q ≡ true
  unfolding among
  at_among zero q i h e = absurd (omega arith)
  at_among (suc n) q i h e = elim (ℕ_discrete i n) [
    | yes z ↦ (let f : get_or ms n 0 ≡ q = sym (ap (λ j. get_or ms j 0) z) ∙ e in rw (eq-eqb (get_or ms n 0) q f))
    | no z ↦ rw (at_among n q i (omega arith) e) (or-true (eqb (get_or ms n 0) q))
  ]

-- no position
pub none_counted : Counted (replicate most_positions false) (replicate most_positions 0) 0
none_counted = record {
  size = length-replicate most_positions false;
  room = length-replicate {A = ℕ} most_positions 0;
  counted = sym (count_none most_positions);
  few = omega arith;
  marked = λ i h. absurd (omega arith);
  listed = λ q m. none_marked most_positions q m;
}

module _ {S : List Bool} {ms : List ℕ} {n : ℕ} (x : Counted S ms n) where
  -- where a marked position stands among the members
  pub member_of : (q : ℕ) → Marked S q → (i : ℕ) × (i < n) × (get_or ms i 0 ≡ q)
  member_of q m = among_at ms n q (x.listed q m)

  pub member_inside : (i : ℕ) → i < n → get_or ms i 0 < most_positions
  member_inside i h = omega (arith, x.size, marked_below S (get_or ms i 0) (x.marked i h))

  module _ (q : ℕ) (inside : q < most_positions) (free : get_or S q false ≡ false) where
    within : q < length S
    within = omega (arith, x.size)

    pub mark_room : n < most_positions
    mark_room = omega (arith, x.counted, count_new S q within free, count_le (set S q true), length-set S q true, x.size)

    abbrev ns : List ℕ
    ns = set ms n q

    last : get_or ns n 0 ≡ q
    last = get_or-set_same ms n q 0 (omega (arith, mark_room, x.room))

    pub mark_keeps : (i : ℕ) → i < n → get_or (set ms n q) i 0 ≡ get_or ms i 0
    mark_keeps i h = get_or-set_other ms n i q 0 (λ e. omega arith)

    marked : (i : ℕ) → i < n + 1 → Marked (set S q true) (get_or ns i 0)
    marked i h = elim (dec_lt i n) [
      | yes k ↦ rw (mark_keeps i k) (set_keeps S q (get_or ms i 0) (x.marked i k))
      | no k ↦ (let e : i ≡ n = omega arith in rw (e, last) (get_or-set_same S q true false within))
    ]

    listed : (r : ℕ) → Marked (set S q true) r → among ns (n + 1) r ≡ true
    listed r m = elim (set_from S q r m) [
      | inl e ↦ at_among ns (n + 1) r n (omega arith) (last ∙ sym e)
      | inr k ↦ (let v = member_of r k in at_among ns (n + 1) r v.0 (omega (arith, v.1)) (mark_keeps v.0 v.1 ∙ v.2))
    ]

    pub mark_counted : Counted (set S q true) (set ms n q) (n + 1)
    mark_counted = record {
      size = length-set S q true ∙ x.size;
      room = length-set ms n q ∙ x.room;
      counted = omega (arith, x.counted, count_new S q within free);
      few = omega (arith, mark_room);
      marked = marked;
      listed = listed;
    }

-- a mark that is there is not set anew
pub set_marked : (S : List Bool) (q : ℕ) → Marked S q → S ≡ set S q true
set_marked S q m = sym (ap (λ b. set S q b) (sym m) ∙ set-get_or S q false)
