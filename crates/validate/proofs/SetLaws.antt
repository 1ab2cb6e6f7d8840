-- Position sets as methods turn them: all that silent steps lead to, what a move leads to.
-- Assumes nothing.
use Rattle.std.proofs.Common.{◌≡◌, ℕ, ◌+◌, ◌≤◌, ◌<◌, Bool, true, false, List, length, get_or, replicate, sym, ◌∙◌, subst, arith}
use native.Mathlib.Decide.{dec_lt}
use Rattle.limits.specs.Limits.{most_positions}
use Rattle.semantics.specs.Label.{Label}
use Rattle.semantics.specs.CompilingTable.{Step}
use Rattle.semantics.specs.Path.{StepAt}
use Rattle.semantics.specs.PositionSets.{Marked, closure, spread}
use Rattle.semantics.proofs.Marks.{none_marked}
use Rattle.semantics.proofs.SetLaws.{close_keeps, closure_closed, closure_is, spread_is}
use Rattle.compiled.specs.StepList.{steps_on, Listed}
use Rattle.compiled.proofs.StepWalk.{step_inside}
use Rattle.validate.specs.Positions.{old, new, Followed}
use Rattle.validate.specs.declared.position_set.PositionSet.{PositionSet}
use Rattle.validate.proofs.MarkLaws.{member_of}

module _ (on : Label → Bool) (list : List ℕ) where
  abbrev L : List Step
  L = steps_on list

  -- the steps from member i of a list lead to marks of T
  abbrev Done : List ℕ → PositionSet → ℕ → Type 0
  Done ms T i = (k q : ℕ) (l : Label) → StepAt L k (get_or ms i 0) l q → on l ≡ true → Marked T.marks q

  -- one member more
  done_also : (ms : List ℕ) (at : ℕ) {T U : PositionSet} → ((i : ℕ) → i < at → Done ms T i)
      → Followed on L (get_or ms at 0) T U → (i : ℕ) → i < at + 1 → Done ms U i
  done_also ms at f y i a k q l s o = elim (dec_lt i at) [
    | yes b ↦ y.added.grown q (f i b k q l s o)
    | no b ↦ (let e : i ≡ at = omega arith in y.ends k q l (subst (λ j. StepAt L k (get_or ms j 0) l q) e s) o)
  ]

  -- closing S: the steps from the first `at` members are followed
  module _ (S : PositionSet) where
    pub record Closing (T : PositionSet) (at : ℕ) : Type 0 where
      pub within : at ≤ T.count
      pub grown : (q : ℕ) → Marked S.marks q → Marked T.marks q
      pub reached : (q : ℕ) → Marked T.marks q → Marked (closure on (steps_on list) S.marks) q
      pub done : (i : ℕ) → i < at → Done T.members T i

    pub closing_start : Closing S 0
    closing_start = record {
      within = omega arith;
      grown = λ q m. m;
      reached = λ q m. close_keeps on L (length S.marks) S.marks q m;
      done = λ i h. absurd (omega arith);
    }

    module _ (sound : Listed list) {T U : PositionSet} {at : ℕ} (x : Closing T at) (h : at < T.count)
        (y : Followed on (steps_on list) (get_or T.members at 0) T U) where
      reached_more : (q : ℕ) → Marked U.marks q → Marked (closure on L S.marks) q
      reached_more q m = elim (y.added.only q m) [
        | old a ↦ x.reached q a
        | new s o ↦ closure_closed on L S.marks s o (omega (arith, (step_inside sound s).1, S.counted.size))
            (x.reached (get_or T.members at 0) (T.counted.marked at h))
      ]

      done_more : (i : ℕ) → i < at + 1 → Done U.members U i
      done_more i a k q l s o = done_also T.members at x.done y i a k q l (subst (λ p. StepAt L k p l q) (y.added.keeping.kept i (omega arith)) s) o

      pub closing_more : Closing U (at + 1)
      closing_more = record {
        within = omega (arith, y.added.keeping.more);
        grown = λ q m. y.added.grown q (x.grown q m);
        reached = reached_more;
        done = done_more;
      }

    pub closing_end : {T : PositionSet} {at : ℕ} → Closing T at → T.count ≤ at → T.marks ≡ closure on (steps_on list) S.marks
    closing_end {T} {at} x h =
        closure_is on L S.marks T.marks (T.counted.size ∙ sym S.counted.size) x.grown
        (λ k p q l s o m. let v = member_of T.counted p m in x.done v.0 (omega (arith, v.1)) k q l (subst (λ r. StepAt L k r l q) (sym v.2) s) o)
        x.reached

    -- advancing from S: the steps from its first `at` members are followed
    -- a step from one of them leads to q
    pub record Came (q : ℕ) : Type 0 where
      pub member : ℕ
      pub listed : member < S.count
      pub number : ℕ
      pub label : Label
      pub step : StepAt (steps_on list) number (get_or S.members member 0) label q
      pub passes : on label ≡ true

    pub record Advancing (T : PositionSet) (at : ℕ) : Type 0 where
      pub came : (q : ℕ) → Marked T.marks q → Came q
      pub done : (i : ℕ) → i < at → Done S.members T i

    pub advancing_start : {T : PositionSet} → T.marks ≡ replicate most_positions false → Advancing T 0
    advancing_start e = record {
      came = λ q m. none_marked most_positions q (rw e at m);
      done = λ i h. absurd (omega arith);
    }

    module _ {T U : PositionSet} {at : ℕ} (x : Advancing T at) (h : at < S.count) (y : Followed on (steps_on list) (get_or S.members at 0) T U) where
      came_more : (q : ℕ) → Marked U.marks q → Came q
      came_more q a = elim (y.added.only q a) [
        | old b ↦ x.came q b
        | new {k} {l} s o ↦ record { member = at; listed = h; number = k; label = l; step = s; passes = o }
      ]

      pub advancing_more : Advancing U (at + 1)
      advancing_more = record { came = came_more; done = done_also S.members at x.done y }

    pub advancing_end : {T : PositionSet} {at : ℕ} → Advancing T at → S.count ≤ at
        → T.marks ≡ spread on (steps_on list) S.marks (replicate most_positions false)
    advancing_end {T} {at} x h =
        spread_is on L S.marks T.marks most_positions T.counted.size
        (λ q a. (
        let v = x.came q a in
        record {
          number = v.number;
          from = get_or S.members v.member 0;
          label = v.label;
          step = v.step;
          passes = v.passes;
          marked = S.counted.marked v.member v.listed;
        }
        ))
        (λ k p q l s o a. let v = member_of S.counted p a in x.done v.0 (omega (arith, v.1)) k q l (subst (λ r. StepAt L k r l q) (sym v.2) s) o)
