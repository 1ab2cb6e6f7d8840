-- The steps from a position, followed one by one.
-- Assumes nothing.
use Rattle.std.proofs.Common.{◌≡◌, ℕ, ◌<◌, Bool, true, false, List, Option, None, Some, refl, sym, ◌∙◌, subst, inl, inr, length, ◌/◌, arith}
use Rattle.std.proofs.Math.Seq.{get_or-set_same}
use Rattle.limits.specs.Limits.{most_positions}
use Rattle.laws.proofs.Tests.{never}
use Rattle.semantics.specs.Label.{Label}
use Rattle.semantics.specs.Path.{StepAt}
use Rattle.semantics.specs.PositionSets.{Marked}
use Rattle.semantics.proofs.Marks.{set_keeps, set_from}
use Rattle.compiled.specs.StepList.{steps_on}
use Rattle.compiled.specs.StepIndex.{last_step_from, step_before}
use Rattle.compiled.proofs.StepWalk.{StepWalk, steps_begin, next_step, steps_more, steps_end}
use Rattle.validate.specs.Positions.{Marking, Source, old, new, Added, Followed}
use Rattle.validate.specs.declared.position_set.PositionSet.{PositionSet}

-- what marking a position keeps and adds
module _ {q : ℕ} {S T : PositionSet} (x : Marking q S T) where
  pub marking_keeps : (p : ℕ) → Marked S.marks p → Marked T.marks p
  marking_keeps p h = rw x.is (set_keeps S.marks q p h)

  pub marking_adds : q < most_positions → Marked T.marks q
  marking_adds h = rw x.is (get_or-set_same S.marks q true false (omega (arith, S.counted.size)))

module _ (on : Label → Bool) (list : List ℕ) (p : ℕ) (S : PositionSet) where
  -- a step that is on leads to a mark
  abbrev pub Led : PositionSet → Label → ℕ → Type 0
  Led T l q = on l ≡ true → Marked T.marks q

  -- the steps after `next` are followed
  pub record Following (T : PositionSet) (next : Option ℕ) : Type 0 where
    pub added : Added on (steps_on list) p S T
    pub walked : StepWalk list p (λ l q. on l ≡ true → Marked T.marks q) next

  pub follow_begin : {next : Option ℕ} → next ≡ last_step_from list p (length list / 4) → Following S next
  follow_begin e = record {
    added = record { keeping = record { kept = λ i l. refl; more = omega arith }; grown = λ q m. m; only = λ q m. old m };
    walked = steps_begin (Led S) e;
  }

  pub follow_end : {T : PositionSet} {next : Option ℕ} → Following T next → next ≡ None → Followed on (steps_on list) p S T
  follow_end x e = record { added = x.added; ends = λ k q l. steps_end x.walked e k q l }

  module _ {T : PositionSet} {next then : Option ℕ} {k : ℕ} (x : Following T next) (some : next ≡ Some k) {from to : ℕ} {label : Label}
      (is : StepAt (steps_on list) k from label to) (before : then ≡ step_before list k) where
    -- a step that is not wanted
    pub follow_past : on label ≡ false → Following T then
    follow_past off = record {
      added = x.added;
      walked = steps_more x.walked some is before (Led T) (λ l q f. f) (λ o. never (sym off ∙ o));
    }

    -- one that is, and whose end is marked
    module _ (wanted : on label ≡ true) (inside : to < most_positions) {U : PositionSet} (y : Marking to T U) where
      abbrev a : Added on (steps_on list) p S T
      a = x.added

      only : (q : ℕ) → Marked U.marks q → Source on (steps_on list) p S.marks q
      only q b = elim (set_from T.marks to q (subst (λ (V : List Bool). Marked V q) y.is b)) [
        | inl e ↦ rw e (new (next_step x.walked some is) wanted)
        | inr c ↦ a.only q c
      ]

      pub follow_more : Following U then
      follow_more = record {
        added = record {
          keeping = record {
            kept = λ i b. y.keeping.kept i (omega (arith, a.keeping.more)) ∙ a.keeping.kept i b;
            more = omega (arith, a.keeping.more, y.keeping.more);
          };
          grown = λ q b. marking_keeps y q (a.grown q b);
          only = only;
        };
        walked = steps_more x.walked some is before (Led U) (λ l q f o. marking_keeps y q (f o)) (λ o. marking_adds y inside);
      }
