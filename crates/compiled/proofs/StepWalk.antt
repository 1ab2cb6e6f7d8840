-- The steps from a position, walked from the last one back.
-- Assumes nothing.
use Rattle.std.proofs.Common.{◌≡◌, ℕ, zero, suc, ◌/◌, ◌≤◌, ◌<◌, List, Option, None, Some, eqb, length, sym, ◌∙◌, ap, subst, arith}
use native.Mathlib.Decide.{dec_lt}
use borrow.Author.Tests.{eqb-true, eqb-false}
use Rattle.limits.specs.Limits.{most_positions}
use Rattle.laws.proofs.Tests.{cond_has}
use Rattle.semantics.specs.Label.{Label}
use Rattle.semantics.specs.Path.{StepAt}
use Rattle.semantics.proofs.FlatLaws.{Located, steps_only}
use Rattle.compiled.specs.StepList.{steps_on, start_in, Listed}
use Rattle.compiled.specs.StepIndex.{last_step_from, step_before, link_of}

-- a list's steps lead from and to positions
pub step_inside : {list : List ℕ} → Listed list → {k p q : ℕ} {l : Label} → StepAt (steps_on list) k p l q → (p < most_positions) × (q < most_positions)
step_inside {list} x s =
    let z = steps_only (length list / 4) list s in
    (omega (arith, z.from, x.from _ z.below), omega (arith, z.to, x.to _ z.below))

module _ (list : List ℕ) (p : ℕ) where
  last_within : (n : ℕ) → link_of (last_step_from list p n) ≤ n
  unfolding last_step_from
  last_within zero = omega arith
  last_within (suc k) =
      cond_has (λ x. link_of x ≤ suc k) (eqb (start_in list k) p) (Some k) (last_step_from list p k) (λ e. omega arith) (λ e. omega (arith, last_within k))

  last_starts : (n k : ℕ) → last_step_from list p n ≡ Some k → start_in list k ≡ p
  unfolding last_step_from
  last_starts zero k e = absurd (cc)
  last_starts (suc n) k e =
      cond_has (λ x. x ≡ Some k → start_in list k ≡ p) (eqb (start_in list n) p) (Some n) (last_step_from list p n)
      (λ h x. let y : n ≡ k = cc in rw (← y) (eqb-true (start_in list n) p h)) (λ h x. last_starts n k x) e

  -- no later step starts there
  last_alone : (n k : ℕ) → link_of (last_step_from list p n) ≤ k → k < n → start_in list k ≡ p → ⊥
  unfolding last_step_from
  last_alone zero k l h e = omega arith
  last_alone (suc n) k l h e =
      cond_has (λ x. link_of x ≤ k → ⊥) (eqb (start_in list n) p) (Some n) (last_step_from list p n) (λ t x. omega arith)
      (λ t x. elim (dec_lt k n) [
        | yes y ↦ last_alone n k x y e
        | no y ↦ (let z : n ≡ k = omega arith in eqb-false (start_in list n) p t (ap (start_in list) z ∙ e))
      ]) l

-- `next` is the next one from p; P holds of the label and the end of all from p that come after it
pub record StepWalk (list : List ℕ) (p : ℕ) (P : Label → ℕ → Type 0) (next : Option ℕ) : Type 0 where
  pub within : link_of next ≤ length list / 4
  pub starts : (k : ℕ) → next ≡ Some k → start_in list k ≡ p
  pub holds : (i q : ℕ) (l : Label) → link_of next ≤ i → StepAt (steps_on list) i p l q → P l q

module _ {list : List ℕ} {p : ℕ} where
  pub steps_begin : (P : Label → ℕ → Type 0) {next : Option ℕ} → next ≡ last_step_from list p (length list / 4) → StepWalk list p P next
  steps_begin P {next} e = record {
    within = omega (arith, ap link_of e, last_within list p (length list / 4));
    starts = λ k g. last_starts list p (length list / 4) k (sym e ∙ g);
    holds = λ i q l g s. (
        let y = steps_only (length list / 4) list s in
        absurd (last_alone list p (length list / 4) i (omega (arith, ap link_of e)) y.below (sym y.from))
        );
  }

  module _ {P : Label → ℕ → Type 0} {next : Option ℕ} (w : StepWalk list p P next) where
    -- none is left
    pub steps_end : next ≡ None → (i q : ℕ) (l : Label) → StepAt (steps_on list) i p l q → P l q
    steps_end e i q l s = w.holds i q l (omega (arith, ap link_of e)) s

    module _ {k : ℕ} (some : next ≡ Some k) where
      pub next_inside : k < length list / 4
      next_inside = omega (arith, ap link_of some, w.within)

      at_p : start_in list k ≡ p
      at_p = w.starts k some

      module _ {from to : ℕ} {label : Label} (is : StepAt (steps_on list) k from label to) where
        here : Located (length list / 4) list k from label to
        here = steps_only (length list / 4) list is

        -- the next step starts from p
        pub next_step : StepAt (steps_on list) k p label to
        next_step = rw (here.from ∙ at_p) at is

        module _ {then : Option ℕ} (e : then ≡ step_before list k) where
          is_last : then ≡ last_step_from list p k
          is_last = e ∙ ap (λ r. last_step_from list r k) at_p

          pub steps_fall : link_of then < link_of next
          steps_fall = omega (arith, ap link_of is_last, last_within list p k, ap link_of some)

          -- what holds of the steps walked so far holds on, and of the next one
          pub steps_more : (P' : Label → ℕ → Type 0) → ((l : Label) (q : ℕ) → P l q → P' l q) → P' label to → StepWalk list p P' then
          steps_more P' on also = record {
            within = omega (arith, ap link_of is_last, last_within list p k, next_inside);
            starts = λ j a. last_starts list p k j (sym is_last ∙ a);
            holds = λ i q l a s. elim (dec_lt k i) [
              | yes b ↦ on l q (w.holds i q l (omega (arith, ap link_of some)) s)
              | no b ↦ elim (dec_lt i k) [
                | yes c ↦ absurd (last_alone list p k i (omega (arith, ap link_of is_last)) c (sym (steps_only (length list / 4) list s).from))
                | no c ↦ (
                    let same : i ≡ k = omega arith in
                    let there = steps_only (length list / 4) list (subst (λ (j : ℕ). StepAt (steps_on list) j p l q) same s) in
                    rw (there.label ∙ sym here.label, there.to ∙ sym here.to) also
                    )
              ]
            ];
          }
