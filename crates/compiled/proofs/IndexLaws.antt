-- Links to the steps from each position, as they are made.
-- Assumes nothing.
use Rattle.std.proofs.Common.{◌≡◌, ℕ, ◌+◌, ◌/◌, ◌<◌, Bool, true, false, cond, List, Option, None}
use Rattle.std.proofs.Common.{Some, eqb, length, get_or, set, replicate, refl, sym, ◌∙◌, ap, add-one, arith}
use Rattle.std.proofs.Math.ListN.{length-set, length-replicate}
use Rattle.std.proofs.Math.Seq.{get_or-set_same, get_or-set_other}
use borrow.Author.Tests.{eqb-true, eqb-false}
use Rattle.limits.specs.Limits.{most_positions, most_steps}
use Rattle.laws.proofs.Lists.{replicate_default}
use Rattle.compiled.specs.StepList.{start_in}
use Rattle.semantics.proofs.FlatLaws.{steps_at, steps_only}
use Rattle.compiled.specs.declared.index.LinkedStep.{LinkedStep}
use Rattle.compiled.specs.Steps.{IsStep}
use Rattle.compiled.specs.StepIndex.{last_step_from, step_before, link_of, Linked, unread, StepsRead}
use native.Mathlib.Decide.{ℕ_discrete}

pub same_link : (a b : Option ℕ) → link_of a ≡ link_of b → a ≡ b
same_link None None e = refl
same_link None (Some k) e = absurd (omega arith)
same_link (Some k) None e = absurd (omega arith)
same_link (Some j) (Some k) e = let z : j ≡ k = omega arith in ap Some z

pub linked_none : (list : List ℕ) → Linked list 0 (replicate most_positions 0) (replicate most_steps unread)
unfolding last_step_from
linked_none list = record {
  positions = length-replicate {A = ℕ} most_positions 0;
  steps = length-replicate {A = LinkedStep} most_steps unread;
  last_from = λ p h. replicate_default {A = ℕ} 0 most_positions p;
  before_each = λ k h. absurd (omega arith);
}

-- one step more
module _ (list last : List ℕ) (read : List LinkedStep) (k q : ℕ) (new : LinkedStep) (links : new.before ≡ get_or last q 0)
    (x : Linked list k last read) (room : k < most_steps) (starts : q ≡ start_in list k) (inside : q < most_positions) where
  last_by : (p : ℕ) → p < most_positions → (b : Bool) → eqb q p ≡ b → get_or (set last q (k + 1)) p 0 ≡ link_of (cond b (Some k) (last_step_from list p k))
  last_by p h true e =
      let y : p ≡ q = sym (eqb-true q p e) in
      ap (λ i. get_or (set last q (k + 1)) i 0) y ∙ get_or-set_same last q (k + 1) 0 (rw x.positions inside) ∙ add-one k
  last_by p h false e = get_or-set_other last q p (k + 1) 0 (λ y. eqb-false q p e (sym y)) ∙ x.last_from p h

  last_more : (p : ℕ) → last_step_from list p (k + 1) ≡ cond (eqb q p) (Some k) (last_step_from list p k)
  unfolding last_step_from
  last_more p = rw (add-one k, starts)

  before_by : (i : ℕ) → i < k + 1 → (b : Bool) → eqb i k ≡ b → (get_or (set read k new) i unread).before ≡ link_of (step_before list i)
  before_by i h true e =
      let y : i ≡ k = eqb-true i k e in
      rw y (ap (λ (r : LinkedStep). r.before) (get_or-set_same read k new unread (rw x.steps room)) ∙ links ∙ x.last_from q inside ∙ ap (λ p. link_of (last_step_from list p k)) starts)
  before_by i h false e =
      let ne : i ≡ k → ⊥ = eqb-false i k e in
      ap (λ (r : LinkedStep). r.before) (get_or-set_other read k i new unread ne) ∙ x.before_each i (omega arith)

  pub linked_more : Linked list (k + 1) (set last q (k + 1)) (set read k new)
  linked_more = record {
    positions = length-set last q (k + 1) ∙ x.positions;
    steps = length-set read k new ∙ x.steps;
    last_from = λ p h. last_by p h (eqb q p) refl ∙ ap link_of (sym (last_more p));
    before_each = λ i h. before_by i h (eqb i k) refl;
  }

-- steps as they are read
pub read_none : (list : List ℕ) → StepsRead list 0 (replicate most_steps unread)
read_none list = record {
  size = length-replicate {A = LinkedStep} most_steps unread;
  label = λ k h. absurd (omega arith);
  to = λ k h. absurd (omega arith);
}

pub read_more : (list : List ℕ) (steps : List LinkedStep) (n : ℕ) (step : LinkedStep) → StepsRead list n steps → n < most_steps → IsStep list n step.step
    → StepsRead list (n + 1) (set steps n step)
read_more list steps n step x room is =
    let at = steps_only (length list / 4) list is in
    let same : get_or (set steps n step) n unread ≡ step = get_or-set_same steps n step unread (rw x.size room) in
    record {
      size = length-set steps n step ∙ x.size;
      label = λ k h. elim (ℕ_discrete k n) [
        | yes z ↦ rw (z, same) at.label
        | no z ↦ rw (get_or-set_other steps n k step unread z) (x.label k (omega arith))
      ];
      to = λ k h. elim (ℕ_discrete k n) [
        | yes z ↦ rw (z, same) at.to
        | no z ↦ rw (get_or-set_other steps n k step unread z) (x.to k (omega arith))
      ];
    }

pub read_step : {list : List ℕ} {steps : List LinkedStep} → StepsRead list (length list / 4) steps → (k : ℕ) → k < length list / 4
    → IsStep list k ((get_or steps k unread).step)
read_step {list} x k h = rw (x.label k h, x.to k h) (steps_at (length list / 4) list k h)
