-- The verdict on a list of steps, entry by entry.
-- Assumes nothing.
use Prim.Native.Nat.{ℕ, ◌+◌, ◌*◌, ◌≤◌, ◌<◌}
use mathlib.Core.Path.{◌≡◌, sym, ◌∙◌}
use Rattle.std.specs.Prelude.{Option, None, Some}
use mathlib.Core.List.{List}
use native.Mathlib.Omega.{arith}
use lib.Dec.{eqb}
use lib.ListN.{length, get_or}
use borrow.Author.Tests.{eq-eqb, ne_eqb}
use Rattle.semantics.specs.Label.{Label}
use Rattle.semantics.specs.Path.{StepAt}
use Rattle.semantics.specs.Domain.{Domain}
use Rattle.semantics.specs.CompilingTable.{Step}
use Rattle.semantics.specs.Verdict.{blocked}
use Rattle.semantics.specs.Machine.{Arrival, onward, finished}
use Rattle.semantics.specs.StepVerdict.{Configuration, arrives, made, step_machine, step_verdict}
use Rattle.semantics.proofs.Bounds.{Bounded}
use Rattle.semantics.proofs.Arrivals.{made_at, made_bounded}
use Rattle.validate.proofs.VerdictLaws.{Left, left_start, left_blocked, left_more, left_end}

-- a step, made at position p where it starts from there
module _ (D : Domain) (s p : ℕ) {L : List Step} {i from to : ℕ} {l : Label} (is : StepAt L i from l to) where
  pub made_here : {o : Option (Arrival Configuration)} → from ≡ p → o ≡ arrives D l s to → o ≡ made D L i s p
  made_here e f = f ∙ sym (made_at D s p is ∙ rw (eq-eqb from p e))

  pub made_nowhere : (from ≡ p → ⊥) → None ≡ made D L i s p
  made_nowhere e = sym (made_at D s p is ∙ rw (ne_eqb from p e))

-- after i entries at this cost, in a state and at a position
pub record Stepping (D : Domain) (most : ℕ) (L : List Step) (e : ℕ) (plan : List ℕ) (s p c i : ℕ) : Type 0 where
  pub left : Left D (step_machine D L e) plan (step_verdict D L e plan) (record { state = s; position = p }) c i
  pub state : s < D.states
  pub cost : c ≤ most * i

module _ {D : Domain} {most : ℕ} {L : List Step} {e : ℕ} {plan : List ℕ} where
  pub stepping_start : Bounded D most → {s : ℕ} → s ≡ D.start → Stepping D most L e plan s 0 0 0
  unfolding step_verdict
  stepping_start b f = record { left = left_start D _ plan _ _ (rw f); state = rw f b.start; cost = omega arith }

  module _ {s p c i : ℕ} (x : Stepping D most L e plan s p c i) where
    module _ (h : i < length plan) where
      pub stepping_blocked : None ≡ made D L (get_or plan i 0) s p → blocked i ≡ step_verdict D L e plan
      stepping_blocked n = left_blocked D _ plan _ x.left h (sym n)

      pub stepping_more : Bounded D most → {a : Arrival Configuration} → Some a ≡ made D L (get_or plan i 0) s p
          → Stepping D most L e plan a.to.state a.to.position (c + a.cost) (i + 1)
      stepping_more b n =
          let v = made_bounded D b L (get_or plan i 0) s p x.state (sym n) in
          record { left = left_more D _ plan _ x.left h (sym n); state = v.0; cost = omega (arith, x.cost, v.1) }

    pub stepping_end : length plan ≤ i → onward c (finished (eqb p e) (D.goal s)) ≡ step_verdict D L e plan
    stepping_end h = left_end D _ plan _ x.left h
