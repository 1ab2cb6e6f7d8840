-- Where a step leads as a function, and as what the step does: the same.
-- Assumes nothing.
use Prim.Native.Nat.{ℕ, zero, suc, ◌≤◌, ◌<◌}
use mathlib.Core.Path.{◌≡◌, refl, ◌∙◌, subst}
use mathlib.Core.Bool.{not, cond}
use Rattle.std.specs.Prelude.{Option, None, Some}
use mathlib.Core.List.{List, [], ◌∷◌}
use native.Mathlib.Omega.{arith}
use lib.Dec.{eqb}
use borrow.Author.Tests.{eqb-true, eq-eqb, not-true}
use Rattle.laws.proofs.Tests.{never, cond_some}
use Rattle.semantics.specs.Label.{Label, noop, holds, fails, make}
use Rattle.semantics.specs.Domain.{Domain}
use Rattle.semantics.specs.CompilingTable.{Step, arc}
use Rattle.semantics.specs.Path.{Does, idles, passes, refutes, moves_on, StepAt, here, there}
use Rattle.semantics.specs.Plan.{cost}
use Rattle.semantics.specs.Machine.{Arrival}
use Rattle.semantics.specs.StepVerdict.{Configuration, arrival, stays, arrives, made}
use Rattle.semantics.proofs.CostLaws.{cost_one}
use Rattle.semantics.proofs.Bounds.{Bounded, does_bounded}

-- a step of label l to q, made in state s, does what its arrival says
pub record Led (D : Domain) (l : Label) (s q : ℕ) (a : Arrival Configuration) : Type 0 where
  pub moves : List ℕ
  pub does : Does D l s moves a.to.state
  pub costs : cost D s moves ≡ a.cost
  pub position : a.to.position ≡ q

-- step number i of the list, made at position p in state s
pub record Makes (D : Domain) (L : List Step) (i s p : ℕ) (a : Arrival Configuration) : Type 0 where
  pub label : Label
  pub at : StepAt L i p label a.to.position
  pub arrived : Led D label s a.to.position a

module _ (D : Domain) where
  pub does_arrives : {l : Label} {s t : ℕ} {ks : List ℕ} (q : ℕ) → Does D l s ks t
      → arrives D l s q ≡ Some (arrival t q (cost D s ks))
  unfolding arrives cost
  does_arrives q idles = refl
  does_arrives q (passes h) = rw h
  does_arrives q (refutes h) = rw h
  does_arrives q (moves_on {a} {s} {t} h) = rw (cost_one D s t a h, h, arrives)

  module _ {s q : ℕ} {a : Arrival Configuration} where
    stays_does : {l : Label} → Does D l s [] s → stays s q ≡ Some a → Led D l s q a
    unfolding cost
    stays_does {l} d e =
        let f : ◌≡◌ {A = Arrival Configuration} (arrival s q 0) a = cc in
        subst (λ (b : Arrival Configuration). Led D l s q b) f (record { moves = []; does = d; costs = refl; position = refl })

    pub arrives_does : {l : Label} → arrives D l s q ≡ Some a → Led D l s q a
    unfolding arrives
    arrives_does {l = noop} e = stays_does idles e
    arrives_does {l = holds f} e = let v = cond_some (D.holds f s) e in stays_does (passes v.0) v.1
    arrives_does {l = fails f} e = let v = cond_some (not (D.holds f s)) e in stays_does (refutes (not-true _ v.0)) v.1
    arrives_does {l = make m} e = by (D.successor m s) refl e
      where
        by : (o : Option ℕ) → D.successor m s ≡ o
            → ◌≡◌ {A = Option (Arrival Configuration)} (elim o [ None ↦ None | Some t ↦ Some (arrival t q (D.cost m s)) ]) (Some a)
            → Led D (make m) s q a
        by None k e = never (cc)
        by (Some t) k e =
            let f : ◌≡◌ {A = Arrival Configuration} (arrival t q (D.cost m s)) a = cc in
            subst (λ (b : Arrival Configuration). Led D (make m) s q b) f
            (record { moves = m ∷ []; does = moves_on k; costs = cost_one D s t m k; position = refl })

  -- a step of the list
  pub made_at : (s r : ℕ) {L : List Step} {i p q : ℕ} {l : Label} → StepAt L i p l q → made D L i s r ≡ cond (eqb p r) (arrives D l s q) None
  unfolding made
  made_at s r here = refl
  made_at s r (there h) = made_at s r h

  pub does_made : {L : List Step} {i p q s t : ℕ} {l : Label} {ks : List ℕ} → StepAt L i p l q → Does D l s ks t
      → made D L i s p ≡ Some (arrival t q (cost D s ks))
  does_made {p} {q} {s} h d = made_at s p h ∙ rw (eq-eqb p p refl) (does_arrives q d)

  first_makes : {L : List Step} {s p q from : ℕ} {l : Label} {a : Arrival Configuration} → from ≡ p → Led D l s q a → Makes D (arc l from q ∷ L) 0 s p a
  first_makes {L} {s} {p} {q} {l} {a} e x = record {
    label = l;
    at = rw (e, x.position) here;
    arrived = record { moves = x.moves; does = x.does; costs = x.costs; position = refl };
  }

  pub made_makes : (L : List Step) (i s p : ℕ) {a : Arrival Configuration} → made D L i s p ≡ Some a → Makes D L i s p a
  unfolding made
  made_makes [] i s p e = never (cc)
  made_makes (arc l from to ∷ L) zero s p e = let v = cond_some (eqb from p) e in first_makes (eqb-true from p v.0) (arrives_does v.1)
  made_makes (c ∷ L) (suc i) s p e = let x = made_makes L i s p e in record { label = x.label; at = there x.at; arrived = x.arrived }

  -- one step leads from a state to a state, and costs no more than one move may
  pub made_bounded : {most : ℕ} → Bounded D most → (L : List Step) (i s p : ℕ) {a : Arrival Configuration} → s < D.states → made D L i s p ≡ Some a
      → (a.to.state < D.states) × (a.cost ≤ most)
  made_bounded b L i s p h e =
      let x = (made_makes L i s p e).arrived in
      let y = does_bounded b h x.does in
      (y.0, omega (arith, y.1, x.costs))
