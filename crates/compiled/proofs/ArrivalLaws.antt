-- Where one step leads, by what the code knows of it.
-- Assumes nothing.
use Rattle.std.proofs.Common.{◌≡◌, ℕ, List, Option, None, Some, sym, ◌∙◌, ap}
use Rattle.laws.proofs.Tests.{never}
use Rattle.semantics.specs.Label.{Label, make}
use Rattle.semantics.specs.Domain.{Domain}
use Rattle.semantics.specs.Path.{Does}
use Rattle.semantics.specs.Plan.{cost}
use Rattle.semantics.specs.Machine.{Arrival}
use Rattle.semantics.specs.StepVerdict.{Configuration, arrival, arrives}
use Rattle.semantics.proofs.Arrivals.{Led, does_arrives, arrives_does}

module _ (D : Domain) (s q : ℕ) where
  -- a move
  module _ (m : ℕ) where
    pub arrives_after : {t c : ℕ} → Some t ≡ D.successor m s → c ≡ D.cost m s → Some (arrival t q c) ≡ arrives D (make m) s q
    unfolding arrives
    arrives_after e f = rw (← e, ← f, arrives)

    pub arrives_nowhere : None ≡ D.successor m s → None ≡ arrives D (make m) s q
    unfolding arrives
    arrives_nowhere e = rw (← e, arrives)

module _ (D : Domain) (l : Label) (s q : ℕ) where
  pub arrives_led : {a : Arrival Configuration} → Some a ≡ arrives D l s q → Led D l s q a
  arrives_led e = arrives_does D (sym e)

  -- it leads nowhere else
  pub arrives_alone : {a : Arrival Configuration} → Some a ≡ arrives D l s q → (u : ℕ) (ks : List ℕ) → Does D l s ks u
      → (u ≡ a.to.state) × (cost D s ks ≡ a.cost)
  arrives_alone {a} e u ks d =
      let f : ◌≡◌ {A = Option (Arrival Configuration)} (Some (arrival u q (cost D s ks))) (Some a) = sym (does_arrives D q d) ∙ sym e in
      let g : ◌≡◌ {A = Arrival Configuration} (arrival u q (cost D s ks)) a = cc in
      (ap (λ (b : Arrival Configuration). b.to.state) g, ap (λ (b : Arrival Configuration). b.cost) g)

  pub arrives_never : None ≡ arrives D l s q → (u : ℕ) (ks : List ℕ) → Does D l s ks u → ⊥
  arrives_never e u ks d =
      let f : ◌≡◌ {A = Option (Arrival Configuration)} None (Some (arrival u q (cost D s ks))) = e ∙ does_arrives D q d in never (cc)
