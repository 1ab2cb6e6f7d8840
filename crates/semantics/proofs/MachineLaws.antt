-- The verdict of a machine is the verdict by what its configurations stand for.
-- Assumes nothing.
use Prim.Native.Nat.{ℕ, suc, ◌+◌}
use mathlib.Core.Path.{◌≡◌, refl}
use mathlib.Core.Bool.{Bool, true, false}
use Rattle.std.specs.Prelude.{Option, None, Some}
use mathlib.Core.List.{List, [], ◌∷◌}
use mathlib.Core.Logic.{◌↔◌}
use native.Mathlib.Omega.{arith}
use Rattle.laws.proofs.Tests.{never}
use Rattle.semantics.specs.Domain.{Domain}
use Rattle.semantics.specs.Verdict.{Verdict, blocked, Entries, Judged, is_plan, is_blocked, is_unfinished, is_missed}
use Rattle.semantics.specs.Machine.{Arrival, Machine, onward, finished, verdict_from}

-- entries F go on from where a first entry x of E leads, at cost c
pub record GoesOn (E F : Entries) (x c : ℕ) : Type 0 where
  pub made : (es : List ℕ) (u : ℕ) → F.Made es u ↔ E.Made (x ∷ es) u
  pub completed : (es : List ℕ) (u : ℕ) → F.Completed es u ↔ E.Completed (x ∷ es) u
  pub costs : (es : List ℕ) → E.cost_of (x ∷ es) ≡ c + F.cost_of es

onward_verdict : (D : Domain) {E F : Entries} {x c : ℕ} {es : List ℕ} {v : Verdict} → GoesOn E F x c → Judged D F es v → Judged D E (x ∷ es) (onward c v)
unfolding onward
onward_verdict D {es} k (is_plan y g) = rw (← k.costs es) (is_plan ((k.completed _ _).0 y) g)
onward_verdict D k (is_blocked {i} h y f) = is_blocked {i = suc i} (omega arith) ((k.made _ _).0 y) (λ t z. f t ((k.made _ _).1 z))
onward_verdict D k (is_unfinished y f) = is_unfinished ((k.made _ _).0 y) (λ t z. f t ((k.completed _ _).1 z))
onward_verdict D k (is_missed y g) = is_missed ((k.completed _ _).0 y) g

module _ (M : Machine) (Settled : M.Config → Type 0) (E : M.Config → Entries) where
  -- what comes of a first entry x from c
  pub data Takes (c : M.Config) (x : ℕ) : Option (Arrival M.Config) → Type 0 where
    stuck : ((u : ℕ) → (E c).Made (x ∷ []) u → ⊥) → Takes c x None
    goes : {a : Arrival M.Config} → Settled a.to → GoesOn (E c) (E a.to) x a.cost → Takes c x (Some a)

  -- configurations that are settled stand for entries: E c is what lists of entries do from c
  pub record StandsFor : Type 0 where
    pub made : (c : M.Config) → Settled c → (E c).Made [] (M.state c)
    pub completed : (c : M.Config) (u : ℕ) → Settled c → (E c).Completed [] u ↔ ((u ≡ M.state c) × (M.complete c ≡ true))
    pub free : (c : M.Config) → (E c).cost_of [] ≡ 0
    pub takes : (c : M.Config) (x : ℕ) → Settled c → Takes c x (M.take c x)

module _ (D : Domain) (M : Machine) (c : M.Config) (x : ℕ) (xs : List ℕ) where
  pub verdict_blocked : M.take c x ≡ None → verdict_from D M c (x ∷ xs) ≡ blocked 0
  unfolding verdict_from
  verdict_blocked h = rw (h, verdict_from)

  pub verdict_onward : (a : Arrival M.Config) → M.take c x ≡ Some a → verdict_from D M c (x ∷ xs) ≡ onward a.cost (verdict_from D M a.to xs)
  unfolding verdict_from
  verdict_onward a h = rw (h, verdict_from)

module _ (D : Domain) (M : Machine) (Settled : M.Config → Type 0) (E : M.Config → Entries) (law : StandsFor M Settled E) where
  judged_end : (c : M.Config) (a b : Bool) → Settled c → M.complete c ≡ a → D.goal (M.state c) ≡ b → Judged D (E c) [] (finished a b)
  unfolding finished
  judged_end c true true r m g = rw (← law.free c) (is_plan {u = M.state c} ((law.completed c _ r).1 (refl, m)) g)
  judged_end c true false r m g = is_missed {u = M.state c} ((law.completed c _ r).1 (refl, m)) g
  judged_end c false b r m g = is_unfinished {u = M.state c} (law.made c r) (λ t y. never (cc ((law.completed c t r).0 y).1))

  pub machine_judged : (es : List ℕ) (c : M.Config) → Settled c → Judged D (E c) es (verdict_from D M c es)
  machine_judged [] c r = unfold verdict_from in judged_end c (M.complete c) (D.goal (M.state c)) r refl refl
  machine_judged (x ∷ es) c r = by (M.take c x) refl (law.takes c x r) (λ (d : M.Config) (k : Settled d). machine_judged es d k)
    where
      by : (o : Option (Arrival M.Config)) → M.take c x ≡ o → Takes M Settled E c x o
          → ((d : M.Config) → Settled d → Judged D (E d) es (verdict_from D M d es)) → Judged D (E c) (x ∷ es) (verdict_from D M c (x ∷ es))
      by None h (stuck f) rest = rw (verdict_blocked D M c x es h) (is_blocked {i = 0} {u = M.state c} (omega arith) (law.made c r) f)
      by (Some a) h (goes k f) rest = rw (verdict_onward D M c x es a h) (onward_verdict D f (rest a.to k))
