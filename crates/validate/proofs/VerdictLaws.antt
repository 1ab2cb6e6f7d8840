-- The verdict on a list from that on its rest, once the entries before it are made at a cost; and
-- that no two cases of the answer give one verdict.
-- Assumes nothing.
use Prim.Native.Nat.{ℕ, suc, ◌+◌, ◌≤◌, ◌<◌}
use mathlib.Core.Path.{◌≡◌, refl, sym, ◌∙◌, ap}
use mathlib.Core.Bool.{Bool, true, false}
use Rattle.std.specs.Prelude.{None, Some}
use mathlib.Core.List.{List, ◌∷◌}
use native.Mathlib.Omega.{arith}
use native.Mathlib.Numerals.{add-one}
use lib.ListN.{length, get_or, drop, drop_of_length-le}
use lib.Seq.{drop-cons}
use Rattle.semantics.specs.Domain.{Domain}
use Rattle.semantics.specs.Verdict.{Verdict, plan, blocked, unfinished, missed}
use Rattle.semantics.specs.Machine.{Arrival, Machine, onward, finished, verdict_from}
use Rattle.semantics.proofs.MachineLaws.{verdict_blocked, verdict_onward}
use Rattle.validate.specs.Verdict.{verdict_of}
use Rattle.validate.specs.declared.verdict.Verdict as A
use Rattle.validate.specs.declared.verdict.Verdict.TheVariants.{Plan, Blocked, Unfinished, Missed}

-- after i entries at cost c
unfoldable pub later : ℕ → ℕ → Verdict → Verdict
later c i (plan d) = plan (c + d)
later c i (blocked j) = blocked (i + j)
later c i unfinished = unfinished
later c i missed = missed

later_none : (v : Verdict) → later 0 0 v ≡ v
unfolding later
later_none (plan d) = let e : 0 + d ≡ d = omega arith in ap plan e
later_none (blocked j) = let e : 0 + j ≡ j = omega arith in ap blocked e
later_none unfinished = refl
later_none missed = refl

-- one entry more
later_onward : (c i d : ℕ) (v : Verdict) → later c i (onward d v) ≡ later (c + d) (i + 1) v
unfolding later onward
later_onward c i d (plan x) = let e : c + (d + x) ≡ c + d + x = omega arith in ap plan e
later_onward c i d (blocked j) = let e : i + suc j ≡ i + 1 + j = omega arith in ap blocked e
later_onward c i d unfinished = refl
later_onward c i d missed = refl

later_blocked : (c i : ℕ) → later c i (blocked 0) ≡ blocked i
unfolding later
later_blocked c i = let e : i + 0 ≡ i = omega arith in ap blocked e

-- where no entry is left, their number doesn't matter
later_finished : (c i : ℕ) (complete goal : Bool) → later c i (finished complete goal) ≡ onward c (finished complete goal)
unfolding later onward finished
later_finished c i true true = refl
later_finished c i true false = refl
later_finished c i false true = refl
later_finished c i false false = refl

-- a list checked entry by entry: the verdict on it is the one that the machine gives its rest from
-- here, after i entries at cost c
module _ (D : Domain) (M : Machine) (plan : List ℕ) (all : Verdict) where
  pub record Left (here : M.Config) (c i : ℕ) : Type 0 where
    pub within : i ≤ length plan
    pub same : all ≡ later c i (verdict_from D M here (drop i plan))

  pub left_start : (here : M.Config) → all ≡ verdict_from D M here plan → Left here 0 0
  left_start here e = record { within = omega arith; same = e ∙ sym (later_none (verdict_from D M here plan)) }

  module _ {here : M.Config} {c i : ℕ} (x : Left here c i) where
    module _ (h : i < length plan) where
      next : all ≡ later c i (verdict_from D M here (get_or plan i 0 ∷ drop (suc i) plan))
      next = x.same ∙ ap (λ (l : List ℕ). later c i (verdict_from D M here l)) (drop-cons plan i 0 h)

      pub left_blocked : M.take here (get_or plan i 0) ≡ None → blocked i ≡ all
      left_blocked e = sym (next ∙ ap (later c i) (verdict_blocked D M here _ _ e) ∙ later_blocked c i)

      pub left_more : {a : Arrival M.Config} → M.take here (get_or plan i 0) ≡ Some a → Left a.to (c + a.cost) (i + 1)
      left_more {a} e = record {
        within = omega arith;
        same = next ∙ ap (later c i) (verdict_onward D M here _ _ a e) ∙ later_onward c i a.cost _ ∙ rw (add-one i);
      }

    pub left_end : length plan ≤ i → onward c (finished (M.complete here) (D.goal (M.state here))) ≡ all
    unfolding verdict_from
    left_end h = sym (x.same
        ∙ ap (λ (l : List ℕ). later c i (verdict_from D M here l)) (drop_of_length-le plan h)
        ∙ later_finished c i (M.complete here) (D.goal (M.state here)))

-- the case of the answer that gives a verdict
abbrev case_of : Verdict → A.Verdict
case_of (plan cost) = Plan cost
case_of (blocked i) = Blocked i
case_of unfinished = Unfinished
case_of missed = Missed

case_of_verdict : (v : A.Verdict) → case_of (verdict_of v) ≡ v
case_of_verdict (Plan cost) = refl
case_of_verdict (Blocked i) = refl
case_of_verdict Unfinished = refl
case_of_verdict Missed = refl

pub verdict_injective : (v w : A.Verdict) → verdict_of v ≡ verdict_of w → v ≡ w
verdict_injective v w e = sym (case_of_verdict v) ∙ ap case_of e ∙ case_of_verdict w
