-- Effects of a move: one more, the same by values that tell the same, and what the sets of facts that
-- get 0 and 1 say of a conflict and of the state after.
-- Assumes nothing.
use Rattle.std.proofs.Common.{ℕ, ◌+◌, ◌^◌, ◌≤◌, ◌<◌, ◌≡◌, refl, sym, ◌∙◌, ap, ap₂, Bool, true, false, cond, not, ◌&&◌, ◌||◌, List, [], ◌∷◌, arith}
use Rattle.std.proofs.Common.{eqb, length, get_or, take, drop, length-drop, bit_and, bit_or}
use mathlib.Core.Bool.{or-true}
use lib.Seq.{get_or-drop}
use lib.Pow.{pow_pos}
use lib.Bits.{and_le_l, or_lt}
use Rattle.std.specs.Int.{w16, bit_not}
use Rattle.limits.specs.Limits.{most_facts, most_states}
use borrow.Author.Tests.{eqb-true}
use Rattle.laws.proofs.Tests.{never, and_left, and_right, and_both, or_either, tests_equal}
use Rattle.job.specs.Job.{Effect, effect_of}
use Rattle.domain.specs.State.{fact, HasFacts}
use Rattle.std.specs.List.{list_any}
use Rattle.std.proofs.lemmas.List.Folds.{list_any_more, list_any_none}
use Rattle.domain.specs.Effects.{gives, gets, conflicts, fact_after, affected, ChangesAre}
use Rattle.domain.proofs.FactLaws.{count_within, fact_and, fact_or, fact_without, no_fact, worth_below, worth_fact}
use Rattle.domain.proofs.StateLaws.{state_only, state_same, facts_decide}

any_so : {A : Type 0} (p q : A → Bool) → ((a : A) → p a ≡ true → q a ≡ true) → (l : List A) → list_any p l ≡ true → list_any q l ≡ true
any_so p q h [] e = e
any_so p q h (a ∷ l) e = or_either (p a) (list_any p l) (λ d. rw (h a d) refl) (λ d. rw (any_so p q h l d) (or-true (q a))) e

-- no effects, and one more of those from number `first` on
module _ (n : ℕ) (vs : List Bool) (es : List Effect) (first : ℕ) where
  abbrev up_to : ℕ → List Effect
  up_to k = take k (drop first es)

  pub changed_none : ChangesAre n vs (up_to 0) 0 0
  unfolding gets
  changed_none = record { cleared = record { below = pow_pos n; facts = no_fact }; set = record { below = pow_pos n; facts = no_fact } }

  module _ (k : ℕ) (h : first + k < length es) {e : Effect} (is : e ≡ get_or es (first + k) (effect_of [])) (small : e.fact < n) where
    gets_more : (v i : ℕ) → gets vs (up_to (k + 1)) v i ≡ gets vs (up_to k) v i || gives vs v i e
    unfolding gets
    gets_more v i =
        let g : k < length (drop first es) = simp length-drop (omega arith) in
        rw (list_any_more (gives vs v i) (drop first es) k (effect_of []) g, get_or-drop first es k (effect_of []), ← is) refl

    module _ {on : Bool} (on-is : on ≡ get_or vs e.cond false) where
      facts_more : (v w x : ℕ) → HasFacts n (gets vs (up_to k) v) w → x ≡ cond (on && eqb e.value v) (2 ^ e.fact) 0
          → HasFacts n (gets vs (up_to (k + 1)) v) (bit_or w x)
      unfolding gives
      facts_more v w x g one = rw one (record {
        below = or_lt n w y g.below (worth_below n e.fact small b);
        facts = λ i. fact_or w y i ∙ ap₂ ◌||◌ (g.facts i) (worth_fact e.fact i b ∙ ap (λ (t : Bool). t && eqb e.value v && eqb e.fact i) on-is)
            ∙ sym (gets_more v i);
      })
        where
          b : Bool
          b = on && eqb e.value v

          y : ℕ
          y = cond b (2 ^ e.fact) 0

      pub changed_more : (c s x y : ℕ) → ChangesAre n vs (up_to k) c s → x ≡ cond (on && eqb e.value 0) (2 ^ e.fact) 0
          → y ≡ cond (on && eqb e.value 1) (2 ^ e.fact) 0 → ChangesAre n vs (up_to (k + 1)) (bit_or c x) (bit_or s y)
      changed_more c s x y g f d = record { cleared = facts_more 0 c x g.cleared f; set = facts_more 1 s y g.set d }

-- by values that tell the same, effects change the same facts
module _ (vs us : List Bool) (same : (a : ℕ) → get_or vs a false ≡ get_or us a false) where
  pub gets_same : (es : List Effect) (v i : ℕ) → gets vs es v i ≡ gets us es v i
  unfolding gets gives
  gets_same [] v i = refl
  gets_same (e ∷ es) v i = rw (same e.cond, gets_same es v i) refl

  has_same : (n : ℕ) (es : List Effect) (v : ℕ) {x : ℕ} → HasFacts n (gets vs es v) x → HasFacts n (gets us es v) x
  has_same n es v x = record { below = x.below; facts = λ i. x.facts i ∙ gets_same es v i }

  pub changes_same : (n : ℕ) (es : List Effect) {c s : ℕ} → ChangesAre n vs es c s → ChangesAre n us es c s
  changes_same n es x = record { cleared = has_same n es 0 x.cleared; set = has_same n es 1 x.set }

-- the set of facts that are cleared, and that of those that are set
module _ (vs : List Bool) (es : List Effect) (n : ℕ) {c s : ℕ} (g : ChangesAre n vs es c s) where
  common : (i : ℕ) → fact (bit_and c s) i ≡ gets vs es 0 i && gets vs es 1 i
  common i = fact_and c s i ∙ ap₂ ◌&&◌ (g.cleared.facts i) (g.set.facts i)

  pub no_conflict : bit_and c s ≡ 0 → conflicts vs es ≡ false
  unfolding conflicts
  no_conflict z = list_any_none _ es (λ k d h. let e = get_or es k d in sym (common e.fact) ∙ ap (λ (x : ℕ). fact x e.fact) z ∙ no_fact e.fact)

-- a fact that is cleared and set is a conflict
pub cleared_and_set_conflicts : (vs : List Bool) (es : List Effect) (i : ℕ) → gets vs es 0 i ≡ true → gets vs es 1 i ≡ true → conflicts vs es ≡ true
unfolding conflicts gets gives
cleared_and_set_conflicts vs es i a b = any_so (gives vs 0 i) (λ e. gets vs es 0 e.fact && gets vs es 1 e.fact) both es a
  where
    both : (e : Effect) → gives vs 0 i e ≡ true → gets vs es 0 e.fact && gets vs es 1 e.fact ≡ true
    both e h =
        let f : e.fact ≡ i = eqb-true e.fact i (and_right (get_or vs e.cond false && eqb e.value 0) (eqb e.fact i) h) in
        rw f (and_both _ _ a b)

kept_cleared_set : (w c s : Bool) → (w && not c) || s ≡ cond s true (cond c false w)
kept_cleared_set w c true = or-true (w && not c)
kept_cleared_set true true false = refl
kept_cleared_set false true false = refl
kept_cleared_set true false false = refl
kept_cleared_set false false false = refl

-- the same two sets
module _ (vs : List Bool) (es : List Effect) (n : ℕ) {c s : ℕ} (g : ChangesAre n vs es c s) where
  apart : conflicts vs es ≡ false → bit_and c s ≡ 0
  apart e = facts_decide n (bit_and c s) 0 (omega (arith, and_le_l c s, g.cleared.below)) (pow_pos n) (λ i. tests_equal (fact (bit_and c s) i) (fact 0 i)
      (λ t. let both = sym (common vs es n g i) ∙ t in
      never (sym e ∙ cleared_and_set_conflicts vs es i (and_left _ (gets vs es 1 i) both) (and_right (gets vs es 0 i) _ both)))
      (λ t. never (sym (no_fact i) ∙ t)))

  pub some_conflict : (bit_and c s ≡ 0 → ⊥) → conflicts vs es ≡ true
  some_conflict some = decided (conflicts vs es) refl
    where
      decided : (b : Bool) → conflicts vs es ≡ b → b ≡ true
      decided true e = refl
      decided false e = absurd (some (apart e))

  pub affected_by : n ≤ most_facts → (w : ℕ) → w < 2 ^ n → bit_or (bit_and w (bit_not w16 c)) s ≡ affected n vs es w
  unfolding affected fact_after
  affected_by few w h =
      let short : 2 ^ n ≤ most_states = count_within n few in
      let r : ℕ = bit_or (bit_and w (bit_not w16 c)) s in
      state_only n r (or_lt n (bit_and w (bit_not w16 c)) s (omega (arith, and_le_l w (bit_not w16 c))) g.set.below)
      ∙ state_same n (fact r) (fact_after vs es w)
      (λ i. rw (fact_or (bit_and w (bit_not w16 c)) s i, fact_without w c i (omega arith) (omega (arith, g.cleared.below)), g.cleared.facts i, g.set.facts i)
      (kept_cleared_set (fact w i) (gets vs es 0 i) (gets vs es 1 i)))
