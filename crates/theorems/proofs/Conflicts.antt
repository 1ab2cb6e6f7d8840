-- What a conflict of effects is, in the words of the request; that the order of effects does not matter;
-- and what holds of each fact after a move.
-- Assumes nothing.
use Prim.Native.Nat.{ℕ, ◌<◌}
use mathlib.Core.Path.{◌≡◌, refl, sym, ◌∙◌}
use mathlib.Core.Logic.{◌↔◌}
use mathlib.Core.Bool.{Bool, true, ◌&&◌, or-true}
use Rattle.std.specs.Prelude.{Some}
use mathlib.Core.List.{List, [], ◌∷◌, Memᴰ}
use Rattle.laws.proofs.Tests.{never, and_left, and_right, or_either, tests_equal}
use Rattle.job.specs.Job.{Job, Effect, move_at}
use Rattle.std.specs.List.{list_any}
use Rattle.domain.specs.State.{fact, values}
use Rattle.domain.specs.Effects.{gives, gets, conflicts, fact_after, affected}
use Rattle.domain.specs.Domain.{effects_of, successor_of}
use Rattle.domain.proofs.StateLaws.{state_same, state_facts}
use Rattle.domain.proofs.EffectLaws.{cleared_and_set_conflicts}
use Rattle.domain.proofs.SuccessorLaws.{successor_is}

-- a test passes on some element of a list just where it passes on a member
module _ {A : Type 0} (p : A → Bool) where
  any_member : (l : List A) → list_any p l ≡ true → (a : A) × Memᴰ a l × (p a ≡ true)
  any_member [] e = never e
  any_member (a ∷ l) e = or_either (p a) (list_any p l) (λ d. (a, Memᴰ.head refl, d)) (λ d. let v = any_member l d in (v.0, Memᴰ.tail v.1, v.2)) e

  member_any : {a : A} (l : List A) → Memᴰ a l → p a ≡ true → list_any p l ≡ true
  member_any [] m e = elim m [ ]
  member_any (b ∷ l) (Memᴰ.head h) e = rw (← h, e) refl
  member_any (b ∷ l) (Memᴰ.tail m) e = rw (member_any l m e) (or-true (p b))

-- "its effects that hold both clear and set one fact"
module _ (vs : List Bool) (es : List Effect) where
  some_fact : conflicts vs es ≡ true → (i : ℕ) × (gets vs es 0 i ≡ true) × (gets vs es 1 i ≡ true)
  unfolding conflicts
  some_fact e =
      let v = any_member (λ (x : Effect). gets vs es 0 x.fact && gets vs es 1 x.fact) es e in
      let i : ℕ = v.0.fact in
      (i, and_left (gets vs es 0 i) (gets vs es 1 i) v.2, and_right (gets vs es 0 i) (gets vs es 1 i) v.2)

  pub conflict_exactly : (conflicts vs es ≡ true) ↔ ((i : ℕ) × (gets vs es 0 i ≡ true) × (gets vs es 1 i ≡ true))
  conflict_exactly = (some_fact, λ x. cleared_and_set_conflicts vs es x.0 x.1 x.2)

  -- a fact gets a value from an effect that holds
  pub gets_exactly : (v i : ℕ) → (gets vs es v i ≡ true) ↔ ((e : Effect) × Memᴰ e es × (gives vs v i e ≡ true))
  unfolding gets
  gets_exactly v i = (any_member (gives vs v i) es, λ x. member_any (gives vs v i) es x.1 x.2)

-- effects that are the same, in whatever order and however often, conflict in the same states and lead
-- to the same state
module _ (vs : List Bool) (es us : List Effect)
    (there : (e : Effect) → Memᴰ e es → Memᴰ e us) (back : (e : Effect) → Memᴰ e us → Memᴰ e es) where
  same_gets : (v i : ℕ) → gets vs es v i ≡ gets vs us v i
  same_gets v i = tests_equal (gets vs es v i) (gets vs us v i)
      (λ t. let x = (gets_exactly vs es v i).0 t in (gets_exactly vs us v i).1 (x.0, there x.0 x.1, x.2))
      (λ t. let x = (gets_exactly vs us v i).0 t in (gets_exactly vs es v i).1 (x.0, back x.0 x.1, x.2))

  pub same_conflict : conflicts vs es ≡ conflicts vs us
  same_conflict = tests_equal (conflicts vs es) (conflicts vs us)
      (λ t. let x = some_fact vs es t in cleared_and_set_conflicts vs us x.0 (sym (same_gets 0 x.0) ∙ x.1) (sym (same_gets 1 x.0) ∙ x.2))
      (λ t. let x = some_fact vs us t in cleared_and_set_conflicts vs es x.0 (same_gets 0 x.0 ∙ x.1) (same_gets 1 x.0 ∙ x.2))

  pub same_affected : (n w : ℕ) → affected n vs es w ≡ affected n vs us w
  unfolding affected fact_after
  same_affected n w = state_same n (fact_after vs es w) (fact_after vs us w) (λ i. rw (same_gets 0 i, same_gets 1 i) refl)

-- a fact after a move: set, cleared or kept
pub fact_after_lem : (j : Job) (m w t i : ℕ) → successor_of j m w ≡ Some t → i < j.scalars.facts
    → fact t i ≡ fact_after (values w j.formulas) (effects_of j (move_at j m)) w i
unfolding affected
fact_after_lem j m w t i e h =
    let after : ℕ → Bool = fact_after (values w j.formulas) (effects_of j (move_at j m)) w in
    rw (successor_is j m w t e) at (state_facts j.scalars.facts after i h)
