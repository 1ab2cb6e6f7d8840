-- A successor as the code makes it, from its move and the facts that the move clears and sets.
-- Assumes nothing.
use Rattle.std.proofs.Common.{ℕ, ◌≡◌, ◌≤◌, ◌<◌, Bool, true, false, not, List, ◌&&◌, None, Some, bit_and, bit_or, length, get_or, ltb, ap}
use borrow.Author.Tests.{lt-ltb, le-ltb}
use Rattle.std.specs.Int.{w16, bit_not}
use Rattle.limits.specs.Limits.{most_facts}
use Rattle.laws.proofs.Tests.{cond_some}
use Rattle.job.specs.StateCount.{state_count}
use Rattle.job.specs.Job.{Job, Move, move_at}
use Rattle.job.specs.Task.{Task}
use Rattle.job.proofs.StoredLaws.{move_count, move_effects}
use Rattle.domain.specs.State.{values}
use Rattle.domain.specs.Effects.{conflicts, affected, ChangesAre}
use Rattle.domain.specs.Domain.{effects_of, holds_in, successor_of, domain_of}
use Rattle.domain.proofs.EffectLaws.{changes_same, no_conflict, some_conflict, affected_by}

module _ (j : Job) (m w : ℕ) (g : m < length j.moves) {x : Move} (e : x ≡ move_at j m) where
  is_move_lem : ltb m (length j.moves) ≡ true
  is_move_lem = lt-ltb m (length j.moves) g

  pub successor_none : holds_in j x.pre w ≡ false → None ≡ successor_of j m w
  unfolding successor_of holds_in
  successor_none p = rw (is_move_lem, ← e, p)

  -- the set of facts that are cleared, and that of those that are set, by values that tell the formulas'
  module _ (p : holds_in j x.pre w ≡ true) {vs : List Bool} (told : (a : ℕ) → get_or vs a false ≡ holds_in j a w)
      {c s : ℕ} (g₀ : ChangesAre j.scalars.facts vs (effects_of j x) c s) where
    h : ChangesAre j.scalars.facts (values w j.formulas) (effects_of j x) c s
    unfolding holds_in
    h = changes_same vs (values w j.formulas) told j.scalars.facts (effects_of j x) g₀

    pub successor_conflict : (bit_and c s ≡ 0 → ⊥) → None ≡ successor_of j m w
    unfolding successor_of holds_in
    successor_conflict common = rw (is_move_lem, ← e, p, some_conflict (values w j.formulas) (effects_of j x) j.scalars.facts h common)

    pub successor_some : bit_and c s ≡ 0 → j.scalars.facts ≤ most_facts → w < state_count j.scalars.facts
        → Some (bit_or (bit_and w (bit_not w16 c)) s) ≡ successor_of j m w
    unfolding successor_of holds_in
    successor_some z few below =
        rw (is_move_lem, ← e, p, no_conflict (values w j.formulas) (effects_of j x) j.scalars.facts h z)
        (ap Some (affected_by (values w j.formulas) (effects_of j x) j.scalars.facts h few w below))

-- where there is one, it is the state after the effects
pub successor_is : (j : Job) (m w t : ℕ) → successor_of j m w ≡ Some t
    → affected j.scalars.facts (values w j.formulas) (effects_of j (move_at j m)) w ≡ t
unfolding successor_of
successor_is j m w t e =
    let x = move_at j m in
    let vs = values w j.formulas in
    let made = (cond_some (ltb m (length j.moves) && get_or vs x.pre false && not (conflicts vs (effects_of j x))) e).1 in
    cc

-- past the last move there is none
pub successor_past : (a : Task) (m w : ℕ) → (domain_of a).moves ≤ m → None ≡ (domain_of a).successor m w
unfolding successor_of
successor_past a m w g = rw (le-ltb m (length a.job.moves) g)

-- what each way through the code rests on
pub ruleset as_made = (move_count, move_effects, successor_none, successor_conflict)
