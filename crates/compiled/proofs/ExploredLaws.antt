-- What is kept of what moves give.
-- Assumes nothing.
use Rattle.std.proofs.Common.{◌≡◌, ℕ, ◌<◌, List, Option, None, Some, length, get_or, set, replicate, sym, ◌∙◌, ap, subst}
use native.Mathlib.Decide.{ℕ_discrete}
use Rattle.std.proofs.Math.Seq.{get_or-set_same, get_or-set_other}
use Rattle.limits.specs.Limits.{most_moves}
use Rattle.laws.proofs.Lists.{replicate_default}
use Rattle.semantics.specs.Domain.{Domain}
use Rattle.compiled.specs.Explored.{Gives, known_by, KeepsMade}
use Rattle.compiled.specs.declared.explored.Made.{Made}
use Rattle.compiled.specs.declared.explored.Kept.{Kept}
use Rattle.compiled.specs.declared.explored.Kept.TheVariants.{Unknown}

pub keeps_none : (D : Domain) (s : ℕ) → KeepsMade D s (replicate most_moves Unknown)
unfolding known_by
keeps_none D s = record {
  own = λ m made e. (
      let f : ◌≡◌ {A = Option (Option Made)} None (Some made) = sym (ap known_by (replicate_default {A = Kept} Unknown most_moves m)) ∙ e in absurd (cc)
      );
}

-- one more
pub keeps_more : {D : Domain} {s : ℕ} {kept : List Kept} (m : ℕ) (k : Kept) (made : Option Made) → known_by k ≡ Some made → m < length kept
    → KeepsMade D s kept → Gives D s m made → KeepsMade D s (set kept m k)
keeps_more {D} {s} {kept} m k made known h x gives = record {
  own = λ n then e. elim (ℕ_discrete n m) [
    | yes z ↦ (
        let f : ◌≡◌ {A = Option (Option Made)} (Some made) (Some then) =
        sym known ∙ sym (ap known_by (get_or-set_same kept m k Unknown h)) ∙ sym (ap (λ (i : ℕ). known_by (get_or (set kept m k) i Unknown)) z) ∙ e in
        let g : made ≡ then = cc in
        subst (λ (i : ℕ). Gives D s i then) (sym z) (subst (λ (o : Option Made). Gives D s m o) g gives)
        )
    | no z ↦ x.own n then (sym (ap known_by (get_or-set_other kept m n k Unknown z)) ∙ e)
  ];
}
