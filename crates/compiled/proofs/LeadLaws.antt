-- Where a step leads, by what the code knows of it.
-- Assumes nothing.
use Rattle.std.proofs.Common.{◌≡◌, ℕ, Bool, true, false, not, cond, Option, None, Some, refl}
use Rattle.std.specs.Bool.{then_some}
use Rattle.semantics.specs.Domain.{Domain}
use Rattle.semantics.specs.PositionSets.{silent_in}
use Rattle.semantics.specs.StepVerdict.{arrives}
use Rattle.compile.specs.Label.{label_of}
use Rattle.compile.specs.declared.label.Label.{Label}
use Rattle.compile.specs.declared.label.Label.TheVariants.{Free, Test, Fails, Make}
use Rattle.compiled.specs.Arrival.{arrival_of}
use Rattle.compiled.specs.declared.explored.Arrival.{Arrival}

where_on : (on : Bool) (a : Arrival) → arrival_of (then_some on a) ≡ cond on (arrival_of (Some a)) None
where_on true a = refl
where_on false a = refl

abbrev here : ℕ → ℕ → Arrival
here s q = record { state = s; position = q; cost = 0 }

-- a step that makes no move
pub leads_silently : (D : Domain) (s q : ℕ) (l : Label) {on : Bool} {r : Option Arrival} → ((m : ℕ) → l ≡ Make m → ⊥) → on ≡ silent_in D s (label_of l)
    → r ≡ then_some on (record { state = s; position = q; cost = 0 }) → arrival_of r ≡ arrives D (label_of l) s q
unfolding silent_in arrives
leads_silently D s q Free n e f = rw (f, e)
leads_silently D s q (Test a) n e f = rw (f, e) (where_on (D.holds a s) (here s q))
leads_silently D s q (Fails a) n e f = rw (f, e) (where_on (not (D.holds a s)) (here s q))
leads_silently D s q (Make a) n e f = absurd (n a refl)
