-- That facts about a stored task have at most one proof, as a field of a value needs it.
use Rattle.std.specs.Prelude.{ℕ, ◌+◌, List, [], ◌∷◌}
use mathlib.Core.HLevel.{⊥_prop}
use native.Mathlib.Nat.{ℕ_set}
use Rattle.std.proofs.Props.{props}
use Rattle.std.specs.Coded.{×_prop, Unit-prop, le_prop}
use Rattle.job.specs.Job.{Move}
use Rattle.job.specs.Fields.{Within}
use Rattle.job.specs.declared.fields.Field.{Field}
use Rattle.job.specs.WellFormed.{Tiled}
use Rattle.job.specs.declared.head.Counts.{Counts}

pub Within-prop : (c : Counts) (fs : List Field) (xs : List ℕ) → IsProp (Within c fs xs)
Within-prop c [] [] = Unit-prop
Within-prop c [] (x ∷ xs) = ⊥_prop
Within-prop c (f ∷ fs) [] = ⊥_prop
Within-prop c (f ∷ fs) (x ∷ xs) = ×_prop le_prop (Within-prop c fs xs)

pub Tiled-prop : (first : ℕ) (ms : List Move) (last : ℕ) → IsProp (Tiled first ms last)
Tiled-prop first [] last = ℕ_set first last
Tiled-prop first (m ∷ ms) last = ×_prop (ℕ_set m.first first) (Tiled-prop (first + m.effects) ms last)

pub ruleset stored_props = (Within-prop, Tiled-prop, props)
