-- Numbers laid over a list, and the steps of a program laid so.
use Rattle.std.specs.Prelude.{ℕ, ◌+◌, ◌*◌, ◌≤◌, ◌<◌, ◌≡◌, true, List, [], ◌∷◌, length}
use Rattle.std.proofs.lemmas.List.Edits.{sets}
use Rattle.limits.specs.Limits.{most_positions}
use Rattle.semantics.specs.Program.{Program}
use Rattle.semantics.specs.CompilingTable.{Step as Arc, arc, end, copies, steps, flat}
use Rattle.semantics.specs.Scope.{scoped}
use Rattle.job.specs.declared.head.Counts.{Counts}
use Rattle.compile.specs.Label.{label_of}
use Rattle.compile.specs.Size.{sizes_of}
use Rattle.compile.specs.declared.writing.Cursor.{Cursor}
use Rattle.compile.specs.declared.writing.Step.{Step}

-- a step as the code has it
abbrev pub arc_of : Step → Arc
arc_of s = arc (label_of s.0) s.1 s.2

-- one position on
abbrev pub next : Cursor → Cursor
next c = record { position = c.position + 1; at = c.at }

-- one step for each number below a count
abbrev pub each : ℕ → (ℕ → Arc) → List Arc
each count g = copies count (λ k. g k ∷ [])

-- each number below the count gives its step, where `post k s` says that it may give s
abbrev pub Gives : (ℕ → Step → Type 0) → ℕ → (ℕ → Arc) → Type 0
Gives post count g = (k : ℕ) (s : Step) → k < count → post k s → arc_of s ≡ g k

-- v over the list from a place on; then comes the next place
pub record LaidOver (v old : List ℕ) (at : ℕ) (new : List ℕ) (next : ℕ) : Type 0 where
  pub list : new ≡ sets old at v
  pub place : next ≡ at + length v

-- the steps of a program that is compiled from the cursor's position, inside picks of these objects,
-- at its place; then comes the cursor after them
pub record StepsLaid (c : Counts) (env : List ℕ) (σ : Program) (old : List ℕ) (from : Cursor) (new : List ℕ) (to : Cursor) : Type 0 where
  pub laid : LaidOver (flat (steps c.moves c.objects env σ from.position)) old from.at new to.at
  pub ends : to.position ≡ end c.objects σ from.position

-- the same, where the objects of the picks are kept
pub record RowLaid (c : Counts) (σ : Program) (env old : List ℕ) (from : Cursor) (new : List ℕ) (to : Cursor) (env₂ : List ℕ) : Type 0 where
  pub steps : StepsLaid c env σ old from new to
  pub kept : env₂ ≡ env

-- its variables have their objects, and there are positions and places left for all of its steps
pub record Enough (c : Counts) (env : List ℕ) (σ : Program) (from : Cursor) (places : ℕ) : Type 0 where
  pub variables : scoped (length env) σ ≡ true
  pub positions : from.position + (sizes_of c σ).positions < most_positions
  pub room : from.at + (sizes_of c σ).steps * 4 ≤ places
