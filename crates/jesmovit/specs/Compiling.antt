-- What compiling a job text promises, and what other operations begin with.
use Rattle.std.specs.Prelude.{ℕ, ◌*◌, ◌≤◌, ◌≡◌, None, Result, List, [], length, take}
use Rattle.std.proofs.lemmas.List.Edits.{sets}
use Rattle.semantics.specs.CompilingTable.{flat}
use Rattle.compile.specs.declared.sizes.Sizes.{Sizes}
use Rattle.load.specs.Refusals.{Handed, Checked, passed, refused, next}
use Rattle.load.specs.Loaded.{Loads}
use Rattle.load.specs.View.{View, view_steps, positions_of, view_in}
use Rattle.load.specs.declared.loaded.LoadedOffer.{LoadedOffer}
use Rattle.jesmovit.specs.Texts.{handed, none_given, without_costs}
use Rattle.jesmovit.specs.Outcomes.{compile_outcome}
use Rattle.job.specs.declared.refusal.Refusal.{Refusal}
use Rattle.job.specs.Job.{Job}
use Rattle.compile.specs.CompiledJob.{steps_of, step_count}

-- a job text, and a list of so many places
abbrev pub compiling : List ℕ → ℕ → Handed
compiling text places =
    handed (record { given = none_given; plan = None; places = places; cells = None }) (without_costs text [])

-- "it is filled whenever nothing is refused, and its later entries don't change"
abbrev pub list_after : View → List ℕ → List ℕ
list_after v list = sets list 0 (flat (view_steps v))

-- how many positions and steps the compiled job has
abbrev pub view_sizes : View → Sizes
view_sizes v = record { positions = positions_of v; steps = length (view_steps v) }

-- where nothing is refused; "A refusal … changes no list or table."
abbrev pub list_in : Checked View → List ℕ → List ℕ
list_in (passed v) list = list_after v list
list_in (refused number place) list = list

-- what operations begin with that refuse nothing later: texts are loaded, and the list is filled
pub record Prepares (h : Handed) (answer : Result LoadedOffer Refusal) (list after : List ℕ) : Type 0 where
  pub loads : Loads h answer
  pub holds : after ≡ list_in (view_in h) list

-- a list whose front holds the steps
pub record FrontHolds (j : Job) (list : List ℕ) : Type 0 where
  pub long : step_count j * 4 ≤ length list
  pub front : take (step_count j * 4) list ≡ flat (steps_of j)

-- the whole promise: the sizes or the refusal, and what the list holds afterwards
pub record Compiles (text list : List ℕ) (answer : Result Sizes Refusal) (after : List ℕ) : Type 0 where
  pub outcome : compile_outcome answer ≡ next (view_in (compiling text (length list))) (λ v. passed (view_sizes v))
  pub holds : after ≡ list_in (view_in (compiling text (length list))) list
