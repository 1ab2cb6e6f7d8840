-- The front of a list that is filled with a job's steps is what checks and the search ask for.
-- Assumes nothing.
use Prim.Native.Nat.{ℕ, ◌*◌, ◌≤◌}
use mathlib.Core.Path.{◌≡◌, refl, ◌∙◌, ap}
use mathlib.Core.List.{List}
use native.Mathlib.Omega.{arith}
use lib.ListN.{length, take}
use lib.Seq.{sets, length-sets}
use Rattle.laws.proofs.Lists.{sets_front}
use Rattle.limits.specs.Limits.{most_steps}
use Rattle.job.specs.Job.{Job}
use Rattle.job.specs.Store.{job_of}
use Rattle.job.specs.Stored.{Stored}
use Rattle.job.specs.declared.head.Head.{Head}
use Rattle.semantics.specs.CompilingTable.{Step, flat}
use Rattle.semantics.proofs.FlatLaws.{flat_length, flat_steps}
use Rattle.compile.specs.CompiledJob.{steps_of, step_count}
use Rattle.compile.specs.declared.sizes.Sizes.{Sizes}
use Rattle.compile.proofs.FitLaws.{few_steps}
use Rattle.compiled.specs.StepList.{steps_on}
use Rattle.compiled.specs.Ready.{Ready}
use Rattle.load.specs.Refusals.{list_need}
use Rattle.load.specs.Sized.{Sized}
use Rattle.jesmovit.specs.Compiling.{FrontHolds}

-- a list's front after filling: the steps, and nothing else
pub front_flat : (L : List Step) (list : List ℕ) {after : List ℕ} {need : ℕ} → need ≡ length L * 4 → need ≤ length list → after ≡ sets list 0 (flat L)
    → take need after ≡ flat L
front_flat L list {need = need} e long f =
    let g : need ≡ length (flat L) = omega (arith, flat_length L) in rw (f, g) (sets_front (flat L) list (omega (arith, g)))

-- a list after filling
pub holds_filled : (j : Job) (list : List ℕ) {after : List ℕ} → step_count j * 4 ≤ length list → after ≡ sets list 0 (flat (steps_of j)) → FrontHolds j after
holds_filled j list long f =
    record {
      long = omega (arith, long, length-sets list 0 (flat (steps_of j)), ap length f);
      front = front_flat (steps_of j) list refl long f;
    }

-- its front holds the steps, and nothing else
module _ {h : Head} {rows : List ℕ} {s : Sizes} (stored : Stored h rows) (sized : Sized (job_of h rows) s) where
  pub front_ready : {list : List ℕ} → FrontHolds (job_of h rows) list → {need : ℕ} → need ≡ list_need (job_of h rows) → Ready h rows (take need list) s.positions
  front_ready {list} holds {need} n =
      let L = steps_of (job_of h rows) in
      let whole : take need list ≡ flat L = rw n holds.front in
      record {
        stored = stored;
        fit = sized.fit;
        whole = ap length whole ∙ flat_length L;
        steps = ap steps_on whole ∙ flat_steps L;
        positions = sized.positions;
      }

  -- an array of most_steps steps has room
  pub own_room : step_count (job_of h rows) * 4 ≤ most_steps * 4
  own_room = omega (arith, few_steps (job_of h rows) sized.fit)
