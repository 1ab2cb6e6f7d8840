-- A job text loaded: what is read is refused by 8 or 4, or handed on with its sizes.
-- Assumes nothing.
use Prim.Native.Nat.{ℕ, ◌≤◌, ◌<◌}
use mathlib.Core.Path.{◌≡◌, refl, sym, ◌∙◌, ap, subst}
use mathlib.Core.Bool.{Bool, true, false, cond}
use mathlib.Core.List.{List}
use native.Mathlib.Omega.{arith}
use lib.ListN.{length}
use lib.Seq.{sets}
use borrow.Author.Tests.{le-leb, lt-leb}
use Rattle.laws.proofs.Tests.{never}
use Rattle.limits.specs.Limits.{most_positions, most_steps}
use Rattle.job.specs.Job.{Job}
use Rattle.job.specs.ReadJob as R
use Rattle.job.specs.ReadJob.{read_job}
use Rattle.job.specs.Refusal.{number_of}
use Rattle.job.specs.Task.{house_costs}
use Rattle.job.specs.Store.{costs_from, store_size, job_of}
use Rattle.job.specs.WellFormed.{WellFormed}
use Rattle.job.specs.Stored.{Stored}
use Rattle.job.specs.declared.head.Head.{Head}
use Rattle.job.specs.declared.refusal.Refusal.{Refusal}
use Rattle.job.proofs.CostLaws.{house_within, job_kept, costs_stored}
use Rattle.reader.proofs.ReadLaws.{read_well_formed}
use Rattle.compile.specs.CompiledJob.{position_count, step_count, fits, program_scoped}
use Rattle.compile.specs.Size.{capped}
use Rattle.compile.specs.declared.sizes.Sizes.{Sizes}
use Rattle.load.specs.Refusals.{passed, refused, compilable, job_in}
use Rattle.load.specs.Sized.{Sized}

-- fitting, as two comparisons
module _ (j : Job) where
  unfit_positions : most_positions < position_count j → fits j ≡ false
  unfolding fits
  unfit_positions h = rw (lt-leb (position_count j) most_positions h)

  unfit_steps : position_count j ≤ most_positions → most_steps < step_count j → fits j ≡ false
  unfolding fits
  unfit_steps g h = rw (le-leb (position_count j) most_positions g, lt-leb (step_count j) most_steps h)

  pub fit : position_count j ≤ most_positions → step_count j ≤ most_steps → fits j ≡ true
  unfolding fits
  fit g h = rw (le-leb (position_count j) most_positions g, le-leb (step_count j) most_steps h)

-- what a text's reader refuses
pub load_refused : (text : List ℕ) (r : Refusal) → R.refused (number_of r.reason) r.place ≡ read_job text → refused (number_of r.reason) r.place ≡ job_in text
unfolding job_in
load_refused text r e = ap compilable e

-- what it reads, with the house's costs written behind its rows
module _ (text rows : List ℕ) (n : ℕ) (h : Head) (e : R.read n (job_of h rows) ≡ read_job text)
    (size : length rows ≡ store_size) {after : List ℕ} (put : after ≡ sets rows costs_from house_costs) where
  reads_before : read_job text ≡ R.read n (job_of h rows)
  reads_before = sym e

  right : WellFormed (job_of h rows)
  right = read_well_formed text n (job_of h rows) reads_before

  pub load_stored : Stored h after
  load_stored = subst (Stored h) (sym put) (costs_stored rows house_costs refl size h right house_within)

  -- and then what the reasons after reading say of it
  pub load_told : compilable (R.read n (job_of h after)) ≡ job_in text
  unfolding job_in
  load_told =
      ap (λ (j : Job). compilable (R.read n j)) (ap (job_of h) put ∙ job_kept rows house_costs refl size h right) ∙ ap compilable (sym reads_before)

-- one with a variable that has too few picks around it
pub unscoped : (n : ℕ) (j : Job) → program_scoped j ≡ false → refused 8 n ≡ compilable (R.read n j)
unscoped n j v = rw v refl

-- a job that was read from n lines
module _ (n : ℕ) (j : Job) (v : program_scoped j ≡ true) (s : Sizes) (m : (s.positions ≡ capped (position_count j)) × (s.steps ≡ capped (step_count j))) where
  limited : {b : Bool} → fits j ≡ b → cond b (passed j) (refused 4 n) ≡ compilable (R.read n j)
  limited f = rw (v, f) refl

  pub many_positions : most_positions < s.positions → refused 4 n ≡ compilable (R.read n j)
  many_positions k = limited (unfit_positions j (omega (arith, m.0)))

  module _ (k : s.positions ≤ most_positions) where
    few : position_count j ≤ most_positions
    few = omega (arith, m.0, k)

    pub many_steps : most_steps < s.steps → refused 4 n ≡ compilable (R.read n j)
    many_steps l = limited (unfit_steps j few (omega (arith, m.1)))

    module _ (l : s.steps ≤ most_steps) where
      fitted : fits j ≡ true
      fitted = fit j few (omega (arith, m.1, l))

      pub job_passes : passed j ≡ compilable (R.read n j)
      job_passes = limited fitted

      pub job_sized : Sized j s
      job_sized = record { scoped = v; fit = fitted; positions = omega (arith, m.0, k); steps = omega (arith, m.1, l) }

-- what is handed on was read, and no reason after reading refuses it
module _ (text : List ℕ) (j : Job) where
  pub record ReadWithin : Type 0 where
    pub lines : ℕ
    pub is_read : read_job text ≡ R.read lines j
    pub scoped : program_scoped j ≡ true
    pub fit : fits j ≡ true

  within : (o : R.Outcome) → read_job text ≡ o → compilable o ≡ passed j → ReadWithin
  within (R.read n k) e f = by (program_scoped k) (fits k) refl refl f
    where
      by : (a b : Bool) → program_scoped k ≡ a → fits k ≡ b → cond a (cond b (passed k) (refused 4 n)) (refused 8 n) ≡ passed j → ReadWithin
      by true true x y z = let q : k ≡ j = cc in record { lines = n; is_read = e ∙ ap (R.read n) q; scoped = rw (← q) x; fit = rw (← q) y }
      by true false x y z = never (cc)
      by false b x y z = never (cc)
  within (R.refused n p) e f = never (cc)

  pub passed_read : job_in text ≡ passed j → ReadWithin
  unfolding job_in
  passed_read e = within (read_job text) refl e
