-- A program that fits has room for all of its steps.
-- Assumes nothing.
use Prim.Native.Nat.{ℕ, ◌+◌, ◌-◌, ◌*◌, ◌≤◌}
use mathlib.Core.Path.{◌≡◌, sym, ◌∙◌, ap, ap₂}
use mathlib.Core.Bool.{true}
use mathlib.Core.List.{List, []}
use native.Mathlib.Omega.{arith}
use lib.Dec.{leb}
use lib.ListN.{length}
use lib.Seq.{sets}
use borrow.Author.Tests.{leb-true}
use Rattle.laws.proofs.Tests.{and_left, and_right}
use Rattle.limits.specs.Limits.{most_positions, most_steps}
use Rattle.job.specs.Job.{Job}
use Rattle.job.specs.Store.{job_of}
use Rattle.job.specs.declared.head.Counts.{Counts}
use Rattle.job.specs.declared.head.Head.{Head}
use Rattle.job.proofs.StoredLaws.{move_count}
use Rattle.semantics.specs.Program.{Program}
use Rattle.semantics.specs.CompilingTable.{Step, end, steps, flat}
use Rattle.semantics.specs.Scope.{scoped}
use Rattle.compile.specs.Program.{row_program, program_of}
use Rattle.compile.specs.CompiledJob.{steps_of, final_position_of, position_count, step_count, fits, program_scoped}
use Rattle.compile.specs.Construct.{fold}
use Rattle.compile.specs.Size.{sized, sizes_of, capped, capped_sizes, capped_algebra}
use Rattle.compile.specs.declared.sizes.Sizes.{Sizes}
use Rattle.compile.specs.Laid.{StepsLaid, Enough}
use Rattle.compile.specs.declared.writing.Cursor.{Cursor}
use Rattle.compile.proofs.SizeLaws.{has_sizes, fold_capped}
use Rattle.compile.proofs.FoldLaws.{last_row}

pub few_positions : (j : Job) → fits j ≡ true → position_count j ≤ most_positions
unfolding fits
few_positions j e = leb-true _ _ (and_left (leb (position_count j) most_positions) (leb (step_count j) most_steps) e)

pub few_steps : (j : Job) → fits j ≡ true → step_count j ≤ most_steps
unfolding fits
few_steps j e = leb-true _ _ (and_right (leb (position_count j) most_positions) (leb (step_count j) most_steps) e)

module _ (h : Head) (l : List ℕ) where
  abbrev j : Job
  j = job_of h l

  abbrev c : Counts
  c = h.counts

  abbrev last : ℕ
  last = c.program - 1

  steps_are : steps_of j ≡ steps c.moves c.objects [] (row_program j.program last) 0
  steps_are = ap₂ (λ (m : ℕ) (σ : Program). steps m c.objects [] σ 0) (move_count h l) (last_row h l)

  final_is : final_position_of j ≡ (sizes_of c (row_program j.program last)).positions
  final_is = ap (λ (σ : Program). end c.objects σ 0) (last_row h l) ∙ omega (arith, (has_sizes c (row_program j.program last)).ends 0)

  module _ (v : program_scoped j ≡ true) where
    variables : scoped 0 (row_program j.program last) ≡ true
    variables = ap (scoped 0) (sym (last_row h l)) ∙ v

    step_count_lem : step_count j ≡ (sizes_of c (row_program j.program last)).steps
    step_count_lem = ap length steps_are ∙ (has_sizes c (row_program j.program last)).counts [] 0 variables

    pub measured : {s r : Sizes} → s ≡ fold (capped_algebra c) (program_of j) → r ≡ capped_sizes (sized (s.positions + 1) s.steps)
        → (r.positions ≡ capped (position_count j)) × (r.steps ≡ capped (step_count j))
    measured {s} {r} e f =
        let k : s ≡ capped_sizes (sizes_of c (row_program j.program last)) =
        e ∙ fold_capped c (program_of j) ∙ ap (λ (σ : Program). capped_sizes (sizes_of c σ)) (last_row h l) in
        rw (f, k) (omega (arith, final_is), omega (arith, step_count_lem))

    abbrev start : Cursor
    start = record { position = 0; at = 0 }

    pub all_fit : {env : List ℕ} {places : ℕ} → env ≡ [] → fits j ≡ true → step_count j * 4 ≤ places → Enough c env (row_program j.program last) start places
    all_fit n e g = rw n (record {
      variables = variables;
      positions = omega (arith, few_positions j e, final_is);
      room = omega (arith, g, step_count_lem);
    })

  pub all_written : {env old new : List ℕ} {to : Cursor} → env ≡ []
      → StepsLaid c env (row_program j.program last) old (record { position = 0; at = 0 }) new to → new ≡ sets old 0 (flat (steps_of j))
  all_written {env} {old} n w =
      w.laid.list ∙ ap (λ (e : List ℕ). sets old 0 (flat (steps c.moves c.objects e (row_program j.program last) 0))) n
      ∙ ap (λ (L : List Step). sets old 0 (flat L)) (sym steps_are)
