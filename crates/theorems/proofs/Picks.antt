-- Request (f), in its own words: an execution of a pick is one of its body for some object, its least
-- cost is the least over every choice of object; a variable without its pick is refused by 8, and no
-- run of an accepted job meets one.
-- Assumes nothing.
use Prim.Native.Nat.{ℕ, ◌<◌}
use mathlib.Core.Path.{◌≡◌, refl, ◌∙◌, ap}
use mathlib.Core.Bool.{Bool, true, false, cond}
use mathlib.Core.List.{List}
use mathlib.Core.Logic.{◌↔◌}
use native.Mathlib.Omega.{arith}
use Rattle.laws.proofs.Tests.{never}
use Rattle.job.specs.Job.{Job}
use Rattle.job.specs.ReadJob as R
use Rattle.job.specs.ReadJob.{Outcome, read_job}
use Rattle.job.specs.Task.{Task}
use Rattle.semantics.specs.Domain.{Domain}
use Rattle.semantics.specs.Program.{Program, nil, pick, put}
use Rattle.semantics.specs.Transition.{Run, step, picks}
use Rattle.semantics.specs.Scope.{scoped}
use Rattle.semantics.specs.Plan.{Allowed, Least}
use Rattle.semantics.proofs.ScopeLaws.{run_scoped}
use Rattle.domain.specs.Domain.{domain_of}
use Rattle.compile.specs.Program.{program_of}
use Rattle.compile.specs.CompiledJob.{fits, program_scoped}
use Rattle.load.specs.Refusals.{passed, refused, compilable, job_in}
use Rattle.theorems.specs.Accepted.{AcceptedJob, UnscopedJob}
use Rattle.theorems.specs.Picks.{LeastChoice}
use Rattle.theorems.proofs.Acceptance.{read_iff}
use Rattle.theorems.proofs.RefusalNumbers.{read_number}

module _ (D : Domain) (a : Program) where
  opened : {s u : ℕ} {ms : List ℕ} → Run D s (pick a) ms u nil → (o : ℕ) × (o < D.objects) × Run D s (put o 0 a) ms u nil
  opened (step (picks {o} h) r) = (o, h, r)

  -- "an execution is one of the body for some object", from any state
  pub pick_runs : (s u : ℕ) (ms : List ℕ) → Run D s (pick a) ms u nil ↔ ((o : ℕ) × (o < D.objects) × Run D s (put o 0 a) ms u nil)
  pick_runs s u ms = (opened, λ v. step (picks v.1) v.2)

  -- so are the plans
  pub pick_allows : (ms : List ℕ) → Allowed D (pick a) ms ↔ ((o : ℕ) × (o < D.objects) × Allowed D (put o 0 a) ms)
  pick_allows ms = (
    λ p. let v = (pick_runs _ _ ms).0 p.run in (v.0, v.1, record { last = p.last; run = v.2; reached = p.reached }),
    λ v. record { last = v.2.last; run = (pick_runs _ _ ms).1 (v.0, v.1, v.2.run); reached = v.2.reached },
  )

  -- "a shop may take the least over every choice of peg"
  pub pick_least : (c : ℕ) → Least D (pick a) c ↔ LeastChoice D a c
  pick_least c = (
    λ l.
        let v = (pick_allows l.best).0 l.allowed in
        record {
          object = v.0;
          among = v.1;
          best = l.best;
          allowed = v.2;
          costs = l.costs;
          lowest = λ o ms h p. l.least ms ((pick_allows ms).1 (o, h, p));
        },
    λ k. record {
      best = k.best;
      allowed = (pick_allows k.best).1 (k.object, k.among, k.allowed);
      costs = k.costs;
      least = λ ms p. let v = (pick_allows ms).0 p in k.lowest v.0 ms v.1 v.2;
    },
  )

-- a job text is refused by 8 just where it is read as a job whose program has such a variable
module _ (text : List ℕ) (place : ℕ) where
  told : (o : Outcome) → read_job text ≡ o → compilable o ≡ refused 8 place → (j : Job) × UnscopedJob text place j
  told (R.refused m p) e f = let z : m ≡ 8 = cc in absurd (omega (arith, (read_number text m p e).1))
  told (R.read n j) e f = by (program_scoped j) (fits j) refl f
    where
      by : (a b : Bool) → program_scoped j ≡ a → cond a (cond b (passed j) (refused 4 n)) (refused 8 n) ≡ refused 8 place
          → (k : Job) × UnscopedJob text place k
      by true true v g = never (cc)
      by true false v g = let z : ◌≡◌ {A = ℕ} 4 8 = cc in absurd (omega arith)
      by false b v g =
          let z : place ≡ n = cc in
          let w = (read_iff text n j).0 e in
          (j, record { right = w.0; unscoped = v; written = w.1; last_line = z ∙ w.2 })

  pub variable_iff : (job_in text ≡ refused 8 place) ↔ ((j : Job) × UnscopedJob text place j)
  unfolding job_in
  variable_iff = (
    told (read_job text) refl,
    λ u. let x = u.1 in ap compilable ((read_iff text place u.0).1 (x.right, x.written, x.last_line)) ∙ rw x.unscoped refl,
  )

-- whatever is left of an accepted job's program has a pick for each of its variables
pub accepted_run_scoped : (text : List ℕ) (t : Task) → AcceptedJob text t.job → {u : ℕ} {ms : List ℕ} {ρ : Program}
    → Run (domain_of t) (domain_of t).start (program_of t.job) ms u ρ → scoped 0 ρ ≡ true
accepted_run_scoped text t a r = run_scoped r a.scoped
