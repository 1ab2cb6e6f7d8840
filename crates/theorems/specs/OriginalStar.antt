-- The star as 003's own compiling table has it: "C(σ*, n, E) = (L · [Cnoop(n, n₂), Cnoop(n₁, n)],
-- L', n₂)", where the body L starts at n itself.
use Rattle.std.specs.Prelude.{ℕ, suc, ◌≡◌, false, List, [], ◌∷◌, ◌++◌}
use Rattle.job.specs.Job.{Job}
use Rattle.job.specs.Task.{at_house_costs}
use Rattle.job.specs.ReadJob.{read, read_job}
use Rattle.semantics.specs.Label.{noop}
use Rattle.semantics.specs.Domain.{Domain}
use Rattle.semantics.specs.Program.{Program, nil, star}
use Rattle.semantics.specs.Transition.{Run}
use Rattle.semantics.specs.CompilingTable.{Step, arc, end, steps}
use Rattle.semantics.specs.Path.{Path}
use Rattle.domain.specs.Domain.{domain_of}
use Rattle.compile.specs.Program.{program_of}

-- where it ends
abbrev pub original_end : Domain → Program → ℕ → ℕ
original_end D a n = suc (end D.objects a n)

-- its steps
abbrev pub original_steps : Domain → Program → ℕ → List Step
original_steps D a n = steps D.moves D.objects [] a n ++ (arc noop n (original_end D a n) ∷ arc noop (end D.objects a n) n ∷ [])

abbrev house_domain : Job → Domain
house_domain j = domain_of (at_house_costs j)

-- a job text whose program is a star, of which these steps allow a list of moves that the program
-- does not complete
pub record StarFails (text moves : List ℕ) : Type 0 where
  pub lines : ℕ
  pub job : Job
  pub is_read : read_job text ≡ read lines job
  pub body : Program
  pub is_star : program_of job ≡ star body
  -- some path with these moves reaches the final position
  pub numbers : List ℕ
  pub last : ℕ
  pub path : Path (house_domain job) (original_steps (house_domain job) body 0) (house_domain job).start 0 numbers moves last
      (original_end (house_domain job) body 0)
  -- where the goal is false: "case 8 would say goal missed"
  pub goal_false : (house_domain job).goal last ≡ false
  -- no run of the program that makes them leaves nil
  pub no_run : (t : ℕ) → Run (house_domain job) (house_domain job).start (program_of job) moves t nil → ⊥
