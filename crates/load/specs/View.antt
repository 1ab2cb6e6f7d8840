-- What an answer speaks of: the domain, the program, and the entries of the plan.
use Rattle.std.specs.Prelude.{ℕ, ◌+◌, List}
use Rattle.semantics.specs.Domain.{Domain}
use Rattle.semantics.specs.Program.{Program}
use Rattle.semantics.specs.CompilingTable.{Step, compiled_steps, final_position}
use Rattle.domain.specs.Domain.{domain_of}
use Rattle.compile.specs.Program.{program_of}
use Rattle.load.specs.Refusals.{Checked, passed, next, Handed, Offer, loading}

pub record View : Type 0 where
  pub domain : Domain
  pub program : Program
  pub entries : List ℕ

abbrev pub view_of : Offer → View
view_of o = record { domain = domain_of o.task; program = program_of o.task.job; entries = o.entries }

-- the steps and the final position of its program
abbrev pub view_steps : View → List Step
view_steps v = compiled_steps v.domain v.program

abbrev pub final_of : View → ℕ
final_of v = final_position v.domain v.program

abbrev pub positions_of : View → ℕ
positions_of v = final_of v + 1

-- of what is handed in, where nothing refuses it
abbrev pub view_in : Handed → Checked View
view_in h = next (loading h) (λ o. passed (view_of o))
