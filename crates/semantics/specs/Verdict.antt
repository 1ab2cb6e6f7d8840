-- "Verdicts": what a list of moves, or a list of steps, is.
use Rattle.std.specs.Prelude.{ℕ, suc, ◌<◌, ◌≡◌, true, false, List, length, take}
use Rattle.semantics.specs.Program.{Program, nil}
use Rattle.semantics.specs.Domain.{Domain}
use Rattle.semantics.specs.Transition.{Run}
use Rattle.semantics.specs.CompilingTable.{Step}
use Rattle.semantics.specs.Path.{Path, moves_in}
use Rattle.semantics.specs.Plan.{cost}

pub data Verdict : Type 0 where
  plan : ℕ → Verdict
  blocked : ℕ → Verdict
  unfinished missed : Verdict

-- What lists of entries do: the state in which some run has made them, the state in which some such
-- run completes, and their cost.
pub record Entries : Type 1 where
  pub Made : List ℕ → ℕ → Type 0
  pub Completed : List ℕ → ℕ → Type 0
  pub cost_of : List ℕ → ℕ

pub data Judged (D : Domain) (E : Entries) (es : List ℕ) : Verdict → Type 0 where
  -- "plan, with its cost"
  is_plan : {u : ℕ} → E.Completed es u → D.goal u ≡ true → Judged D E es (plan (E.cost_of es))
  -- "blocked i: some run makes the first i entries, none makes i+1"
  is_blocked : {i u : ℕ} → i < length es → E.Made (take i es) u → ((t : ℕ) → E.Made (take (suc i) es) t → ⊥) → Judged D E es (blocked i)
  -- "unfinished: all entries can be made, but no such run completes the recipe"
  is_unfinished : {u : ℕ} → E.Made es u → ((t : ℕ) → E.Completed es t → ⊥) → Judged D E es unfinished
  -- "goal missed: the recipe completes, the goal is false"
  is_missed : {u : ℕ} → E.Completed es u → D.goal u ≡ false → Judged D E es missed

-- move lists against the program, by its own runs
unfoldable pub by_runs : Domain → Program → Entries
by_runs D σ = record {
  Made = λ ms u. (ρ : Program) × Run D D.start σ ms u ρ;
  Completed = λ ms u. Run D D.start σ ms u nil;
  cost_of = λ ms. cost D D.start ms;
}

-- "A step list gets the same verdicts on the compiled job, each entry being that one step. No step
-- is added between or after the entries"
unfoldable pub by_steps : Domain → List Step → ℕ → Entries
by_steps D L e = record {
  Made = λ is u. (p : ℕ) × (ms : List ℕ) × Path D L D.start 0 is ms u p;
  Completed = λ is u. (ms : List ℕ) × Path D L D.start 0 is ms u e;
  cost_of = λ is. cost D D.start (moves_in L is);
}
