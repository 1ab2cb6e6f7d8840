-- The domain of a task: a state is a set of facts, as a number (document 01: world).
use Rattle.std.specs.Prelude.{ℕ, ◌+◌, ◌≡◌, Bool, false, not, ◌&&◌, cond, List, ltb, length, get_or, take, drop}
use Rattle.std.specs.Prelude.{Option, None, Some}
use Rattle.job.specs.StateCount.{state_count}
use Rattle.job.specs.Job.{Job, Move, Effect, move_at}
use Rattle.job.specs.Task.{Task, class_cost}
use Rattle.job.specs.Store.{task_of}
use Rattle.job.specs.declared.head.Head.{Head}
use Rattle.job.specs.declared.task.Task.{Task as StoredTask}
use Rattle.semantics.specs.Domain.{Domain}
use Rattle.domain.specs.State.{values}
use Rattle.domain.specs.Effects.{conflicts, affected}

-- the lines `e=` of a move
abbrev pub effects_of : Job → Move → List Effect
effects_of j x = take x.effects (drop x.first j.effects)

unfoldable pub holds_in : Job → ℕ → ℕ → Bool
holds_in j a w = get_or (values w j.formulas) a false

-- "A move can be made where its precondition holds", and it "can't be made in a world where its effects
-- that hold both clear and set one fact"; "all effect conditions are judged in the old world"
unfoldable pub successor_of : Job → ℕ → ℕ → Option ℕ
successor_of j m w =
    let x = move_at j m in
    let es = effects_of j x in
    let vs = values w j.formulas in
    cond (ltb m (length j.moves) && get_or vs x.pre false && not (conflicts vs es)) (Some (affected j.scalars.facts vs es w)) None

-- "The move's cost in a world is its first class, plus the second where the formula holds in the world
-- before the move", by the class costs that were loaded
unfoldable pub cost_in : Task → ℕ → ℕ → ℕ
cost_in t m w =
    let x = move_at t.job m in
    class_cost t.costs x.class + cond (holds_in t.job x.when w) (class_cost t.costs x.second) 0

abbrev pub domain_of : Task → Domain
domain_of t = record {
  states = state_count t.job.scalars.facts;
  start = t.job.scalars.init;
  moves = length t.job.moves;
  objects = t.job.scalars.objects;
  successor = successor_of t.job;
  holds = holds_in t.job;
  cost = cost_in t;
  goal = holds_in t.job t.job.scalars.goal;
}

-- the domain of a stored task
abbrev pub domain_in : Head → List ℕ → Domain
domain_in head rows = domain_of (task_of head rows)

abbrev pub domain_at : StoredTask → Domain
domain_at t = domain_in t.head t.rows.now

-- a list of truth values that tells each formula's in a state
abbrev pub Tells : Domain → ℕ → List Bool → Type 0
Tells D s vs = (a : ℕ) → get_or vs a false ≡ D.holds a s
