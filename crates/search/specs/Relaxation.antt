-- Steps that are followed from a state's cells.
use Rattle.std.specs.Prelude.{ℕ, suc, ◌+◌, ◌*◌, ◌≤◌, ◌<◌, ◌≡◌, Bool, false, List, Some, None, length, get_or, set}
use Rattle.limits.specs.Limits.{most_positions}
use Rattle.semantics.specs.StepVerdict.{arrives}
use Rattle.semantics.specs.Cells.{Graph, cell, Runs, Relaxed, sum}
use Rattle.compiled.specs.Steps.{label_of}
use Rattle.compiled.specs.Arrival.{arrival_of}
use Rattle.compiled.specs.declared.explored.Arrival.{Arrival}
use Rattle.compiled.specs.declared.steps.OutStep.{OutStep}
use Rattle.queue.specs.Queue.{Lowered}
use Rattle.search.specs.Sweeps.{Keyed, Only, Processed, potential}

-- the cell where a step leads
abbrev pub cell_at : Graph → Arrival → ℕ
cell_at G target = cell G.positions target.state target.position

-- the target's cell lowered to x and the cost, where that is less; then in state w, which is swept,
-- its position is not marked any more and r is at most that position, and another state's key comes
-- down
pub data Relaxing (G : Graph) (w x : ℕ) (target : Arrival) (next : ℕ) (T queue : List ℕ) (marks : List Bool) : List ℕ → List ℕ → List Bool → ℕ → Type 0 where
  kept : get_or T (cell_at G target) 0 ≤ x + target.cost → Relaxing G w x target next T queue marks T queue marks next
  within : {r : ℕ} → x + target.cost < get_or T (cell_at G target) 0 → target.state ≡ w → r ≤ target.position → r ≤ next
      → Relaxing G w x target next T queue marks (set T (cell_at G target) (x + target.cost)) queue (set marks target.position false) r
  lowered : {queue' : List ℕ} → x + target.cost < get_or T (cell_at G target) 0 → Lowered target.state (x + target.cost) queue queue'
      → Relaxing G w x target next T queue marks (set T (cell_at G target) (x + target.cost)) queue' marks next

-- what following a step from state w does
pub data Stepped (G : Graph) (w x : ℕ) (step : OutStep) (next : ℕ) (T queue : List ℕ) (marks : List Bool) : List ℕ → List ℕ → List Bool → ℕ → Type 0 where
  stays : arrival_of None ≡ arrives G.domain (label_of step) w step.to → Stepped G w x step next T queue marks T queue marks next
  leads : (target : Arrival) {T' queue' : List ℕ} {marks' : List Bool} {r : ℕ} → arrival_of (Some target) ≡ arrives G.domain (label_of step) w step.to
      → Relaxing G w x target next T queue marks T' queue' marks' r → Stepped G w x step next T queue marks T' queue' marks' r

-- stores along steps from position p of state w, after which r is where to go on
pub record ScanProgress (G : Graph) (w p : ℕ) (T queue T' queue' : List ℕ) (marks' : List Bool) (r : ℕ) : Type 0 where
  pub runs : Runs G T T'
  pub size : length queue' ≡ length queue
  pub width : length marks' ≡ most_positions
  pub key : get_or queue' w 0 ≤ get_or queue w 0
  pub low : r ≤ p + 1
  pub falls : sum T' * suc most_positions + (p + 1) ≤ sum T * suc most_positions + r
  pub less : potential G.domain.states T' queue' ≤ potential G.domain.states T queue

-- the steps from position p of state w followed, whose key was k
pub record Scanned (G : Graph) (w k p : ℕ) (T queue T' queue' : List ℕ) (marks' : List Bool) (r : ℕ) : Type 0 where
  pub progress : ScanProgress G w p T queue T' queue' marks' r
  pub relaxed : Relaxed G (Only queue' w (Processed k r marks')) T'

-- stores along steps, after which the steps are followed from all cells with an entry below their
-- state's key
pub record Better (G : Graph) (T queue T' queue' : List ℕ) : Type 0 where
  pub runs : Runs G T T'
  pub size : length queue' ≡ length queue
  pub relaxed : Relaxed G (Keyed queue') T'
  pub less : potential G.domain.states T' queue' < potential G.domain.states T queue
