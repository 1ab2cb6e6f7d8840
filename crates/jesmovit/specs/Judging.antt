-- What the least cost of a job text, and judging a plan text, promise.
use Rattle.std.specs.Prelude.{ℕ, ◌≡◌, true, false, cond, List, [], leb, length}
use Rattle.std.specs.Prelude.{Option, None, Some, Result}
use Rattle.semantics.specs.Plan.{Allowed, Least}
use Rattle.semantics.specs.CostTable.{Filled}
use Rattle.semantics.specs.Judgement.{Judgement, Finds, least, dearer, other}
use Rattle.load.specs.Refusals.{Handed}
use Rattle.load.specs.View.{View, view_steps, positions_of, view_in}
use Rattle.load.specs.declared.request.Sort.TheVariants.{Moves}
use Rattle.jesmovit.specs.Texts.{Texts, handed}
use Rattle.jesmovit.specs.Outcomes.{least_outcome, SizedJudgement, judge_outcome}
use Rattle.jesmovit.specs.Answers.{Answers}
use Rattle.jesmovit.specs.Compiling.{list_after, view_sizes}
use Rattle.jesmovit.specs.declared.judging.Judgement as Said
use Rattle.jesmovit.specs.declared.judging.Judged.{Judged}
use Rattle.job.specs.declared.refusal.Refusal.{Refusal}

-- a job text, perhaps a costs text, a list of so many places and a table of so many cells; there is
-- no plan text
abbrev pub costing : Texts → ℕ → ℕ → Handed
costing t places cells =
    handed (record { given = t.given; plan = None; places = places; cells = Some cells })
    (record { job = t.job; plan = []; costs = t.costs; given = t.given })

-- and a list of moves
abbrev pub judging : Texts → ℕ → ℕ → Handed
judging t places cells = handed (record { given = t.given; plan = Some Moves; places = places; cells = Some cells }) t

-- what is lent: a list and a cost table
pub record Lent : Type 0 where
  pub list : List ℕ
  pub table : List ℕ

-- the cost table of a job
abbrev pub TableOf : View → List ℕ → List ℕ → Type 0
TableOf v = Filled v.domain (view_steps v) (positions_of v)

-- "the cost, or none exactly when no plan of any length exists"
pub data LeastIs (v : View) : Option ℕ → Type 0 where
  costs : {c : ℕ} → Least v.domain v.program c → LeastIs v (Some c)
  no_plan : ((ms : List ℕ) → Allowed v.domain v.program ms → ⊥) → LeastIs v None

-- "Least cost fills it and answers the cost, or none"
pub record CostDone (v : View) (lowest : Option ℕ) (old new : Lent) : Type 0 where
  pub is : LeastIs v lowest
  pub list : new.list ≡ list_after v old.list
  pub table : TableOf v old.table new.table

abbrev pub CostsLeast : Texts → Lent → Result (Option ℕ) Refusal → Lent → Type 0
CostsLeast t old answer new = Answers CostDone old (view_in (costing t (length old.list) (length old.table))) (least_outcome answer) new

-- a plan's cost beside the least cost: "least or dearer with both costs"
abbrev pub compared : ℕ → ℕ → Said.Judgement
compared cost low = cond (leb cost low) (Said.TheVariants.Least cost) (Said.TheVariants.Dearer cost low)

-- "The judge fills it only for a plan"
abbrev pub TableFor : View → Judgement → List ℕ → List ℕ → Type 0
TableFor v (least c) old new = TableOf v old new
TableFor v (dearer c b) old new = TableOf v old new
TableFor v (other w) old new = new ≡ old

-- both, of a list of moves
pub record Found (v : View) (g : Judgement) (old new : List ℕ) : Type 0 where
  pub finds : Finds v.domain v.program v.entries g
  pub table : TableFor v g old new

pub record JudgeDone (v : View) (judged : SizedJudgement) (old new : Lent) : Type 0 where
  pub sized : judged.sizes ≡ view_sizes v
  pub list : new.list ≡ list_after v old.list
  pub found : Found v judged.judgement old.table new.table

abbrev pub Judges : Texts → Lent → Result Judged Refusal → Lent → Type 0
Judges t old answer new = Answers JudgeDone old (view_in (judging t (length old.list) (length old.table))) (judge_outcome answer) new
