-- The texts that an operation is handed, and which of those that may be left out are given.
use Rattle.std.specs.Prelude.{ℕ, true, false, List, []}
use Rattle.load.specs.Refusals.{Handed}
use Rattle.load.specs.declared.request.Given.{Given}
use Rattle.load.specs.declared.request.Request.{Request}

pub record Texts : Type 0 where
  pub job : List ℕ
  pub plan : List ℕ
  pub costs : List ℕ
  pub given : Given

-- what is handed in: texts, and what is asked beside them
abbrev pub handed : Request → Texts → Handed
handed request t = record { request = request; job = t.job; plan = t.plan; costs = t.costs }

-- nothing that may be left out
abbrev pub none_given : Given
none_given = record { costs = false }

-- a costs text
abbrev pub costs_given : Given
costs_given = record { costs = true }

-- a job text and a plan text, without and with a costs text
abbrev pub without_costs : List ℕ → List ℕ → Texts
without_costs job plan = record { job = job; plan = plan; costs = []; given = none_given }

abbrev pub with_costs_text : List ℕ → List ℕ → List ℕ → Texts
with_costs_text job plan costs = record { job = job; plan = plan; costs = costs; given = costs_given }
