-- Demand 3, as written: what an outcome of the judge says of an offered list of moves that the
-- program allows.
use Rattle.std.specs.Prelude.{ℕ, ◌≡◌, ◌↔◌, ◌⊎◌}
use Rattle.std.specs.Prelude.{Option, None, Some}
use Rattle.semantics.specs.Plan.{cost, Least}
use Rattle.semantics.specs.Verdict.{Verdict, plan}
use Rattle.semantics.specs.Judgement.{Judgement, least, dearer, other}
use Rattle.load.specs.Refusals.{Checked, passed}
use Rattle.load.specs.View.{View}
use Rattle.jesmovit.specs.Outcomes.{SizedJudgement}
use Rattle.jesmovit.specs.Compiling.{view_sizes}

-- the outcome that has this judgement, beside the sizes of the compiled job
abbrev pub judged_as : View → Judgement → Checked SizedJudgement
judged_as v g = passed (record { sizes = view_sizes v; judgement = g })

pub record Decided (v : View) (outcome : Checked SizedJudgement) : Type 0 where
  pub own : ℕ
  pub low : ℕ
  -- "the offered plan's cost"
  pub own_cost : cost v.domain v.domain.start v.entries ≡ own
  -- "and the true least cost over ALL allowed plans of whatever length": some allowed plan has it,
  -- every allowed plan costs at least as much
  pub low_cost : Least v.domain v.program low
  -- "and says `least` …, else `dearer`", with both
  pub says : (outcome ≡ judged_as v (least own)) ⊎ (outcome ≡ judged_as v (dearer own low))
  -- "exactly when equal"
  pub exactly : (outcome ≡ judged_as v (least own)) ↔ (own ≡ low)

-- the check's verdict that a judgement has in it: "adds least or dearer with both costs; for others
-- it repeats the check's verdict"
abbrev pub verdict_in : Judgement → Verdict
verdict_in (least cost) = plan cost
verdict_in (dearer cost low) = plan cost
verdict_in (other v) = v

-- the least cost that it names
abbrev pub least_in : Judgement → Option ℕ
least_in (least cost) = Some cost
least_in (dearer cost low) = Some low
least_in (other v) = None
