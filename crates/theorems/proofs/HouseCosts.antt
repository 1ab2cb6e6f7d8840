-- "The house numbers remain for those who hand in none": with no costs text given, the reasons and
-- the view are those of the house's costs, whatever bytes stand beside; and the promises are those
-- of the house's costs as a text.
-- Assumes nothing.
use Prim.Native.Nat.{ℕ}
use mathlib.Core.Path.{◌≡◌, refl, sym, ◌∙◌, ap, subst}
use mathlib.Core.Bool.{false}
use mathlib.Core.List.{List}
use mathlib.Core.Logic.{◌↔◌}
use lib.ListN.{length}
use Rattle.job.specs.Job.{Job}
use Rattle.job.specs.Task.{Task, house_costs, at_house_costs, class_cost}
use Rattle.job.proofs.CostLaws.{house_within}
use Rattle.std.specs.Prelude.{Ok}
use Rattle.lists.specs.CostsText.{read_costs, costs_text}
use Rattle.load.specs.Refusals.{Handed, Checked, passed, refused, next, job_in, with_costs, costs_in, task_in, Offer, plan_in, texts_in, loading}
use Rattle.load.specs.View.{View, view_in}
use Rattle.load.specs.declared.request.Given.{Given}
use Rattle.load.specs.declared.request.Sort.{Sort}
use Rattle.load.specs.declared.request.Sort.TheVariants.{Moves}
use Rattle.load.proofs.TaskLaws.{costs_by_given}
use Rattle.load.proofs.LoadingLaws.{chain}
use Rattle.jesmovit.specs.Texts.{Texts}
use Rattle.jesmovit.specs.Outcomes.{check_outcome, least_outcome, judge_outcome, sheet_outcome, CheckResult, LeastResult, JudgeResult, SheetResult}
use Rattle.jesmovit.specs.Answers.{Answers}
use Rattle.jesmovit.specs.Checking.{checking, CheckDone, Checks}
use Rattle.jesmovit.specs.Judging.{costing, judging, Lent, CostDone, CostsLeast, JudgeDone, Judges}
use Rattle.jesmovit.specs.Writing.{LentOutput, Writes, SheetIs, Sheets}
use Rattle.jesmovit.proofs.AnswerLaws.{viewed}
use Rattle.theorems.specs.HouseCosts.{with_house_text, house_texts}
use Rattle.theorems.proofs.ListTexts.{costs_text_iff}

-- the house's costs are read from their text
house_read : read_costs (costs_text house_costs) ≡ Ok house_costs
unfolding class_cost
house_read = (costs_text_iff (costs_text house_costs) house_costs).1 (record { count = refl; free = refl; each = house_within; written = refl })

module _ (h : Handed) where
  abbrev planned : Task → Checked Offer
  planned t = plan_in h.request.plan h.plan t

  -- what is read of costs is the house's: texts pass as they do without reason 7
  module _ (g : Given) (costs : List ℕ) (house : (j : Job) → costs_in g costs j ≡ passed (at_house_costs j)) where
    at_house : (c : Checked Job) → next (next c (costs_in g costs)) planned ≡ next c (λ j. planned (at_house_costs j))
    at_house (passed j) = ap (λ (x : Checked Task). next x planned) (house j)
    at_house (refused number place) = refl

  -- reasons 1 to 5 and 8, as they are where there are no costs texts at all
  pub none_given_lem : h.request.given.costs ≡ false → texts_in h ≡ next (job_in h.job) (λ j. plan_in h.request.plan h.plan (at_house_costs j))
  unfolding texts_in task_in
  none_given_lem f =
      at_house h.request.given h.costs (λ j. sym (costs_by_given h.request.given h.costs j f)) (job_in h.job)

  house_given : texts_in (with_house_text h) ≡ next (job_in h.job) (λ j. plan_in h.request.plan h.plan (at_house_costs j))
  unfolding texts_in task_in
  house_given = at_house (with_house_text h).request.given (costs_text house_costs) (λ j. ap (with_costs j) house_read) (job_in h.job)

  -- the whole chain of reasons, and the view that every answer speaks of
  pub none_is_house : h.request.given.costs ≡ false → loading h ≡ loading (with_house_text h)
  none_is_house f = sym (chain h (sym (none_given_lem f))) ∙ chain (with_house_text h) (sym house_given)

  pub house_view : h.request.given.costs ≡ false → view_in h ≡ view_in (with_house_text h)
  house_view f = ap viewed (none_is_house f)

-- what is promised of one is promised of the other
same_promise : {A : Type 0} (P : Checked A → Type 0) {c d : Checked A} → c ≡ d → P c ↔ P d
same_promise P f = (subst P f, subst P (sym f))

-- so, where none is given, the promises are those of the house's costs
module _ (t : Texts) (none : t.given.costs ≡ false) where
  pub none_checks : (sort : Sort) (list : List ℕ) (a : CheckResult) (after : List ℕ) → Checks sort t list a after ↔ Checks sort (house_texts t) list a after
  none_checks sort list a after =
      same_promise (λ (c : Checked View). Answers (CheckDone sort) list c (check_outcome a) after) (house_view (checking sort t (length list)) none)

  module _ (old new : Lent) where
    pub none_costs_least : (a : LeastResult) → CostsLeast t old a new ↔ CostsLeast (house_texts t) old a new
    none_costs_least a =
        same_promise (λ (c : Checked View). Answers CostDone old c (least_outcome a) new)
        (house_view (costing t (length old.list) (length old.table)) none)

    pub none_judges : (a : JudgeResult) → Judges t old a new ↔ Judges (house_texts t) old a new
    none_judges a =
        same_promise (λ (c : Checked View). Answers JudgeDone old c (judge_outcome a) new)
        (house_view (judging t (length old.list) (length old.table)) none)

  pub none_sheets : (old new : LentOutput) (a : SheetResult) → Sheets t old a new ↔ Sheets (house_texts t) old a new
  none_sheets old new a =
      same_promise (λ (c : Checked View). Writes SheetIs old c (sheet_outcome a) new) (house_view (checking Moves t (length old.list)) none)
