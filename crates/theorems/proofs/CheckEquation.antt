-- What a check promises by runs and paths is an equation for its outcome.
-- Assumes nothing.
use Prim.Native.Nat.{ℕ}
use mathlib.Core.Path.{refl, sym, subst}
use mathlib.Core.List.{List}
use mathlib.Core.Logic.{◌↔◌}
use native.Mathlib.Omega.{arith}
use lib.ListN.{length}
use Rattle.semantics.specs.Verdict.{Verdict}
use Rattle.semantics.proofs.CheckLaws.{verdict_by_judged}
use Rattle.semantics.proofs.StepVerdictLaws.{step_verdict_judged}
use Rattle.load.specs.Refusals.{Checked, passed, refused}
use Rattle.load.specs.View.{View, view_steps, final_of, positions_of, view_in}
use Rattle.load.specs.declared.request.Sort.{Sort}
use Rattle.load.specs.declared.request.Sort.TheVariants.{Moves, Steps}
use Rattle.jesmovit.specs.Texts.{Texts}
use Rattle.jesmovit.specs.Outcomes.{check_outcome}
use Rattle.jesmovit.specs.Answers.{Answers, does, refuses}
use Rattle.jesmovit.specs.Compiling.{list_in}
use Rattle.jesmovit.specs.Checking.{checking, Says, CheckDone, Checks}
use Rattle.jesmovit.specs.Outcomes.{CheckResult}
use Rattle.jesmovit.proofs.AnswerLaws.{one_outcome}
use Rattle.theorems.specs.CheckEquation.{verdict_for, checked_as, CheckEquals}
use Rattle.theorems.proofs.OneAnswer.{one_checked}

verdict_says : (sort : Sort) (v : View) → Says sort v (verdict_for sort v)
verdict_says Moves v = verdict_by_judged v.domain v.program (positions_of v) (omega arith) v.entries
verdict_says Steps v = step_verdict_judged v.domain (view_steps v) (final_of v) v.entries

-- the outcome and the list of the equation are an answer
answered : (sort : Sort) (list : List ℕ) (c : Checked View) → Answers (CheckDone sort) list c (checked_as sort c) (list_in c list)
answered sort list (passed v) = does (record { says = verdict_says sort v; list = refl })
answered sort list (refused number place) = refuses

pub check_equation : (sort : Sort) (t : Texts) (list : List ℕ) (a : CheckResult) (after : List ℕ)
    → Checks sort t list a after ↔ CheckEquals sort t list a after
check_equation sort t list a after =
    let c = view_in (checking sort t (length list)) in (
      λ x. let z = one_outcome one_checked x (answered sort list c) in record { outcome = z.0; holds = z.1 },
      λ e. subst (λ (l : List ℕ). Answers (CheckDone sort) list c (check_outcome a) l) (sym e.holds)
          (subst (λ (d : Checked Verdict). Answers (CheckDone sort) list c d (list_in c list)) (sym e.outcome) (answered sort list c)),
    )
