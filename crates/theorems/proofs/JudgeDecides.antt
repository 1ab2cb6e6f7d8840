-- Demand 3, as written: for accepted texts, costs given or the house's, a list and a table long
-- enough, whatever they held, and every offered list of moves that the program allows.
-- Assumes nothing.
use Prim.Native.Nat.{ℕ}
use mathlib.Core.Path.{◌≡◌, refl, sym, ◌∙◌, ap, subst}
use mathlib.Core.List.{List}
use mathlib.Core.Logic.{inl, inr}
use native.Mathlib.Omega.{arith}
use lib.ListN.{length}
use Rattle.laws.proofs.Tests.{never}
use Rattle.semantics.specs.Program.{Program}
use Rattle.semantics.specs.Domain.{Domain}
use Rattle.semantics.specs.Plan.{cost, Allowed}
use Rattle.semantics.specs.Verdict.{Verdict, plan, Judged, is_plan, by_runs}
use Rattle.semantics.specs.Judgement.{Judgement, other, Finds, is_least, is_dearer, is_other}
use Rattle.semantics.proofs.VerdictLaws.{one_move_verdict}
use Rattle.load.specs.Refusals.{Handed, Checked, passed, Offer}
use Rattle.load.specs.View.{View, view_of, view_in}
use Rattle.load.specs.declared.request.Sort.TheVariants.{Moves}
use Rattle.jesmovit.specs.Texts.{Texts}
use Rattle.jesmovit.specs.Outcomes.{SizedJudgement, judge_outcome}
use Rattle.jesmovit.specs.Answers.{Answers}
use Rattle.jesmovit.specs.Compiling.{view_sizes}
use Rattle.jesmovit.specs.Checking.{checking, CheckDone}
use Rattle.jesmovit.specs.Judging.{judging, Lent, JudgeDone, Judges}
use Rattle.jesmovit.specs.Outcomes.{JudgeResult}
use Rattle.jesmovit.proofs.AnswerLaws.{Answered, answered, view_of_lem}
use Rattle.theorems.specs.Accepted.{Accepted}
use Rattle.theorems.specs.Decided.{judged_as, Decided, verdict_in}
use Rattle.theorems.proofs.Acceptance.{accepted_iff}
use Rattle.theorems.proofs.JudgedChecks.{judged_is_checked}

-- an allowed list is a plan, by its cost; and a plan is allowed
pub allowed_plan : (D : Domain) (σ : Program) (ms : List ℕ) → Allowed D σ ms → Judged D (by_runs D σ) ms (plan (cost D D.start ms))
unfolding by_runs
allowed_plan D σ ms a = is_plan a.run a.reached

pub plan_allowed : (D : Domain) (σ : Program) (ms : List ℕ) {c : ℕ} → Judged D (by_runs D σ) ms (plan c) → Allowed D σ ms
unfolding by_runs
plan_allowed D σ ms (is_plan run reached) = record { last = _; run = run; reached = reached }

same_judgement : (v : View) {g h : Judgement} → judged_as v g ≡ judged_as v h → g ≡ h
same_judgement v {g} {h} e =
    let f : ◌≡◌ {A = SizedJudgement} (record { sizes = view_sizes v; judgement = g }) (record { sizes = view_sizes v; judgement = h }) = cc in
    ap (λ (x : SizedJudgement). x.judgement) f

module _ (v : View) where
  abbrev Offers : Type 0
  Offers = Allowed v.domain v.program v.entries

  decided : Offers → {g : Judgement} → Finds v.domain v.program v.entries g → Decided v (judged_as v g)
  decided allowed f =
      let own : (w : Verdict) → Judged v.domain (by_runs v.domain v.program) v.entries w
      → plan (cost v.domain v.domain.start v.entries) ≡ w =
      λ w x. one_move_verdict v.domain v.program v.entries _ w (allowed_plan v.domain v.program v.entries allowed) x in
      by own f
    where
      by : ((w : Verdict) → Judged v.domain (by_runs v.domain v.program) v.entries w → plan (cost v.domain v.domain.start v.entries) ≡ w)
          → {g : Judgement} → Finds v.domain v.program v.entries g → Decided v (judged_as v g)
      by own (is_least {c} x y) =
          let e = own (plan c) x in record { own = c; low = c; own_cost = cc; low_cost = y; says = inl refl; exactly = (λ z. refl, λ z. refl) }
      by own (is_dearer {c} {b} x y h) =
          let e = own (plan c) x in
          record {
            own = c;
            low = b;
            own_cost = cc;
            low_cost = y;
            says = inr refl;
            exactly =
                (λ z. let y = same_judgement v z in never (cc), λ z. absurd (omega arith));
          }
      by own (is_other x f) = absurd (f _ (sym (own _ x)))

  -- of what is no plan
  repeated : (Offers → ⊥) → {g : Judgement} → Finds v.domain v.program v.entries g → g ≡ other (verdict_in g)
  repeated none (is_least x y) = absurd (none (plan_allowed v.domain v.program v.entries x))
  repeated none (is_dearer x y h) = absurd (none (plan_allowed v.domain v.program v.entries x))
  repeated none (is_other x f) = refl

-- whatever answer, list and table meet the judge's promise
module _ (t : Texts) (old : Lent) (o : Offer) (accepted : Accepted (judging t (length old.list) (length old.table)) o)
    (answer : JudgeResult) (new : Lent) (promised : Judges t old answer new) where
  abbrev h : Handed
  h = judging t (length old.list) (length old.table)

  judged : Answered JudgeDone (view_of o) old (judge_outcome answer) new
  judged = answered promised (view_of_lem h ((accepted_iff h o).1 accepted))

  outcome_is : judge_outcome answer ≡ judged_as (view_of o) judged.value.judgement
  outcome_is = judged.is ∙ ap (λ s. passed (record { sizes = s; judgement = judged.value.judgement })) judged.done.sized

  pub judge_decides : Allowed (view_of o).domain (view_of o).program o.entries → Decided (view_of o) (judge_outcome answer)
  judge_decides allowed = subst (Decided (view_of o)) (sym outcome_is) (decided (view_of o) allowed judged.done.found.finds)

  -- "for others it repeats the check's verdict"
  pub judge_repeats : (Allowed (view_of o).domain (view_of o).program o.entries → ⊥)
      → (w : Verdict) × (judge_outcome answer ≡ judged_as (view_of o) (other w))
      × Answers (CheckDone Moves) old.list (view_in (checking Moves t (length old.list))) (passed w) new.list
  judge_repeats none = (
    verdict_in judged.value.judgement,
    outcome_is ∙ ap (judged_as (view_of o)) (repeated (view_of o) none judged.done.found.finds),
    judged_is_checked t old new (subst (λ (d : Checked SizedJudgement). Answers JudgeDone old (view_in h) d new) judged.is promised),
  )
