-- At most one answer, list and cost table meet the promise of an operation. What is handed in
-- counts by its view alone.
-- Assumes nothing.
use Prim.Native.Nat.{ℕ}
use mathlib.Core.Path.{◌≡◌, refl, sym, ◌∙◌, ap, subst}
use Rattle.std.specs.Prelude.{Option, Some}
use Rattle.std.specs.Prelude.{Result, Ok, Err}
use mathlib.Core.List.{List, [], ◌∷◌}
use lib.ListN.{get_or}
use Rattle.laws.proofs.Tests.{never}
use Rattle.job.specs.Refusal.{number_of}
use Rattle.job.specs.declared.refusal.Reason.{Reason}
use Rattle.job.specs.declared.refusal.Reason.TheVariants.{Form, Range, Reference, Size, Plan, Room, Costs, Pick}
use Rattle.job.specs.declared.refusal.Refusal.{Refusal}
use Rattle.semantics.specs.Verdict.{Verdict}
use Rattle.semantics.specs.Judgement as J
use Rattle.semantics.proofs.CostLaws.{least_unique}
use Rattle.semantics.proofs.VerdictLaws.{one_move_verdict, one_step_verdict}
use Rattle.semantics.proofs.FilledLaws.{filled_unique}
use Rattle.semantics.proofs.JudgementLaws.{one_judgement}
use Rattle.validate.proofs.VerdictLaws.{verdict_injective}
use Rattle.load.specs.Refusals.{Handed, Checked, refused}
use Rattle.load.specs.Loaded.{checked_as}
use Rattle.validate.specs.Verdict.{verdict_of}
use Rattle.load.specs.View.{View, view_in, view_steps, final_of, positions_of}
use Rattle.load.specs.declared.request.Sort.{Sort}
use Rattle.load.specs.declared.request.Sort.TheVariants.{Moves, Steps}
use Rattle.jesmovit.specs.Texts.{Texts}
use Rattle.jesmovit.specs.Outcomes.{ReadResult, CompileResult, CheckResult, LeastResult, JudgeResult, judgement_of, SizedJudgement}
use Rattle.jesmovit.specs.Answers.{Answers}
use Rattle.jesmovit.specs.JobText.{Reads}
use Rattle.jesmovit.specs.Compiling.{Compiles}
use Rattle.jesmovit.specs.Checking.{Says, CheckDone, Checks}
use Rattle.jesmovit.specs.Judging.{Lent, TableOf, LeastIs, costs, no_plan, CostDone, CostsLeast, TableFor, JudgeDone, Judges}
use Rattle.jesmovit.specs.declared.judging.Judgement.{Judgement}
use Rattle.jesmovit.specs.declared.judging.Judgement.TheVariants.{Least, Dearer, Other}
use Rattle.jesmovit.specs.declared.judging.Judged.{Judged}
use Rattle.jesmovit.proofs.AnswerLaws.{OneWay, one_outcome}

-- what each operation does, it does in one way
pub one_says : (sort : Sort) (v : View) {w u : Verdict} → Says sort v w → Says sort v u → w ≡ u
one_says Moves v x y = one_move_verdict v.domain v.program v.entries _ _ x y
one_says Steps v x y = one_step_verdict v.domain (view_steps v) (final_of v) v.entries _ _ x y

pub one_checked : {sort : Sort} {old : List ℕ} → OneWay (CheckDone sort) old
one_checked {sort} v w u x y p q = (one_says sort v p.says q.says, p.list ∙ sym q.list)

one_table : (v : View) {old new other : List ℕ} → TableOf v old new → TableOf v old other → new ≡ other
one_table v x y = filled_unique v.domain (view_steps v) (positions_of v) _ _ _ x y

one_least : {v : View} {c d : Option ℕ} → LeastIs v c → LeastIs v d → c ≡ d
one_least {v} (costs x) (costs y) = ap Some (least_unique v.domain v.program _ _ x y)
one_least (costs x) (no_plan f) = absurd (f x.best x.allowed)
one_least (no_plan f) (costs y) = absurd (f y.best y.allowed)
one_least (no_plan f) (no_plan g) = refl

lent_same : {x y : Lent} → x.list ≡ y.list → x.table ≡ y.table → x ≡ y
lent_same e f = rw (e, f)

pub one_costed : {old : Lent} → OneWay CostDone old
one_costed v c d x y p q = (one_least p.is q.is, lent_same (p.list ∙ sym q.list) (one_table v p.table q.table))

one_table_for : (v : View) (g : J.Judgement) (old new other : List ℕ) → TableFor v g old new → TableFor v g old other → new ≡ other
one_table_for v (J.least c) old new other t u = one_table v t u
one_table_for v (J.dearer c b) old new other t u = one_table v t u
one_table_for v (J.other w) old new other t u = t ∙ sym u

pub one_judged : {old : Lent} → OneWay JudgeDone old
one_judged v g h x y p q =
    let s : g.sizes ≡ h.sizes = p.sized ∙ sym q.sized in
    let e : g.judgement ≡ h.judgement = one_judgement v.domain v.program v.entries _ _ p.found.finds q.found.finds in (
      rw (s, e),
      lent_same (p.list ∙ sym q.list) (one_table_for v g.judgement _ _ _ p.found.table (rw (← e) at q.found.table)),
    )

-- a number has one reason
reason_of : ℕ → Reason
reason_of n = get_or (Form ∷ Form ∷ Range ∷ Reference ∷ Size ∷ Plan ∷ Room ∷ Costs ∷ Pick ∷ []) n Form

reason_numbered : (r : Reason) → reason_of (number_of r) ≡ r
unfolding reason_of
reason_numbered Form = refl
reason_numbered Range = refl
reason_numbered Reference = refl
reason_numbered Size = refl
reason_numbered Plan = refl
reason_numbered Room = refl
reason_numbered Costs = refl
reason_numbered Pick = refl

reason_same : (r q : Reason) → number_of r ≡ number_of q → r ≡ q
reason_same r q e = sym (reason_numbered r) ∙ ap reason_of e ∙ reason_numbered q

-- one answer has an outcome
pub refusal_same : {B : Type 0} (r q : Refusal) → ◌≡◌ {A = Checked B} (refused (number_of r.reason) r.place) (refused (number_of q.reason) q.place) → r ≡ q
refusal_same r q e = let f : r.reason ≡ q.reason = reason_same r.reason q.reason (cc) in let g : r.place ≡ q.place = cc in rw (f, g)

pub checked_injective : {A B : Type 0} (f : A → B) → ((a b : A) → f a ≡ f b → a ≡ b) → (r q : Result A Refusal) → checked_as f r ≡ checked_as f q → r ≡ q
checked_injective f one (Ok a) (Ok b) e = ap Ok (one a b (cc))
checked_injective f one (Ok a) (Err q) e = never (cc)
checked_injective f one (Err r) (Ok b) e = never (cc)
checked_injective f one (Err r) (Err q) e = ap Err (refusal_same r q e)

judgement_injective : (g h : Judgement) → judgement_of g ≡ judgement_of h → g ≡ h
judgement_injective (Least c) (Least d) e = let f : c ≡ d = cc in ap Least f
judgement_injective (Least c) (Dearer d b) e = never (cc)
judgement_injective (Least c) (Other v) e = never (cc)
judgement_injective (Dearer c b) (Least d) e = never (cc)
judgement_injective (Dearer c b) (Dearer d a) e = let f : c ≡ d = cc in let g : b ≡ a = cc in rw (f, g)
judgement_injective (Dearer c b) (Other v) e = never (cc)
judgement_injective (Other v) (Least d) e = never (cc)
judgement_injective (Other v) (Dearer d b) e = never (cc)
judgement_injective (Other v) (Other w) e = ap Other (verdict_injective v w (cc))

judged_injective : (j k : Judged) → ◌≡◌ {A = SizedJudgement} (record { sizes = j.sizes; judgement = judgement_of j.judgement })
    (record { sizes = k.sizes; judgement = judgement_of k.judgement }) → j ≡ k
judged_injective j k e =
    let s : j.sizes ≡ k.sizes = ap (λ (x : SizedJudgement). x.sizes) e in
    let g : j.judgement ≡ k.judgement = judgement_injective j.judgement k.judgement (ap (λ (x : SizedJudgement). x.judgement) e) in
    rw (s, g)

-- only the view counts: calls that are handed other things, with the same view, have the same
-- outcome
pub same_view : {B C : Type 0} {Does : View → B → C → C → Type 0} {old : C} → OneWay Does old → (h k : Handed) → view_in h ≡ view_in k
    → {d e : Checked B} {x y : C} → Answers Does old (view_in h) d x → Answers Does old (view_in k) e y → (d ≡ e) × (x ≡ y)
same_view {Does = Does} {old} one h k same {d} {x = x} p q = one_outcome one (subst (λ (c : Checked View). Answers Does old c d x) same p) q

-- of reading
pub one_read_answer : (text : List ℕ) (a b : ReadResult) → Reads text a → Reads text b → a ≡ b
one_read_answer text a b x y = checked_injective (λ c. c) (λ c d e. e) a b (x ∙ sym y)

-- of compiling
pub one_compile_answer : (text list : List ℕ) (a b : CompileResult) (l m : List ℕ) → Compiles text list a l → Compiles text list b m → (a ≡ b) × (l ≡ m)
one_compile_answer text list a b l m x y = (checked_injective (λ c. c) (λ c d e. e) a b (x.outcome ∙ sym y.outcome), x.holds ∙ sym y.holds)

module _ (t : Texts) where
  -- of a check
  pub one_check_answer : (sort : Sort) (list : List ℕ) (a b : CheckResult) (l m : List ℕ) → Checks sort t list a l → Checks sort t list b m
      → (a ≡ b) × (l ≡ m)
  one_check_answer sort list a b l m x y = let z = one_outcome one_checked x y in (checked_injective verdict_of verdict_injective a b z.0, z.1)

  -- of the least cost
  pub one_cost_answer : (old : Lent) (a b : LeastResult) (x y : Lent) → CostsLeast t old a x → CostsLeast t old b y → (a ≡ b) × (x ≡ y)
  one_cost_answer old a b x y p q = let z = one_outcome one_costed p q in (checked_injective (λ c. c) (λ c d e. e) a b z.0, z.1)

  -- of the judge
  pub one_judge_answer : (old : Lent) (a b : JudgeResult) (x y : Lent) → Judges t old a x → Judges t old b y → (a ≡ b) × (x ≡ y)
  one_judge_answer old a b x y p q = let z = one_outcome one_judged p q in (checked_injective (λ j. record { sizes = j.sizes; judgement = judgement_of j.judgement }) judged_injective a b z.0, z.1)
