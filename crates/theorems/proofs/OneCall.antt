-- At most one number, one list of values, one list and one table are what a call from outside
-- gives.
-- Assumes nothing.
use Prim.Native.Nat.{ℕ}
use mathlib.Core.Path.{◌≡◌, ◌∙◌, sym, ap}
use mathlib.Core.List.{List}
use Rattle.load.specs.Refusals.{Checked}
use Rattle.load.specs.View.{View}
use Rattle.load.specs.declared.request.Sort.{Sort}
use Rattle.jesmovit.specs.Texts.{Texts}
use Rattle.jesmovit.specs.Answers.{Answers}
use Rattle.jesmovit.specs.JobText.{Reads}
use Rattle.jesmovit.specs.Compiling.{Compiles}
use Rattle.jesmovit.specs.Checking.{Checks}
use Rattle.jesmovit.specs.Judging.{Lent, CostsLeast, Judges}
use Rattle.jesmovit.proofs.AnswerLaws.{OneWay, one_outcome}
use Rattle.jesmovit.specs.Outcomes.{check_outcome, least_outcome, judge_outcome}
use Rattle.capi.specs.Numbers.{outcome_numbers, read_numbers, compile_numbers, check_numbers, least_numbers, judge_numbers}
use Rattle.capi.specs.Numbers.{count_numbers, size_numbers, verdict_code, code_numbers, cost_numbers, judged_numbers, judgement_code}
use Rattle.capi.specs.Calls.{Gives}
use Rattle.capi.specs.declared.numbers.Numbers.{Numbers}
use Rattle.capi.proofs.GivesLaws.{gives_once}
use Rattle.theorems.proofs.OneAnswer.{one_checked, one_costed, one_judged}

-- of the checks, the least cost and the judge: the outcome is one, and so is what is lent
one_call : {A B C : Type 0} {Does : View → B → C → C → Type 0} {old x y : C} {c : Checked View} (outcome : A → Checked B) (say : B → Numbers)
    → OneWay Does old → {n m : ℕ} {v w : List ℕ}
    → Gives (λ a. outcome_numbers say (outcome a)) (λ a. Answers Does old c (outcome a) x) n v
    → Gives (λ a. outcome_numbers say (outcome a)) (λ a. Answers Does old c (outcome a) y) m w → (n ≡ m) × (v ≡ w) × (x ≡ y)
one_call outcome say one g h =
    let e = gives_once (λ a b p q. ap (outcome_numbers say) (one_outcome one p q).0) g h in
    (e.0, e.1, (one_outcome one g.holds h.holds).1)

-- of reading
pub one_read_call : (text : List ℕ) (n m : ℕ) (v w : List ℕ) → Gives read_numbers (λ a. Reads text a) n v → Gives read_numbers (λ a. Reads text a) m w
    → (n ≡ m) × (v ≡ w)
one_read_call text n m v w g h = gives_once (λ a b x y. ap (outcome_numbers count_numbers) (x ∙ sym y)) g h

-- of compiling
pub one_compile_call : (text list : List ℕ) (n m : ℕ) (v w l k : List ℕ) → Gives compile_numbers (λ a. Compiles text list a l) n v
    → Gives compile_numbers (λ a. Compiles text list a k) m w → (n ≡ m) × (v ≡ w) × (l ≡ k)
one_compile_call text list n m v w l k g h =
    let e = gives_once (λ a b x y. ap (outcome_numbers size_numbers) (x.outcome ∙ sym y.outcome)) g h in
    (e.0, e.1, g.holds.holds ∙ sym h.holds.holds)

module _ (t : Texts) (n m : ℕ) (v w : List ℕ) where
  -- of a check
  pub one_check_call : (sort : Sort) (list l k : List ℕ) → Gives check_numbers (λ a. Checks sort t list a l) n v
      → Gives check_numbers (λ a. Checks sort t list a k) m w → (n ≡ m) × (v ≡ w) × (l ≡ k)
  one_check_call sort list l k g h = one_call check_outcome (λ v. code_numbers (verdict_code v)) one_checked g h

  -- of the least cost
  pub one_cost_call : (old x y : Lent) → Gives least_numbers (λ a. CostsLeast t old a x) n v → Gives least_numbers (λ a. CostsLeast t old a y) m w
      → (n ≡ m) × (v ≡ w) × (x ≡ y)
  one_cost_call old x y g h = one_call least_outcome cost_numbers one_costed g h

  -- of the judge
  pub one_judge_call : (old x y : Lent) → Gives judge_numbers (λ a. Judges t old a x) n v → Gives judge_numbers (λ a. Judges t old a y) m w
      → (n ≡ m) × (v ≡ w) × (x ≡ y)
  one_judge_call old x y g h = one_call judge_outcome (λ g. judged_numbers g.sizes (judgement_code g.judgement)) one_judged g h
