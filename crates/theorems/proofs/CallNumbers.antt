-- The number that a call from outside gives back: 0 just where nothing is refused, and otherwise a
-- number of the operation's own.
-- Assumes nothing.
use Prim.Native.Nat.{ℕ, ◌≤◌}
use mathlib.Core.Path.{◌≡◌, refl, sym, ◌∙◌, ap, subst}
use Rattle.std.specs.Prelude.{Option, None, Some}
use mathlib.Core.List.{List}
use mathlib.Core.Logic.{◌⊎◌, inl, inr}
use native.Mathlib.Omega.{arith}
use lib.ListN.{length}
use Rattle.laws.proofs.Tests.{never}
use Rattle.job.specs.Job.{Job}
use Rattle.job.specs.ReadJob as R
use Rattle.job.specs.ReadJob.{Outcome, read_job}
use Rattle.load.specs.Refusals.{Handed, Checked, passed, refused, next, Offer, loading}
use Rattle.load.specs.View.{View}
use Rattle.load.specs.declared.request.Sort.{Sort}
use Rattle.jesmovit.specs.Texts.{Texts}
use Rattle.jesmovit.specs.Outcomes.{check_outcome, least_outcome, judge_outcome}
use Rattle.jesmovit.specs.Answers.{Answers}
use Rattle.jesmovit.specs.JobText.{counts_in, Reads}
use Rattle.jesmovit.specs.Compiling.{compiling, view_sizes, Compiles}
use Rattle.jesmovit.specs.Checking.{checking, Checks}
use Rattle.jesmovit.specs.Judging.{costing, CostsLeast, judging, Lent, Judges}
use Rattle.jesmovit.proofs.AnswerLaws.{viewed, refusal_kept}
use Rattle.capi.specs.Numbers.{outcome_numbers, count_numbers, size_numbers, cost_numbers, read_numbers, compile_numbers, check_numbers, least_numbers, judge_numbers}
use Rattle.capi.specs.Calls.{Gives}
use Rattle.capi.specs.declared.numbers.Numbers.{Numbers}
use Rattle.theorems.specs.RefusalNumbers.{UpTo, of_line, of_variable, of_size, of_job, of_costs, of_plan, LoadNumber, of_text, too_short, CallNumber}
use Rattle.theorems.proofs.RefusalNumbers.{read_number, load_number}

-- the number of a refusal, and 0 for none
abbrev number_of : {A : Type 0} → Checked A → ℕ
number_of (passed a) = 0
number_of (refused number place) = number

-- numbers of refusals that are not 0
module _ (P : ℕ → Type 0) (positive : (number : ℕ) → P number → 1 ≤ number) where
  -- what passes has the number 0, and what does not has one of these
  pub either_number : {Passes : Type 0} (n : ℕ) → (Passes × (n ≡ 0)) ⊎ (P n × (Passes → ⊥)) → CallNumber P Passes n
  either_number n (inl (p, e)) = record { zero_iff = (λ z. p, λ q. e); otherwise = inl e }
  either_number n (inr (r, f)) = record { zero_iff = (λ z. absurd (omega (arith, positive n r)), λ q. absurd (f q)); otherwise = inr r }

  -- of every operation that takes texts
  module _ (h : Handed) (by : (number place : ℕ) → loading h ≡ refused number place → P number) where
    loaded_number : (c : Checked Offer) → loading h ≡ c → CallNumber P ((o : Offer) × (loading h ≡ passed o)) (number_of c)
    loaded_number (passed o) e = either_number 0 (inl ((o, e), refl))
    loaded_number (refused number place) e = either_number number (inr (by number place e, λ x. let y = x.1 in never (cc)))

    call_number : {A : Type 0} {numbers : A → Numbers} {promised : A → Type 0} {number : ℕ} {values : List ℕ} → Gives numbers promised number values
        → ((a : A) → promised a → (numbers a).number ≡ number_of (loading h)) → CallNumber P ((o : Offer) × (loading h ≡ passed o)) number
    call_number g same =
        subst (CallNumber P ((o : Offer) × (loading h ≡ passed o))) (sym (g.number_is ∙ same g.answer g.holds)) (loaded_number (loading h) refl)

-- what is answered has the number 0
answer_number : {B C : Type 0} {Does : View → B → C → C → Type 0} {old new : C} (say : B → Numbers) → ((b : B) → (say b).number ≡ 0)
    → (c : Checked Offer) (d : Checked B) → Answers Does old (viewed c) d new → (outcome_numbers say d).number ≡ number_of c
answer_number say zero (passed o) (passed b) x = zero b
answer_number say zero (passed o) (refused _ _) x = elim x [ ]
answer_number say zero (refused number place) d x = ap (λ (e : Checked _). (outcome_numbers say e).number) (refusal_kept x refl).0

up_to_positive : (last number : ℕ) → UpTo last number → 1 ≤ number
up_to_positive last number x = x.0

pub load_positive : (h : Handed) (number : ℕ) → LoadNumber h number → 1 ≤ number
load_positive h number (of_text (of_job (of_line x))) = x.0
load_positive h number (of_text (of_job of_variable)) = omega arith
load_positive h number (of_text (of_job of_size)) = omega arith
load_positive h number (of_text (of_costs f)) = omega arith
load_positive h number (of_text (of_plan f)) = omega arith
load_positive h number too_short = omega arith

-- of reading
pub read_call_number : (text : List ℕ) {number : ℕ} {values : List ℕ} → Gives read_numbers (λ a. Reads text a) number values
    → CallNumber (UpTo 3) ((n : ℕ) × (j : Job) × (read_job text ≡ R.read n j)) number
read_call_number text g =
    subst (CallNumber (UpTo 3) _) (sym (g.number_is ∙ ap (λ d. (outcome_numbers count_numbers d).number) g.holds)) (of_outcome (read_job text) refl)
  where
    of_outcome : (o : Outcome) → read_job text ≡ o
        → CallNumber (UpTo 3) ((n : ℕ) × (j : Job) × (read_job text ≡ R.read n j)) (outcome_numbers count_numbers (counts_in o)).number
    of_outcome (R.read n j) e = either_number (UpTo 3) (up_to_positive 3) 0 (inl ((n, j, e), refl))
    of_outcome (R.refused m p) e =
        either_number (UpTo 3) (up_to_positive 3) m (inr (read_number text m p e, λ x. let y = x.2 in never (cc)))

-- of compiling
pub compile_call_number : (text list after : List ℕ) {number : ℕ} {values : List ℕ} → Gives compile_numbers (λ a. Compiles text list a after) number values
    → CallNumber (LoadNumber (compiling text (length list))) ((o : Offer) × (loading (compiling text (length list)) ≡ passed o)) number
compile_call_number text list after g =
    let h = compiling text (length list) in
    call_number (LoadNumber h) (load_positive h) h (load_number h) g
    (λ a x. ap (λ d. (outcome_numbers size_numbers d).number) x.outcome ∙ same (loading h))
  where
    same : (c : Checked Offer) → (outcome_numbers size_numbers (next (viewed c) (λ v. passed (view_sizes v)))).number ≡ number_of c
    same (passed o) = refl
    same (refused m p) = refl

-- of a check
pub check_call_number : (sort : Sort) (t : Texts) (list after : List ℕ) {number : ℕ} {values : List ℕ}
    → Gives check_numbers (λ a. Checks sort t list a after) number values
    → CallNumber (LoadNumber (checking sort t (length list))) ((o : Offer) × (loading (checking sort t (length list)) ≡ passed o)) number
check_call_number sort t list after g =
    let h = checking sort t (length list) in
    call_number (LoadNumber h) (load_positive h) h (load_number h) g (λ a x. answer_number _ (λ v. refl) (loading h) (check_outcome a) x)

-- a least cost is no refusal
cost_zero : (c : Option ℕ) → (cost_numbers c).number ≡ 0
cost_zero (Some c) = refl
cost_zero None = refl

-- of the least cost and the judge
module _ (t : Texts) (old new : Lent) {number : ℕ} {values : List ℕ} where
  pub cost_call_number : Gives least_numbers (λ a. CostsLeast t old a new) number values
      → CallNumber (LoadNumber (costing t (length old.list) (length old.table)))
      ((o : Offer) × (loading (costing t (length old.list) (length old.table)) ≡ passed o)) number
  cost_call_number g =
      let h = costing t (length old.list) (length old.table) in
      call_number (LoadNumber h) (load_positive h) h (load_number h) g (λ a x. answer_number _ cost_zero (loading h) (least_outcome a) x)

  pub judge_call_number : Gives judge_numbers (λ a. Judges t old a new) number values
      → CallNumber (LoadNumber (judging t (length old.list) (length old.table)))
      ((o : Offer) × (loading (judging t (length old.list) (length old.table)) ≡ passed o)) number
  judge_call_number g =
      let h = judging t (length old.list) (length old.table) in
      call_number (LoadNumber h) (load_positive h) h (load_number h) g (λ a x. answer_number _ (λ j. refl) (loading h) (judge_outcome a) x)
