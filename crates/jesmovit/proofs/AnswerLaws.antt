-- An operation's promise, from the chain of reasons: refused with what it refuses, or met by what
-- the operation does.
-- Assumes nothing.
use Prim.Native.Nat.{ℕ}
use mathlib.Core.Path.{◌≡◌, refl, ap, subst}
use Rattle.laws.proofs.Tests.{never}
use Rattle.load.specs.Refusals.{Handed, Checked, passed, refused, next, Offer, loading}
use Rattle.load.specs.View.{View, view_of, view_in}
use Rattle.load.proofs.StageLaws.{passed_next}
use Rattle.jesmovit.specs.Answers.{Answers, does, refuses}

abbrev pub viewed : Checked Offer → Checked View
viewed c = next c (λ o. passed (view_of o))

-- what holds of what was loaded holds of its view
pub of_loaded : (h : Handed) (P : Checked View → Type 0) {c : Checked Offer} → c ≡ loading h → P (viewed c) → P (view_in h)
of_loaded h P e x = subst (λ (c : Checked Offer). P (viewed c)) e x

module _ {B C : Type 0} {Does : View → B → C → C → Type 0} {old : C} (h : Handed) where
  pub answer_refused : {number place : ℕ} → refused number place ≡ loading h → Answers Does old (view_in h) (refused number place) old
  answer_refused {number} {place} e = of_loaded h (λ (c : Checked View). Answers Does old c (refused number place) old) e refuses

  pub answer_done : {o : Offer} → passed o ≡ loading h → {b : B} {new : C} → Does (view_of o) b old new → Answers Does old (view_in h) (passed b) new
  answer_done e {b} {new} x = of_loaded h (λ (c : Checked View). Answers Does old c (passed b) new) e (does x)

-- what an answer to something that passes is
pub record Answered {A B C : Type 0} (Does : A → B → C → C → Type 0) (a : A) (old : C) (outcome : Checked B) (new : C) : Type 0 where
  pub value : B
  pub is : outcome ≡ passed value
  pub done : Does a value old new

pub answered : {A B C : Type 0} {Does : A → B → C → C → Type 0} {old new : C} {c : Checked A} {d : Checked B} → Answers Does old c d new
    → {a : A} → c ≡ passed a → Answered Does a old d new
answered {Does = Does} {old} {new} (does {a = x} {b} y) {a} e =
    let z : x ≡ a = cc in subst (λ (w : _). Answered Does w old (passed b) new) z (record { value = b; is = refl; done = y })
answered refuses e = never (cc)

-- what an answer with a value speaks of
pub spoken : {A B C : Type 0} {Does : A → B → C → C → Type 0} {old new : C} {c : Checked A} {d : Checked B} → Answers Does old c d new
    → {b : B} → d ≡ passed b → (a : A) × (c ≡ passed a) × Does a b old new
spoken {Does = Does} {old} {new} (does {a} {b = x} y) {b} e = let z : x ≡ b = cc in (a, refl, subst (λ (w : _). Does a w old new) z y)
spoken refuses e = never (cc)

-- and a view is that of an offer
pub offer_of : (h : Handed) {v : View} → view_in h ≡ passed v → (o : Offer) × (loading h ≡ passed o) × (view_of o ≡ v)
offer_of h e = let (o, f, g) = passed_next (loading h) (λ o. passed (view_of o)) e in (o, f, cc)

pub view_of_lem : (h : Handed) {o : Offer} → loading h ≡ passed o → view_in h ≡ passed (view_of o)
view_of_lem h e = ap viewed e

-- a refusal is that of the chain, and nothing is changed
pub refusal_kept : {A B C : Type 0} {Does : A → B → C → C → Type 0} {old new : C} {c : Checked A} {d : Checked B} → Answers Does old c d new
    → {number place : ℕ} → c ≡ refused number place → (d ≡ refused number place) × (new ≡ old)
refusal_kept (does x) e = never (cc)
refusal_kept refuses e = (cc, refl)

-- an operation does what it does in one way
abbrev pub OneWay : {A B C : Type 0} → (A → B → C → C → Type 0) → C → Type 0
OneWay {A} {B} {C} Does old = (a : A) (b d : B) (x y : C) → Does a b old x → Does a d old y → (b ≡ d) × (x ≡ y)

-- then there is at most one outcome, and one content of what is lent
pub one_outcome : {A B C : Type 0} {Does : A → B → C → C → Type 0} {old : C} → OneWay Does old
    → {c : Checked A} {d e : Checked B} {x y : C} → Answers Does old c d x → Answers Does old c e y → (d ≡ e) × (x ≡ y)
one_outcome one (does p) (does q) = let z = one _ _ _ _ _ p q in (ap passed z.0, z.1)
one_outcome one refuses refuses = (refl, refl)
