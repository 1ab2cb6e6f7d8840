-- The number that a call of the sheet from outside gives back: 0 just where the texts and the list
-- are not refused and, if the moves are a plan, the output has room for its sheet.
-- Assumes nothing.
use Prim.Native.Nat.{ℕ}
use mathlib.Core.Path.{◌≡◌, refl, sym, ap, subst}
use mathlib.Core.List.{List}
use mathlib.Core.Logic.{inl, inr}
use native.Mathlib.Omega.{arith}
use lib.ListN.{length}
use Rattle.laws.proofs.Tests.{never}
use Rattle.load.specs.Refusals.{Handed, Checked, passed, refused, Offer, loading}
use Rattle.load.specs.View.{View, view_of, view_in}
use Rattle.load.specs.declared.request.Sort.TheVariants.{Moves}
use Rattle.jesmovit.specs.Texts.{Texts}
use Rattle.jesmovit.specs.Outcomes.{WriteOutcome}
use Rattle.jesmovit.specs.Checking.{checking}
use Rattle.jesmovit.specs.Writing.{LentOutput, Writes, refuses, not_plan, too_short, writes, SheetIs, Sheets}
use Rattle.jesmovit.proofs.AnswerLaws.{viewed, offer_of, view_of_lem}
use Rattle.capi.specs.Numbers.{outcome_numbers, laid_numbers, sheet_numbers}
use Rattle.capi.specs.Calls.{Gives}
use Rattle.theorems.specs.LaysOut.{RoomFor}
use Rattle.theorems.specs.RefusalNumbers as N
use Rattle.theorems.specs.RefusalNumbers.{LoadNumber, CallNumber}
use Rattle.theorems.proofs.RefusalNumbers.{load_number}
use Rattle.theorems.proofs.CallNumbers.{either_number, load_positive}
use Rattle.theorems.proofs.OneAnswer.{one_says}

-- a view that is refused is what is refused
refused_view : (c : Checked Offer) {number place : ℕ} → viewed c ≡ refused number place → c ≡ refused number place
refused_view (passed o) e = never (cc)
refused_view (refused n p) {number} {place} e = let f : n ≡ number = cc in let g : p ≡ place = cc in rw (f, g)

module _ (t : Texts) (old : LentOutput) where
  abbrev h : Handed
  h = checking Moves t (length old.list)

  abbrev Passes : Type 0
  Passes = (o : Offer) × (loading (checking Moves t (length old.list)) ≡ passed o) × RoomFor (view_of o) old.output

  -- of a view, and of the offer that it is of
  passes_with : {v : View} → view_in h ≡ passed v → RoomFor v old.output → Passes
  passes_with e r = let (o, f, g) = offer_of h e in (o, f, subst (λ (w : View). RoomFor w old.output) (sym g) r)

  room_of : {v : View} → view_in h ≡ passed v → Passes → RoomFor v old.output
  room_of {v} e x =
      let same = view_of_lem h x.1 in
      let g : view_of x.0 ≡ v = cc in
      subst (λ (w : View). RoomFor w old.output) g x.2

  by_outcome : {c : Checked View} {d : Checked WriteOutcome} {new : LentOutput} → Writes SheetIs old c d new → view_in h ≡ c
      → CallNumber (LoadNumber h) Passes (outcome_numbers laid_numbers d).number
  by_outcome (refuses {number} {place}) e =
      let f = refused_view (loading h) e in
      either_number (LoadNumber h) (load_positive h) number (inr (load_number h number place f, λ x. let y = x.1 in never (cc)))
  by_outcome (not_plan {v} p f) e =
      either_number (LoadNumber h) (load_positive h) 0 (inl (passes_with e (λ c q. absurd (f c (one_says Moves v p q))), refl))
  by_outcome (too_short {v} {c} p q g) e =
      either_number (LoadNumber h) (load_positive h) 6 (inr (N.too_short, λ x. omega (arith, room_of e x c p, g, ap length q)))
  by_outcome (writes p q g) e =
      either_number (LoadNumber h) (load_positive h) 0 (inl (passes_with e (λ c s. omega (arith, g, ap length q)), refl))

  pub sheet_call_number : (new : LentOutput) {number : ℕ} {values : List ℕ} → Gives sheet_numbers (λ a. Sheets t old a new) number values
      → CallNumber (LoadNumber (checking Moves t (length old.list)))
      ((o : Offer) × (loading (checking Moves t (length old.list)) ≡ passed o) × RoomFor (view_of o) old.output) number
  sheet_call_number new g = subst (CallNumber (LoadNumber h) Passes) (sym g.number_is) (by_outcome g.holds refl)
