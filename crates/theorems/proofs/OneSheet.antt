-- At most one answer, list and output meet the promise of laying out; at most one number, list of
-- values, list and output are what a call from outside gives.
-- Assumes nothing.
use Prim.Native.Nat.{ℕ}
use mathlib.Core.Path.{◌≡◌, refl, sym, ◌∙◌, ap, subst}
use mathlib.Core.List.{List}
use native.Mathlib.Omega.{arith}
use lib.ListN.{length}
use lib.Seq.{sets}
use Rattle.laws.proofs.Tests.{never}
use Rattle.semantics.specs.Verdict.{Verdict}
use Rattle.validate.proofs.VerdictLaws.{verdict_injective}
use Rattle.load.specs.Refusals.{Handed, Checked, passed, refused}
use Rattle.load.specs.View.{View, view_in}
use Rattle.load.specs.declared.request.Sort.TheVariants.{Moves}
use Rattle.jesmovit.specs.Texts.{Texts}
use Rattle.jesmovit.specs.Outcomes.{WriteOutcome, wrote, said, written_as}
use Rattle.jesmovit.specs.Compiling.{list_after}
use Rattle.jesmovit.specs.Writing.{LentOutput, Writes, refuses, not_plan, too_short, writes, SheetIs, Sheets}
use Rattle.jesmovit.specs.Outcomes.{SheetResult}
use Rattle.jesmovit.specs.declared.laying.SheetAnswer.{SheetAnswer}
use Rattle.jesmovit.specs.declared.laying.SheetAnswer.TheVariants.{Laid, Said}
use Rattle.capi.specs.Numbers.{outcome_numbers, laid_numbers, sheet_numbers}
use Rattle.capi.specs.Calls.{Gives}
use Rattle.capi.proofs.GivesLaws.{gives_once}
use Rattle.theorems.proofs.OneAnswer.{one_says, checked_injective}

-- what is lent, once this is written
abbrev filled_with : LentOutput → View → List ℕ → LentOutput
filled_with old v x = record { list = list_after v old.list; output = sets old.output 0 x }

-- where what is to be written is one thing, so are the outcome and what is lent
module _ {Content : View → List ℕ → Type 0} (one : (v : View) (x y : List ℕ) → Content v x → Content v y → x ≡ y) {old : LentOutput} where
  pub one_written : {c : Checked View} {d e : Checked WriteOutcome} {new other : LentOutput} → Writes Content old c d new → Writes Content old c e other
      → (d ≡ e) × (new ≡ other)
  one_written refuses refuses = (refl, refl)
  one_written (not_plan {v} p f) (not_plan q g) = (ap (λ (w : Verdict). passed (said w)) (one_says Moves v p q), refl)
  one_written (not_plan {v} p f) (too_short {c} q k h) = absurd (f c (one_says Moves v p q))
  one_written (not_plan {v} p f) (writes {c} q k h) = absurd (f c (one_says Moves v p q))
  one_written (too_short {v} {c} q k h) (not_plan p f) = absurd (f c (one_says Moves v p q))
  one_written (too_short {v} {c} {x} p k h) (too_short {x = y} q j g) = (ap (λ (z : List ℕ). refused 6 (length z)) (one v x y k j), refl)
  one_written (too_short {v} {c} {x} p k h) (writes {x = y} q j g) = absurd (omega (arith, h, g, ap length (one v x y k j)))
  one_written (writes {v} {c} q k h) (not_plan p f) = absurd (f c (one_says Moves v p q))
  one_written (writes {v} {c} {x} p k h) (too_short {x = y} q j g) = absurd (omega (arith, h, g, ap length (one v x y k j)))
  one_written (writes {v} {c} {x} p k h) (writes {x = y} q j g) =
      let e = one v x y k j in (ap (λ (z : List ℕ). passed (wrote (length z))) e, ap (filled_with old v) e)

  -- only the view counts: calls that are handed other things, with the same view, have the same
  -- outcome
  pub same_written : (h k : Handed) → view_in h ≡ view_in k → {d e : Checked WriteOutcome} {new other : LentOutput}
      → Writes Content old (view_in h) d new → Writes Content old (view_in k) e other → (d ≡ e) × (new ≡ other)
  same_written h k same {d} {new = new} p q = one_written (subst (λ (c : Checked View). Writes Content old c d new) same p) q

-- a sheet is one thing
pub one_sheet : (v : View) (x y : List ℕ) → SheetIs v x → SheetIs v y → x ≡ y
one_sheet v x y e f = e ∙ sym f

written_injective : (a b : SheetAnswer) → written_as a ≡ written_as b → a ≡ b
written_injective (Laid n) (Laid m) e = let f : n ≡ m = cc in ap Laid f
written_injective (Laid n) (Said v) e = never (cc)
written_injective (Said v) (Laid n) e = never (cc)
written_injective (Said v) (Said w) e = ap Said (verdict_injective v w (cc))

module _ (t : Texts) (old x y : LentOutput) where
  pub one_sheet_answer : (a b : SheetResult) → Sheets t old a x → Sheets t old b y → (a ≡ b) × (x ≡ y)
  one_sheet_answer a b p q = let z = one_written one_sheet p q in (checked_injective written_as written_injective a b z.0, z.1)

  pub one_sheet_call : (n m : ℕ) (v w : List ℕ) → Gives sheet_numbers (λ a. Sheets t old a x) n v → Gives sheet_numbers (λ a. Sheets t old a y) m w
      → (n ≡ m) × (v ≡ w) × (x ≡ y)
  one_sheet_call n m v w g h =
      let e = gives_once (λ a b p q. ap (outcome_numbers laid_numbers) (one_written one_sheet p q).0) g h in
      (e.0, e.1, (one_written one_sheet g.holds h.holds).1)
