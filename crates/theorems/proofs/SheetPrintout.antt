-- What the sheet's program prints, from the bytes of the texts: the sheet, the verdict on what is no
-- plan, or the refusal alone.
-- Assumes nothing.
use Prim.Native.Nat.{ℕ, ◌≤◌}
use mathlib.Core.Path.{◌≡◌, sym, ◌∙◌, ap}
use mathlib.Core.List.{List}
use native.Mathlib.Omega.{arith}
use lib.ListN.{length, take}
use lib.Seq.{sets}
use Rattle.laws.proofs.Tests.{never}
use Rattle.laws.proofs.Lists.{sets_front}
use Rattle.semantics.specs.Plan.{Allowed}
use Rattle.layout.specs.Sheet.{sheet_of, sheet_size}
use Rattle.load.specs.Refusals.{Checked, refused, Offer, loading}
use Rattle.load.specs.View.{View, view_of}
use Rattle.load.specs.declared.request.Sort.TheVariants.{Moves}
use Rattle.jesmovit.specs.Texts.{Texts}
use Rattle.jesmovit.specs.Outcomes.{WriteOutcome}
use Rattle.jesmovit.specs.Checking.{checking, Checks}
use Rattle.jesmovit.specs.Writing.{LentOutput, Writes, refuses, not_plan, too_short, writes, SheetIs, Sheets}
use Rattle.jesmovit.specs.Outcomes.{CheckResult}
use Rattle.jesmovit.specs.Outcomes.{SheetResult}
use Rattle.jesmovit.proofs.AnswerLaws.{viewed, one_outcome}
use Rattle.report.specs.Printout.{refused_line, printout, verdict_lines, check_printout, written_lines, sheet_printout}
use Rattle.theorems.specs.Accepted.{Accepted}
use Rattle.theorems.proofs.OneAnswer.{one_checked}
use Rattle.theorems.proofs.SheetDecides.{bytes_needed, sheet_decides, sheet_repeats}

module _ (t : Texts) (old : LentOutput) (o : Offer) (accepted : Accepted (checking Moves t (length old.list)) o) (answer : SheetResult)
    (new : LentOutput) (promised : Sheets t old answer new) where
  -- the whole sheet, and nothing else
  pub sheet_prints : Allowed (view_of o).domain (view_of o).program o.entries → sheet_size (length o.entries) ≤ length old.output
      → sheet_printout answer new.output ≡ sheet_of (view_of o).domain o.entries
  sheet_prints allowed r =
      let sheet : List ℕ = sheet_of (view_of o).domain o.entries in
      let n = bytes_needed t old o accepted allowed in
      let (e, f) = (sheet_decides t old o accepted answer new promised allowed).room r in
      ap (printout (written_lines new.output)) e ∙ ap (λ (x : LentOutput). take (sheet_size (length o.entries)) x.output) f
      ∙ ap (λ (k : ℕ). take k (sets old.output 0 sheet)) (sym n) ∙ sets_front sheet old.output (omega (arith, n, r))

  -- what a check of the same texts prints, with the same list
  pub sheet_prints_verdict : (Allowed (view_of o).domain (view_of o).program o.entries → ⊥)
      → (checked : CheckResult) (list : List ℕ) → Checks Moves t old.list checked list
      → sheet_printout answer new.output ≡ check_printout checked
  sheet_prints_verdict none checked list c =
      let (w, e, f, a) = sheet_repeats t old o accepted answer new promised none in
      let same = (one_outcome one_checked a c).0 in
      ap (printout (written_lines new.output)) e ∙ ap (printout verdict_lines) same

-- "A refusal prints only `refused=number,place`."
pub sheet_prints_refusal : (t : Texts) (old : LentOutput) (answer : SheetResult) (new : LentOutput) → Sheets t old answer new → (number place : ℕ)
    → loading (checking Moves t (length old.list)) ≡ refused number place → sheet_printout answer new.output ≡ refused_line number place
sheet_prints_refusal t old answer new promised number place e =
    ap (printout (written_lines new.output)) (refused_with promised (ap viewed e))
  where
    refused_with : {c : Checked View} {d : Checked WriteOutcome} {after : LentOutput} → Writes SheetIs old c d after → c ≡ refused number place
        → d ≡ refused number place
    refused_with (refuses {number = n} {place = p}) f = let g : n ≡ number = cc in let k : p ≡ place = cc in rw (g, k)
    refused_with (not_plan p f) g = never (cc)
    refused_with (too_short p q h) g = never (cc)
    refused_with (writes p q h) g = never (cc)
