-- What is promised of what is written for a plan, from the chain of reasons and the verdict.
-- Assumes nothing.
use Prim.Native.Nat.{ℕ, ◌≤◌, ◌<◌}
use mathlib.Core.Path.{◌≡◌, refl, sym, ◌∙◌, ap}
use mathlib.Core.List.{List}
use mathlib.Core.Logic.{◌⊎◌, inl, inr}
use native.Mathlib.Omega.{arith}
use lib.ListN.{length}
use lib.Seq.{sets}
use Rattle.job.specs.Store.{task_of}
use Rattle.job.specs.Refusal.{number_of}
use Rattle.job.specs.declared.refusal.Reason.TheVariants.{Room}
use Rattle.job.specs.declared.refusal.Refusal.{Refusal}
use Rattle.semantics.specs.Verdict as S
use Rattle.semantics.proofs.VerdictLaws.{plan_leads}
use Rattle.domain.specs.Domain.{domain_in}
use Rattle.domain.specs.Entries.{EntriesBelow}
use Rattle.domain.proofs.DomainLaws.{stored_bounded}
use Rattle.validate.specs.Verdict.{verdict_of}
use Rattle.validate.specs.declared.verdict.Verdict.{Verdict}
use Rattle.layout.specs.Sheet.{sheet_of, sheet_size}
use Rattle.layout.proofs.PlanLines.{sheet_length}
use Rattle.load.specs.Refusals.{Handed, Checked, passed, refused, Offer, loading}
use Rattle.job.specs.Stored.{Stored}
use Rattle.job.specs.declared.head.Head.{Head}
use Rattle.load.specs.View.{View, view_of, view_in}
use Rattle.load.specs.declared.request.Sort.TheVariants.{Moves}
use Rattle.jesmovit.specs.Outcomes.{WriteOutcome, wrote, said}
use Rattle.jesmovit.specs.Compiling.{list_after}
use Rattle.jesmovit.specs.Checking.{Says}
use Rattle.jesmovit.specs.Writing.{LentOutput, Writes, refuses, not_plan, too_short, writes, bytes_for, SheetIs}
use Rattle.jesmovit.proofs.AnswerLaws.{of_loaded}
use Rattle.jesmovit.proofs.JudgeLaws.{other_variant}

module _ {Content : View → List ℕ → Type 0} {old : LentOutput} (h : Handed) where
  pub write_refused : {number place : ℕ} → refused number place ≡ loading h → Writes Content old (view_in h) (refused number place) old
  write_refused {number} {place} e = of_loaded h (λ (c : Checked View). Writes Content old c (refused number place) old) e refuses

  pub write_passed : {o : Offer} → passed o ≡ loading h → {d : Checked WriteOutcome} {new : LentOutput} → Writes Content old (passed (view_of o)) d new
      → Writes Content old (view_in h) d new
  write_passed e {d} {new} x = of_loaded h (λ (c : Checked View). Writes Content old c d new) e x

-- a plan, or what asks for no bytes
plan_or_none : (v : Verdict) (count : ℕ) → ((c : ℕ) × (v ≡ Verdict.Plan c)) ⊎ (0 ≡ bytes_for (verdict_of v) count)
plan_or_none (Verdict.Plan c) count = inl (c, refl)
plan_or_none (Verdict.Blocked i) count = inr refl
plan_or_none Verdict.Unfinished count = inr refl
plan_or_none Verdict.Missed count = inr refl

pub other_asks : (v : Verdict) → ((x : ℕ) → v ≡ Verdict.Plan x → ⊥) → (count : ℕ) → 0 ≡ bytes_for (verdict_of v) count
other_asks v o count = elim (plan_or_none v count) [ inl x ↦ absurd (other_variant v o x.0 (ap verdict_of x.1)) | inr e ↦ e ]

-- of a job that is stored, and moves that it has
module _ {h : Head} {rows plan : List ℕ} (stored : Stored h rows) (entries : EntriesBelow plan (domain_in h rows).moves) (list out : List ℕ)
    (v : Verdict) (s : Says Moves (view_of (record { task = task_of h rows; entries = plan })) (verdict_of v)) where
  abbrev view : View
  view = view_of (record { task = task_of h rows; entries = plan })

  -- a verdict of another variant: nothing is laid out
  pub lay_none : ((x : ℕ) → v ≡ Verdict.Plan x → ⊥) → {after : List ℕ} → after ≡ list_after view list
      → Writes SheetIs (record { list = list; output = out }) (passed view) (passed (said (verdict_of v))) (record { list = after; output = out })
  lay_none o e = rw e (not_plan s (other_variant v o))

  module _ {need : ℕ} (n : need ≡ bytes_for (verdict_of v) (length plan)) where
    module _ {cost : ℕ} (e : v ≡ Verdict.Plan cost) where
      planned : Says Moves view (S.plan cost)
      planned = rw e at s

      pub plan_need : need ≡ sheet_size (length plan)
      plan_need = n ∙ ap (λ (w : Verdict). bytes_for (verdict_of w) (length plan)) e

      sheet_need : length (sheet_of (domain_in h rows) plan) ≡ need
      sheet_need =
          let m = plan_leads view.domain view.program planned in
          sheet_length view.domain (stored_bounded stored) stored.job.moves plan entries m.1 ∙ sym plan_need

      short_plan : length out < need
          → Writes SheetIs (record { list = list; output = out }) (passed view) (refused 6 need) (record { list = list; output = out })
      short_plan h = rw (← sheet_need) (too_short planned refl (omega (arith, sheet_need)))

      pub lay_sheet : need ≤ length out → {after filled : List ℕ} → after ≡ list_after view list → filled ≡ sets out 0 (sheet_of (domain_in h rows) plan)
          → Writes SheetIs (record { list = list; output = out }) (passed view) (passed (wrote need)) (record { list = after; output = filled })
      lay_sheet h f g = rw (f, g, ← sheet_need) (writes planned refl (omega (arith, sheet_need)))

    -- only a plan needs any bytes
    pub lay_short : length out < need → {r : Refusal} → r ≡ record { reason = Room; place = need }
        → Writes SheetIs (record { list = list; output = out }) (passed view) (refused (number_of r.reason) r.place) (record { list = list; output = out })
    lay_short h f = rw f (elim (plan_or_none v (length plan)) [ inl x ↦ short_plan x.1 h | inr z ↦ absurd (omega (arith, h, n, z)) ])
