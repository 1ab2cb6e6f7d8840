-- Request (c), as written: for accepted texts, costs given or the house's, a list long enough, and
-- an output of any length, whatever they held; of a list of moves that the program allows, and of
-- any other. The check agrees.
-- Assumes nothing.
use Prim.Native.Nat.{ℕ}
use mathlib.Core.Path.{◌≡◌, refl, sym, ◌∙◌, ap, subst}
use Rattle.std.specs.Prelude.{Some}
use native.Mathlib.Omega.{arith}
use lib.ListN.{length}
use Rattle.laws.proofs.Tests.{never}
use Rattle.limits.specs.Limits.{most_cost}
use Rattle.semantics.specs.Domain.{Domain}
use Rattle.semantics.specs.Plan.{cost, Allowed}
use Rattle.semantics.specs.Verdict.{Verdict, plan}
use Rattle.semantics.proofs.Bounds.{Bounded}
use Rattle.semantics.proofs.PathLaws.{state_after}
use Rattle.semantics.proofs.VerdictLaws.{plan_leads}
use Rattle.domain.specs.Domain.{domain_of}
use Rattle.domain.specs.Entries.{EntriesBelow}
use Rattle.domain.proofs.DomainLaws.{domain_bounded}
use Rattle.layout.specs.Sheet.{sheet_of, sheet_size}
use Rattle.layout.proofs.PlanLines.{sheet_length}
use Rattle.load.specs.Refusals.{Handed, Checked, passed, refused, Offer}
use Rattle.load.specs.View.{View, view_of, view_in}
use Rattle.load.specs.declared.request.Sort.TheVariants.{Moves}
use Rattle.jesmovit.specs.Texts.{Texts}
use Rattle.jesmovit.specs.Outcomes.{WriteOutcome, wrote, said, sheet_outcome}
use Rattle.jesmovit.specs.Answers.{Answers}
use Rattle.jesmovit.specs.Compiling.{list_after}
use Rattle.jesmovit.specs.Checking.{checking, Says, CheckDone}
use Rattle.jesmovit.specs.Writing.{LentOutput, Writes, refuses, not_plan, too_short, writes, SheetIs, Sheets}
use Rattle.jesmovit.specs.Outcomes.{SheetResult}
use Rattle.jesmovit.proofs.AnswerLaws.{answer_done, view_of_lem}
use Rattle.theorems.specs.Accepted.{Accepted}
use Rattle.theorems.specs.LaysOut.{LaysOut, IsSheet}
use Rattle.theorems.proofs.Acceptance.{accepted_iff, accepted_within}
use Rattle.theorems.proofs.OneSheet.{one_written, one_sheet}
use Rattle.theorems.proofs.SheetShows.{sheet_is}
use Rattle.theorems.proofs.JudgeDecides.{allowed_plan, plan_allowed}

-- what is promised of what is no plan
repeated : {old new : LentOutput} {c : Checked View} {d : Checked WriteOutcome} → Writes SheetIs old c d new → {v : View} → c ≡ passed v
    → ((k : ℕ) → Says Moves v (plan k) → ⊥)
    → (w : Verdict) × Says Moves v w × (d ≡ passed (said w)) × (new ≡ record { list = list_after v old.list; output = old.output })
repeated refuses e f = never (cc)
repeated {old} (not_plan {v = u} {w} p g) {v} e f =
    let same : u ≡ v = cc in
    (w, subst (λ (x : View). Says Moves x w) same p, refl, ap (λ (x : View). record { list = list_after x old.list; output = old.output }) same)
repeated (too_short {v = u} {c} p q h) {v} e f = let same : u ≡ v = cc in absurd (f c (subst (λ (x : View). Says Moves x (plan c)) same p))
repeated (writes {v = u} {c} p q h) {v} e f = let same : u ≡ v = cc in absurd (f c (subst (λ (x : View). Says Moves x (plan c)) same p))

-- of accepted texts
module _ (t : Texts) (old : LentOutput) (o : Offer) (accepted : Accepted (checking Moves t (length old.list)) o) where
  abbrev h : Handed
  h = checking Moves t (length old.list)

  abbrev v : View
  v = view_of o

  abbrev D : Domain
  D = domain_of o.task

  -- and a list of moves that the program allows
  module _ (allowed : Allowed (view_of o).domain (view_of o).program o.entries) where
    says_plan : Says Moves v (plan (cost D D.start o.entries))
    says_plan = allowed_plan v.domain v.program o.entries allowed

    -- its moves are the job's, and lead somewhere; costs fit their column
    leads : state_after D D.start o.entries ≡ Some (plan_leads v.domain v.program says_plan).0
    leads = (plan_leads v.domain v.program says_plan).1

    entries : EntriesBelow o.entries D.moves
    entries = let p = accepted.texts.its_plan Moves refl in record { few = p.few; below = p.each }

    bounded : Bounded D most_cost
    bounded =
        let task = accepted.texts.its_task in
        domain_bounded o.task task.its_job.right (accepted_within h.request.given h.job h.costs o.task task)

    -- the sheet has the bytes that its moves take
    pub bytes_needed : length (sheet_of (domain_of o.task) o.entries) ≡ sheet_size (length o.entries)
    bytes_needed = sheet_length D bounded accepted.texts.its_task.its_job.right.moves o.entries entries leads

    -- it has whole lines, which fill their pages and show the moves
    pub sheet_right : IsSheet (domain_of o.task) o.entries (sheet_of (domain_of o.task) o.entries)
    sheet_right = sheet_is D o.entries leads bounded accepted.texts.its_task.its_job.right.moves entries

  -- whatever answer, list and output meet the promise
  module _ (answer : SheetResult) (new : LentOutput) (promised : Sheets t old answer new) where
    promised_here : Writes SheetIs old (passed (view_of o)) (sheet_outcome answer) new
    promised_here =
        subst (λ (c : Checked View). Writes SheetIs old c (sheet_outcome answer) new) (view_of_lem h ((accepted_iff h o).1 accepted)) promised

    pub sheet_decides : Allowed (view_of o).domain (view_of o).program o.entries → LaysOut (view_of o) old (sheet_outcome answer) new
    sheet_decides allowed =
        let n = bytes_needed allowed in
        record {
          room = λ r. let z = one_written one_sheet promised_here (writes (says_plan allowed) refl (omega (arith, r, n))) in
              (z.0 ∙ ap (λ (k : ℕ). passed (wrote k)) n, z.1);
          short = λ r. let z = one_written one_sheet promised_here (too_short (says_plan allowed) refl (omega (arith, r, n))) in
              (z.0 ∙ ap (λ (k : ℕ). refused 6 k) n, z.1);
        }

    -- "A list that isn't a plan gives its verdict and writes nothing"
    pub sheet_repeats : (Allowed (view_of o).domain (view_of o).program o.entries → ⊥)
        → (w : Verdict) × (sheet_outcome answer ≡ passed (said w)) × (new.output ≡ old.output)
        × Answers (CheckDone Moves) old.list (view_in (checking Moves t (length old.list))) (passed w) new.list
    sheet_repeats none =
        let (w, s, e, f) = repeated promised_here refl (λ k p. none (plan_allowed v.domain v.program o.entries p)) in (
          w,
          e,
          ap (λ (x : LentOutput). x.output) f,
          answer_done h (sym ((accepted_iff h o).1 accepted)) (record { says = s; list = ap (λ (x : LentOutput). x.list) f }),
        )
