-- What is known once loading has answered, and the list is filled: the promise's refusal, or a job
-- that is stored, measured and has its lists.
-- Assumes nothing.
use Prim.Native.Nat.{ℕ, ◌*◌, ◌≤◌}
use mathlib.Core.Path.{◌≡◌, sym, ◌∙◌, ap, subst}
use mathlib.Core.Bool.{cond}
use mathlib.Core.List.{List}
use lib.ListN.{length}
use Rattle.std.specs.Prelude.{Option, Some, is_some, unwrap_or, Result, Ok, Err}
use Rattle.job.specs.Refusal.{number_of}
use Rattle.job.specs.StoredTask.{stored_job, stored_task}
use Rattle.job.specs.declared.refusal.Refusal.{Refusal}
use Rattle.domain.specs.Entries.{EntriesBelow}
use Rattle.compile.specs.CompiledJob.{step_count}
use Rattle.lists.proofs.ListTold.{plan_told}
use Rattle.load.specs.Refusals.{Handed, Checked, passed, refused, Offer, key_for, bound_for, plan_in, texts_in, list_need, table_size, table_need, cells_in, loading}
use Rattle.load.specs.Loaded.{loaded_as, offer_in, Loads}
use Rattle.load.specs.View.{View, view_of, view_in}
use Rattle.load.specs.declared.request.Sort.{Sort}
use Rattle.load.specs.declared.loaded.LoadedOffer.{LoadedOffer}
use Rattle.load.proofs.LoadingLaws.{loading_iff, texts_taken}
use Rattle.load.proofs.OfferLaws.{plan_taken}
use Rattle.jesmovit.specs.Answers.{Answers}
use Rattle.jesmovit.specs.Compiling.{list_after, list_in, Prepares, FrontHolds}
use Rattle.jesmovit.proofs.AnswerLaws.{viewed, answer_refused}
use Rattle.jesmovit.proofs.FrontLaws.{holds_filled}

module _ {h : Handed} {a : Result LoadedOffer Refusal} (e : Loads h a) where
  pub load_refused : {r : Refusal} → a ≡ Err r → refused (number_of r.reason) r.place ≡ loading h
  load_refused g = ap loaded_as (sym g) ∙ e.is

  module _ {o : LoadedOffer} (g : a ≡ Ok o) where
    pub load_passed : passed (offer_in o) ≡ loading h
    load_passed = ap loaded_as (sym g) ∙ e.is

    long : (texts_in h ≡ passed (offer_in o)) × (list_need (stored_job o.job.task) ≤ h.request.places)
        × (table_need h.request (stored_task o.job.task) ≤ cells_in h.request)
    long = (loading_iff h (offer_in o)).0 (sym load_passed)

    -- the list has room for the steps
    pub load_room : step_count (stored_job o.job.task) * 4 ≤ h.request.places
    load_room = long.1

    -- and the table for the cells
    pub load_cells : {cells : ℕ} → h.request.cells ≡ Some cells → table_size (stored_task o.job.task) ≤ cells
    load_cells f = subst (λ (c : Option ℕ). cond (is_some c) (table_size (stored_task o.job.task)) 0 ≤ unwrap_or c 0) f long.2

    -- the entries are a plan's
    pub load_entries : {sort : Sort} → h.request.plan ≡ Some sort → EntriesBelow o.entries.now (bound_for sort (stored_job o.job.task))
    load_entries {sort} f =
        let t = texts_taken h long.0 in
        let p = plan_taken sort h.plan t.0 (offer_in o) (subst (λ (p : Option Sort). plan_in p h.plan t.0 ≡ passed (offer_in o)) f t.2) in
        let r = plan_told (key_for sort) (bound_for sort (stored_job o.job.task)) h.plan o.entries.now p.1 in
        record { few = r.few; below = r.each }

-- what the list then holds
abbrev filled : List ℕ → Checked Offer → List ℕ
filled list c = list_in (viewed c) list

module _ {h : Handed} {a : Result LoadedOffer Refusal} {list after : List ℕ} (e : Prepares h a list after) where
  -- whatever is lent beside the list
  pub prepared_refused : {B C : Type 0} {Does : View → B → C → C → Type 0} (lent : List ℕ → C) {r : Refusal} → a ≡ Err r
      → Answers Does (lent list) (view_in h) (refused (number_of r.reason) r.place) (lent after)
  prepared_refused lent g =
      let x = load_refused e.loads g in
      let kept : after ≡ list = e.holds ∙ sym (ap (filled list) x) in rw kept (answer_refused h x)

  module _ {o : LoadedOffer} (g : a ≡ Ok o) where
    pub prepared_list : after ≡ list_after (view_of (offer_in o)) list
    prepared_list = e.holds ∙ sym (ap (filled list) (load_passed e.loads g))

    pub prepared_front : h.request.places ≡ length list → FrontHolds (stored_job o.job.task) after
    prepared_front p = holds_filled (stored_job o.job.task) list (rw p at (load_room e.loads g)) prepared_list
