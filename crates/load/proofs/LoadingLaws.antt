-- The chain of reasons: what it refuses, what passes it, and what a caller of loading knows.
-- Assumes nothing.
use Prim.Native.Nat.{ℕ, ◌≤◌, ◌<◌}
use mathlib.Core.Path.{◌≡◌, refl, sym, ◌∙◌, ap, subst}
use native.Mathlib.Omega.{arith}
use Rattle.std.specs.Prelude.{Option, Some, None, unwrap_or}
use mathlib.Core.Logic.{◌↔◌}
use Rattle.job.specs.Task.{Task}
use Rattle.load.specs.Refusals.{Handed, Checked, passed, refused, next, task_in, Offer, plan_in, texts_in}
use Rattle.load.specs.Refusals.{long_enough, list_need, table_size, table_need, cells_in, loading}
use Rattle.load.specs.declared.request.Request.{Request}
use Rattle.load.proofs.StageLaws.{passed_next, long_enough_lem, too_short, long_passed}

-- all texts: reasons 1 to 4, 8, 7 and 5
module _ (h : Handed) where
  pub texts_of : {c : Checked Task} → c ≡ task_in h.request.given h.job h.costs → next c (plan_in h.request.plan h.plan) ≡ texts_in h
  unfolding texts_in
  texts_of e = ap (λ (x : Checked Task). next x (plan_in h.request.plan h.plan)) e

  pub texts_taken : {o : Offer} → texts_in h ≡ passed o
      → (t : Task) × (task_in h.request.given h.job h.costs ≡ passed t) × (plan_in h.request.plan h.plan t ≡ passed o)
  unfolding texts_in
  texts_taken e = passed_next (task_in h.request.given h.job h.costs) (plan_in h.request.plan h.plan) e

  -- then reason 6, of the list and of the table
  abbrev listed : Offer → Checked Offer
  listed o = long_enough h.request.places (list_need o.task.job) o

  abbrev tabled : Offer → Checked Offer
  tabled o = long_enough (cells_in h.request) (table_need h.request o.task) o

  pub chain : {c : Checked Offer} → c ≡ texts_in h → next (next c listed) tabled ≡ loading h
  unfolding loading
  chain e = ap (λ (x : Checked Offer). next (next x listed) tabled) e

  module _ {o : Offer} (e : passed o ≡ texts_in h) where
    pub list_short : h.request.places < list_need o.task.job → refused 6 (list_need o.task.job) ≡ loading h
    list_short l = ap (λ (x : Checked Offer). next x tabled) (too_short h.request.places (list_need o.task.job) o l) ∙ chain e

    module _ (k : list_need o.task.job ≤ h.request.places) where
      list_long : tabled o ≡ loading h
      list_long = ap (λ (x : Checked Offer). next x tabled) (long_enough_lem h.request.places (list_need o.task.job) o k) ∙ chain e

      pub table_short : cells_in h.request < table_need h.request o.task → refused 6 (table_need h.request o.task) ≡ loading h
      table_short l = too_short (cells_in h.request) (table_need h.request o.task) o l ∙ list_long

      pub all_long : table_need h.request o.task ≤ cells_in h.request → passed o ≡ loading h
      all_long l = long_enough_lem (cells_in h.request) (table_need h.request o.task) o l ∙ list_long

  module _ (o : Offer) where
    abbrev Passes : Type 0
    Passes = (texts_in h ≡ passed o) × (list_need o.task.job ≤ h.request.places) × (table_need h.request o.task ≤ cells_in h.request)

    passes : loading h ≡ passed o → Passes
    unfolding loading
    passes e =
        let (y, g, l) = passed_next (next (texts_in h) listed) tabled e in
        let (x, f, k) = passed_next (texts_in h) listed g in
        let b = long_passed h.request.places (list_need x.task.job) x k in
        let t = long_passed (cells_in h.request) (table_need h.request y.task) y l in
        subst (λ (z : Offer). (texts_in h ≡ passed z) × (list_need z.task.job ≤ h.request.places) × (table_need h.request z.task ≤ cells_in h.request))
        t.0
        (subst (λ (z : Offer). texts_in h ≡ passed z) b.0 f, subst (λ (z : Offer). list_need z.task.job ≤ h.request.places) b.0 b.1, t.1)

    -- it passes just where the texts do and list and table are long enough
    pub loading_iff : (loading h ≡ passed o)
        ↔ ((texts_in h ≡ passed o) × (list_need o.task.job ≤ h.request.places) × (table_need h.request o.task ≤ cells_in h.request))
    loading_iff = (passes, λ x. sym (all_long (sym x.0) x.1 x.2))

-- the cells of a table that is handed in, beside those needed
module _ (r : Request) (t : Task) {need cells : ℕ} (n : need ≡ table_size t) (c : cells ≡ unwrap_or r.cells need) where
  cells_by : (o : Option ℕ) → r.cells ≡ o
      → (cells < need → (need ≡ table_need r t) × (cells_in r < table_need r t)) × (need ≤ cells → table_need r t ≤ cells_in r)
  cells_by (Some k) e =
      let m : cells ≡ k = c ∙ ap (λ (o : Option ℕ). unwrap_or o need) e in
      rw e ((λ h. (n, omega (arith, h, m, n))), (λ h. omega (arith, h, m, n)))
  cells_by None e =
      let m : cells ≡ need = c ∙ ap (λ (o : Option ℕ). unwrap_or o need) e in
      rw e ((λ h. absurd (omega (arith, h, m))), (λ h. omega arith))

  pub cells_few : cells < need → (need ≡ table_need r t) × (cells_in r < table_need r t)
  cells_few = (cells_by r.cells refl).0

  pub cells_enough : need ≤ cells → table_need r t ≤ cells_in r
  cells_enough = (cells_by r.cells refl).1
