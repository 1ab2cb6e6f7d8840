-- The judge, the check and the least cost agree: the judge's verdict is the check's, of a plan with
-- its cost, and the least cost that it names is the least cost's, with the list and the cost table
-- filled alike.
-- Assumes nothing.
use Prim.Native.Nat.{ℕ}
use mathlib.Core.Path.{◌≡◌, refl, sym, subst}
use Rattle.std.specs.Prelude.{Option, Some}
use mathlib.Core.List.{List, []}
use native.Mathlib.Omega.{arith}
use lib.ListN.{length}
use Rattle.laws.proofs.Tests.{never}
use Rattle.semantics.specs.Program.{Program}
use Rattle.semantics.specs.Domain.{Domain}
use Rattle.semantics.specs.Verdict.{Judged, by_runs}
use Rattle.semantics.specs.Judgement.{Judgement, Finds, is_least, is_dearer, is_other}
use Rattle.load.specs.Refusals.{Handed, passed, Offer, texts_in, loading}
use Rattle.load.specs.View.{View, view_of, view_in}
use Rattle.load.specs.declared.request.Sort.TheVariants.{Moves}
use Rattle.load.proofs.LoadingLaws.{loading_iff}
use Rattle.jesmovit.specs.Texts.{Texts}
use Rattle.jesmovit.specs.Outcomes.{SizedJudgement}
use Rattle.jesmovit.specs.Answers.{Answers}
use Rattle.jesmovit.specs.Checking.{checking, CheckDone}
use Rattle.jesmovit.specs.Judging.{costing, judging, Lent, TableOf, TableFor, CostDone, LeastIs, costs, no_plan, JudgeDone}
use Rattle.jesmovit.proofs.AnswerLaws.{answer_done, spoken, offer_of}
use Rattle.theorems.specs.Decided.{verdict_in, least_in}
use Rattle.theorems.proofs.Acceptance.{accepted_iff}

-- what the judge finds has the verdict in it, and the least cost that it names
found_verdict : {D : Domain} {σ : Program} {ms : List ℕ} {g : Judgement} → Finds D σ ms g → Judged D (by_runs D σ) ms (verdict_in g)
found_verdict (is_least x l) = x
found_verdict (is_dearer x l h) = x
found_verdict (is_other x f) = x

named_least : (v : View) {ms : List ℕ} {g : Judgement} {old new : List ℕ} {b : ℕ} → Finds v.domain v.program ms g → TableFor v g old new
    → least_in g ≡ Some b → LeastIs v (Some b) × TableOf v old new
named_least v (is_least {c} x l) t e = (subst (λ (k : Option ℕ). LeastIs v k) e (costs l), t)
named_least v (is_dearer {c} {b} x l h) t e = (subst (λ (k : Option ℕ). LeastIs v k) e (costs l), t)
named_least v (is_other x f) t e = never (cc)

module _ (t : Texts) (old new : Lent) {g : SizedJudgement}
    (x : Answers JudgeDone old (view_in (judging t (length old.list) (length old.table))) (passed g) new) where
  abbrev h : Handed
  h = judging t (length old.list) (length old.table)

  -- the offer that is judged
  record Offered : Type 0 where
    offer : Offer
    passes : loading (judging t (length old.list) (length old.table)) ≡ passed offer
    done : JudgeDone (view_of offer) g old new

  offered : Offered
  offered =
      let (v, p, d) = spoken x refl in
      let (o, f, q) = offer_of h p in
      record { offer = o; passes = f; done = subst (λ (w : View). JudgeDone w g old new) (sym q) d }

  -- the check's answer
  checked : loading (checking Moves t (length old.list)) ≡ passed offered.offer
  unfolding texts_in
  checked =
      let y = (loading_iff h offered.offer).0 offered.passes in
      (loading_iff (checking Moves t (length old.list)) offered.offer).1 (y.0, y.1, omega arith)

  pub judged_is_checked :
      Answers (CheckDone Moves) old.list (view_in (checking Moves t (length old.list))) (passed (verdict_in g.judgement)) new.list
  judged_is_checked =
      answer_done (checking Moves t (length old.list)) (sym checked)
      (record { says = found_verdict offered.done.found.finds; list = offered.done.list })

  -- the least cost's answer
  costed : loading (costing t (length old.list) (length old.table)) ≡ passed (record { task = offered.offer.task; entries = [] })
  costed =
      let a = (accepted_iff h offered.offer).0 offered.passes in
      (accepted_iff (costing t (length old.list) (length old.table)) (record { task = offered.offer.task; entries = [] })).1 (record {
        texts = record { its_task = a.texts.its_task; its_plan = λ sort f. never (cc); alone = λ f. refl };
        list = a.list;
        table = a.table;
      })

  pub judged_is_costed : {b : ℕ} → least_in g.judgement ≡ Some b
      → Answers CostDone old (view_in (costing t (length old.list) (length old.table))) (passed (Some b)) new
  judged_is_costed f =
      let n = named_least (view_of offered.offer) offered.done.found.finds offered.done.found.table f in
      answer_done (costing t (length old.list) (length old.table)) (sym costed) (record { is = again n.0; list = offered.done.list; table = n.1 })
    where
      -- the entries are not looked at
      again : {k : Option ℕ} → LeastIs (view_of offered.offer) k → LeastIs (view_of (record { task = offered.offer.task; entries = [] })) k
      again (costs y) = costs y
      again (no_plan y) = no_plan y
