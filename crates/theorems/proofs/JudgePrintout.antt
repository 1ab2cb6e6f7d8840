-- What the judge prints, from the bytes of the texts: the compiled job, a line for each of its
-- steps, and what the judge finds; or the refusal alone.
-- Assumes nothing.
use Prim.Native.Nat.{ℕ}
use mathlib.Core.Path.{◌≡◌, ap, ◌∙◌}
use mathlib.Core.List.{List, ◌++◌}
use lib.ListN.{length}
use Rattle.load.specs.Refusals.{passed, refused, Offer, loading}
use Rattle.load.specs.View.{view_of, view_steps, positions_of}
use Rattle.load.proofs.LoadingLaws.{loading_iff}
use Rattle.jesmovit.specs.Texts.{Texts}
use Rattle.jesmovit.specs.Outcomes.{SizedJudgement}
use Rattle.jesmovit.specs.Judging.{judging, Lent, Judges}
use Rattle.jesmovit.specs.Outcomes.{JudgeResult}
use Rattle.jesmovit.proofs.AnswerLaws.{viewed, answered, view_of_lem, refusal_kept}
use Rattle.report.specs.Printout.{compiled_lines, judgement_lines, refused_line, printout, judge_printout}
use Rattle.theorems.specs.Printed.{Printed}
use Rattle.theorems.proofs.CompiledPrintout.{prints_each_step}

abbrev judged_lines : List ℕ → SizedJudgement → List ℕ
judged_lines list g = compiled_lines g.sizes.positions g.sizes.steps list ++ judgement_lines g.judgement

module _ (t : Texts) (old : Lent) (answer : JudgeResult) (new : Lent) (promised : Judges t old answer new) where
  -- where nothing is refused
  pub judge_prints : (o : Offer) → loading (judging t (length old.list) (length old.table)) ≡ passed o
      → Printed (view_of o) (judge_printout answer new.list)
  judge_prints o e =
      let h = judging t (length old.list) (length old.table) in
      let a = answered promised (view_of_lem h e) in
      let g = a.value.judgement in
      record {
        judgement = g;
        finds = a.done.found.finds;
        prints =
            ap (printout (judged_lines new.list)) a.is
            ∙ ap (λ s. judged_lines new.list (record { sizes = s; judgement = g })) a.done.sized
            ∙ ap (λ (b : List ℕ). compiled_lines (positions_of (view_of o)) (length (view_steps (view_of o))) b ++ judgement_lines g) a.done.list
            ∙ ap (λ (b : List ℕ). b ++ judgement_lines g) (prints_each_step (view_of o) old.list ((loading_iff h o).0 e).1);
      }

  -- "A refusal prints only `refused=number,place`."
  pub judge_prints_refusal : (number place : ℕ) → loading (judging t (length old.list) (length old.table)) ≡ refused number place
      → judge_printout answer new.list ≡ refused_line number place
  judge_prints_refusal number place e = ap (printout (judged_lines new.list)) (refusal_kept promised (ap viewed e)).0
