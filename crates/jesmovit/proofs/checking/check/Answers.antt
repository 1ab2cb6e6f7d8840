use mathlib.Core.Path.{refl}
use Rattle.jesmovit.proofs.AnswerLaws.{answer_done}
use Rattle.jesmovit.proofs.LoadedLaws.{load_passed, load_entries, prepared_refused, prepared_list, prepared_front}
use Rattle.jesmovit.proofs.checking.check.Goals as goal

pub returns-in_default : goal.returns-in_default
returns-in_default c = prepared_refused c.prepare-prepared.ensures (λ l. l) c.unwrap_err.ensures

pub compiled-job-requires : goal.compiled-job-requires
compiled-job-requires c = prepared_front c.prepare-prepared.ensures c.in-Ok.is refl

pub verdict-requires : goal.verdict-requires
verdict-requires c =
    rw c.compiled-job.ensures.0 (load_entries c.prepare-prepared.ensures.loads c.in-Ok.is refl)

pub returns : goal.returns
returns c =
    let p = c.prepare-prepared.ensures in
    answer_done _ (load_passed p.loads c.in-Ok.is) (record {
      says = rw c.compiled-job.ensures.0 at c.verdict.ensures;
      list = prepared_list p c.in-Ok.is;
    })
