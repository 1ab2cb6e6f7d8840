use mathlib.Core.Path.{refl}
use Rattle.jesmovit.proofs.AnswerLaws.{answer_done}
use Rattle.jesmovit.proofs.LoadedLaws.{load_passed, load_cells, load_entries, prepared_refused, prepared_list, prepared_front}
use Rattle.jesmovit.proofs.judging.judge.Goals as goal

pub returns-in_default : goal.returns-in_default
returns-in_default c =
    prepared_refused c.prepare-prepared.ensures (λ l. record { list = l; table = c.args.table.now }) c.unwrap_err.ensures

pub compiled-job-requires : goal.compiled-job-requires
compiled-job-requires c = prepared_front c.prepare-prepared.ensures c.in-Ok.is refl

pub judge_entries-requires-clause-entries_below : goal.judge_entries-requires-clause-entries_below
judge_entries-requires-clause-entries_below c =
    rw c.compiled-job.ensures.0 (load_entries c.prepare-prepared.ensures.loads c.in-Ok.is refl)

pub judge_entries-requires-clause-room : goal.judge_entries-requires-clause-room
judge_entries-requires-clause-room c =
    let j = c.in-Ok.offer.job in
    rw (c.compiled-job.ensures.0, c.compiled-job.ensures.1, j.sized.positions) (load_cells c.prepare-prepared.ensures.loads c.in-Ok.is refl)

pub returns : goal.returns
returns c =
    let p = c.prepare-prepared.ensures in
    let s = c.in-Ok.offer.job.sized in
    answer_done _ (load_passed p.loads c.in-Ok.is) (record {
      sized = rw (s.positions, s.steps) refl;
      list = prepared_list p c.in-Ok.is;
      found = rw c.compiled-job.ensures.0 at c.judge_entries.ensures;
    })
