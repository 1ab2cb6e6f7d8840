use mathlib.Core.Path.{refl}
use Rattle.jesmovit.proofs.AnswerLaws.{answer_done}
use Rattle.jesmovit.proofs.LoadedLaws.{load_passed, load_cells, prepared_refused, prepared_list, prepared_front}
use Rattle.jesmovit.proofs.CostLaws.{table_of, lowest_is}
use Rattle.jesmovit.proofs.judging.least_cost.Goals as goal

pub returns-in_default : goal.returns-in_default
returns-in_default c =
    prepared_refused c.prepare-prepared.ensures (λ l. record { list = l; table = c.args.table.now }) c.unwrap_err.ensures

pub compiled-job-requires : goal.compiled-job-requires
compiled-job-requires c = prepared_front c.prepare-prepared.ensures c.in-Ok.is refl

pub least_cost-requires : goal.least_cost-requires
least_cost-requires c =
    let j = c.in-Ok.offer.job in
    rw (c.compiled-job.ensures.0, c.compiled-job.ensures.1, j.sized.positions) (load_cells c.prepare-prepared.ensures.loads c.in-Ok.is refl)

pub returns : goal.returns
returns c =
    let p = c.prepare-prepared.ensures in
    let filled = rw (c.compiled-job.ensures.0, c.compiled-job.ensures.1) at c.least_cost.ensures.filled in
    let least = rw c.compiled-job.ensures.0 at c.least_cost.ensures.least in
    answer_done _ (load_passed p.loads c.in-Ok.is) (record {
      is = lowest_is _ least;
      list = prepared_list p c.in-Ok.is;
      table = table_of c.in-Ok.offer.job.sized.positions filled;
    })
