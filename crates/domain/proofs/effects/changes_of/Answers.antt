use Rattle.std.proofs.Common.{◌+◌, rules, tests, arith, ap}
use Rattle.job.specs.Job.{Effect}
use Rattle.job.specs.StoredTask.{stored_job}
use Rattle.job.proofs.StoredLaws.{effect_count_lem, effect_fact}
use Rattle.domain.proofs.EffectLaws.{changed_none, changed_more}
use Rattle.domain.proofs.effects.changes_of.Goals as goal

pub loop-k-init : goal.loop-k-init
loop-k-init c =
    let t = c.args.task.now in
    changed_none t.head.counts.facts c.args.values.now (stored_job t).effects c.args.made.first

pub loop-k-preserved : goal.loop-k-preserved
loop-k-preserved c =
    let t = c.args.task.now in
    let n = effect_count_lem t.head t.rows.now in
    let k = c.args.made.first + c.loop-k.k in
    let small = effect_fact t.stored k (omega arith) in
    changed_more t.head.counts.facts c.args.values.now (stored_job t).effects c.args.made.first c.loop-k.k (omega arith)
    c.effect_at-effect.ensures (rw (ap (λ (e : Effect). e.fact) c.effect_at-effect.ensures) small) (search (rules, tests)) _ _ _ _ c.loop-k.invariant
    c.fact_where-cleared.ensures c.fact_where-set.ensures
