use Rattle.std.proofs.Common.{◌≡◌, sym, ◌∙◌, arith}
use Rattle.laws.proofs.Tests.{never}
use Rattle.domain.specs.Domain.{domain_at}
use Rattle.compiled.proofs.ReadyLaws.{last_final}
use Rattle.search.specs.Filling.{kept, lower}
use Rattle.search.proofs.LowestLaws.{lowest_more, goal_of}
use Rattle.search.proofs.least.least_entry.Goals as goal
use Rattle.search.proofs.least.least_entry.Goals.{then-x-least+then-goal_holds, else-x-least, else-x-least-via-then-x-least+else-goal_holds, else-x-least-via-else-x-least}

pub loop-state-preserved : goal.loop-state-preserved
loop-state-preserved c =
    elim c.if-x-least.branch [
      | then-x-least+then-goal_holds w ↦
          rw w.least-is (lowest_more _ c.loop-state.invariant (lower (sym (goal_of w.at.result w.at.ensures.0 w.at.ensures.1 w.goal_holds.ensures) ∙ w.if-goal_holds.true) (omega arith)))
      | else-x-least w ↦ elim w.else-x-least.branch [
        | else-x-least-via-then-x-least+else-goal_holds u ↦
            rw w.least-is (lowest_more _ c.loop-state.invariant (kept (λ g. never (sym u.if-goal_holds.false ∙ goal_of u.at.result u.at.ensures.0 u.at.ensures.1 u.goal_holds.ensures ∙ g))))
        | else-x-least-via-else-x-least u ↦ rw w.least-is (lowest_more _ c.loop-state.invariant (kept (λ g. omega (arith, u.if-x-least.false))))
      ]
    ]

pub returns : goal.returns
returns c =
    let j = c.args.job.now in
    let all : c.loop-state.state ≡ (domain_at j.task).states = omega (arith, j.counted) in
    rw (last_final j.ready, all) at c.loop-state.invariant
