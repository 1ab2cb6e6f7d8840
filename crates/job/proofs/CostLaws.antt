-- Class costs: no house number is above 3,600, let alone the greatest cost; costs written into a
-- store are those that it holds, and leave its job as it was.
-- Assumes nothing.
use Prim.Native.Nat.{ℕ, ◌+◌, ◌≤◌}
use mathlib.Core.Path.{◌≡◌, refl, sym, ◌∙◌, ap}
use mathlib.Core.List.{List, ◌++◌}
use native.Mathlib.Omega.{arith}
use native.Mathlib.Decide.{dec_lt}
use lib.Dec.{leb}
use lib.ListN.{length, get_or, take, drop, length-append, get_or-eq_default}
use lib.Seq.{sets, sets-eq, length-sets, length-take-le, take_at, drop_at, drop-append-le, get_or-take, get_or-drop}
use borrow.Author.Tests.{leb-true}
use Rattle.laws.proofs.Tables.{entry_passes}
use Rattle.laws.proofs.Lists.{get_d_sets_before}
use Rattle.limits.specs.Limits.{last_class, class_count}
use Rattle.job.specs.Job.{formula_of, effect_of, row_of}
use Rattle.job.specs.Task.{house_costs, class_cost, CostsWithin}
use Rattle.job.specs.Store.{formulas_from, moves_from, effects_from, program_from, stored_move, costs_from, store_size, job_of, stored_costs}
use Rattle.job.specs.WellFormed.{WellFormed}
use Rattle.job.specs.Stored.{Stored}
use Rattle.job.specs.declared.head.Head.{Head}
use Rattle.job.proofs.StoreLaws.{rows_same}
use Rattle.job.proofs.StoredLaws.{formula_count, move_count, effect_count_lem, row_count_lem}

-- "its upper bound 3,600 proved once": by one test of the table
pub house_most : (class : ℕ) → class_cost house_costs class ≤ 3600
unfolding class_cost
house_most class = elim (dec_lt class (length house_costs)) [
  | yes h ↦ leb-true (get_or house_costs class 0) 3600 (entry_passes (λ k x. leb x 3600) house_costs refl class h)
  | no h ↦ omega (arith, get_or-eq_default house_costs 0 {n = class} (omega arith))
]

pub house_within : CostsWithin house_costs
house_within class = omega (arith, house_most class)

-- where a class's cost stands
pub cost_at : (l : List ℕ) (class : ℕ) → class ≤ last_class → get_or l (costs_from + class) 0 ≡ class_cost (stored_costs l) class
unfolding class_cost
cost_at l class h = sym (get_or-take class_count (drop costs_from l) class 0 (omega arith) ∙ get_or-drop costs_from l class 0)

module _ (l costs : List ℕ) (sixteen : length costs ≡ class_count) (size : length l ≡ store_size) where
  abbrev put : List ℕ
  put = sets l costs_from costs

  pub costs_put : stored_costs put ≡ costs
  costs_put =
      let front : List ℕ = take costs_from l in
      let back : List ℕ = drop (costs_from + length costs) l in
      let n : length front ≡ costs_from = length-take-le costs_from l (omega arith) in
      ap (λ (q : List ℕ). take class_count (drop costs_from q)) (sets-eq costs l costs_from (omega arith))
      ∙ ap (take class_count) (drop-append-le costs_from (front ++ costs) back (omega (arith, length-append front costs)))
      ∙ ap (λ (q : List ℕ). take class_count (q ++ back)) (drop_at front costs costs_from n)
      ∙ take_at costs back class_count sixteen

  module _ (h : Head) (w : WellFormed (job_of h l)) where
    pub job_kept : job_of h put ≡ job_of h l
    job_kept =
        rw (
          rows_same formula_of put l formulas_from h.counts.formulas
              (λ k p q. get_d_sets_before 0 costs l costs_from k (omega (arith, w.formulas, formula_count h l))),
          rows_same stored_move put l moves_from h.counts.moves (λ k p q. get_d_sets_before 0 costs l costs_from k (omega (arith, w.moves, move_count h l))),
          rows_same effect_of put l effects_from h.counts.effects
              (λ k p q. get_d_sets_before 0 costs l costs_from k (omega (arith, w.effects, effect_count_lem h l))),
          rows_same row_of put l program_from h.counts.program
              (λ k p q. get_d_sets_before 0 costs l costs_from k (omega (arith, w.program, row_count_lem h l))),
        )

    pub costs_stored : CostsWithin costs → Stored h put
    costs_stored c = record { size = length-sets l costs_from costs ∙ size; job = rw job_kept w; costs = rw costs_put c }
