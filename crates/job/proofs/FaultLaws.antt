-- Laws of the reason that refuses a line.
-- Assumes nothing.
use Rattle.std.proofs.Common.{◌≡◌, Bool, true, false, Option, Some, None, List, ℕ, ◌≤◌, ◌<◌, length, get_or, arith}
use Rattle.laws.proofs.Tests.{cond_has}
use Rattle.job.specs.Refusal.{number_of}
use Rattle.job.specs.Fault.{range_of, is_in, criteria, first_reason, reason_of, fault}
use Rattle.job.specs.ReadJob.{begun}
use Rattle.job.specs.Store.{width, numbers_of}
use Rattle.job.specs.declared.head.Counts.{Counts}
use Rattle.job.specs.declared.line.Line.{Line}
use Rattle.job.specs.declared.line.Line.TheVariants.{One, Of, End}
use Rattle.job.specs.declared.line.Heading.{Heading}
use Rattle.job.specs.declared.line.Heading.TheVariants.{Job, Facts, Init, Formulas, Moves, Goal, Objects, Program}
use Rattle.job.proofs.FrontLaws.{line_front}

-- a line of one number is refused by reason 1, 2 or 3
pub range_reason : (h : Heading) (c : Counts) → (0 < number_of (range_of h c).reason) × (number_of (range_of h c).reason ≤ 3)
range_reason Job c = omega arith
range_reason Facts c = omega arith
range_reason Init c = omega arith
range_reason Formulas c = omega arith
range_reason Moves c = omega arith
range_reason Goal c = omega arith
range_reason Objects c = omega arith
range_reason Program c = omega arith

row_small : (range fields : Bool) → first_reason (record { range = range; fields = fields }) ≤ 3
row_small true true = omega arith
row_small true false = omega arith
row_small false true = omega arith
row_small false false = omega arith

reason_small : (next : Line) (c : Counts) (r : List ℕ) → reason_of next c r ≤ 3
reason_small (One h) c r = cond_has (λ n. n ≤ 3) (is_in (range_of h c) (get_or r 0 0)) 0 _ (λ e. omega arith) (λ e. (range_reason h c).1)
reason_small (Of k) c r = row_small (criteria k c r).range (criteria k c r).fields
reason_small End c r = omega arith

-- and so is every line
pub fault_small : (next : Line) (c : Counts) (o : Option (List ℕ)) → fault next c o ≤ 3
unfolding fault
fault_small next c None = omega arith
fault_small next c (Some r) = reason_small next c r

-- a line is judged by no more numbers than it has
module _ (next : Line) (c : Counts) {line : Option (List ℕ)} where
  pub fault_of : (r : List ℕ) → line ≡ Some r → length r ≡ width → fault next c (numbers_of next line) ≡ reason_of next c r
  unfolding fault
  fault_of r e l = rw e (line_front c begun next r l).0

  pub fault_none : line ≡ None → fault next c (numbers_of next line) ≡ 1
  unfolding fault
  fault_none e = rw e
