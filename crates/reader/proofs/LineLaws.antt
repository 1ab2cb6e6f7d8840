-- Laws of a line's numbers.
-- Assumes nothing.
use Rattle.std.proofs.Common.{ℕ, ◌≡◌, Bool, true, false, Some, List, take, ap, refl}
use Rattle.std.specs.Bool.{then_some}
use Rattle.text.specs.Progress.{answered}
use Rattle.job.specs.Line.{form_of}
use Rattle.job.specs.Store.{numbers_of}
use Rattle.job.specs.declared.line.Line.{Line}

-- the numbers of a line, as the fill answered
pub numbers_answered : (next : Line) (r out : List ℕ) (formed : Bool) → take (form_of next).width r ≡ out
    → numbers_of next (then_some formed r) ≡ answered formed out
numbers_answered next r out true e = ap Some e
numbers_answered next r out false e = refl
