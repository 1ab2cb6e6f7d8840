-- What the code's progress through a value stands for, beside the list that it fills.
use Rattle.std.specs.Prelude.{ℕ, ◌≤◌, ◌≡◌, Bool, true, false, List, length, take}
use Rattle.std.specs.Prelude.{Option, None, Some}
use Rattle.text.specs.Numbers.{PartialValue, start, digits, done, broken}
use Rattle.text.specs.declared.numbers.Progress.{Progress}
use Rattle.text.specs.declared.numbers.Progress.TheVariants.{Start, Digits, Done, Broken}

abbrev pub partial_of : Progress → List ℕ → PartialValue
partial_of (Start k) out = start (take k out)
partial_of (Digits k n) out = digits (take k out) n
partial_of Done out = done out
partial_of Broken out = broken

-- how many numbers are complete, as far as more are to come
abbrev pub complete_count : Progress → ℕ
complete_count (Start k) = k
complete_count (Digits k n) = k
complete_count Done = 0
complete_count Broken = 0

-- the value goes on from k complete numbers, whatever they are
pub record Goes (k : ℕ) (r : Progress) (next : List ℕ → PartialValue) : Type 0 where
  pub reads : (out : List ℕ) → partial_of r out ≡ next (take k out)
  pub within : complete_count r ≤ k

-- the value after one byte more, and the list then
pub record After (r : Progress) (out : List ℕ) (next : PartialValue) : Type 0 where
  pub reads : partial_of r out ≡ next
  pub within : complete_count r ≤ length out

-- the answer's two cases: the list holds the numbers; the form is wrong
abbrev pub answered : Bool → List ℕ → Option (List ℕ)
answered true out = Some out
answered false out = None
