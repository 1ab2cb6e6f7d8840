-- The numbers by which operations refuse, as documents 01 and 02 have them.
use Rattle.std.specs.Prelude.{ℕ, ◌≤◌, ◌≡◌, true, IsSome, ◌↔◌, ◌⊎◌}
use Rattle.load.specs.Refusals.{Handed}

-- one of the numbers from 1 to the last
abbrev pub UpTo : ℕ → ℕ → Type 0
UpTo last number = (1 ≤ number) × (number ≤ last)

-- a job text: 1 to 3, of its lines; 8, of a variable; 4, of its compiled job
pub data JobNumber : ℕ → Type 0 where
  of_line : {number : ℕ} → UpTo 3 number → JobNumber number
  of_variable : JobNumber 8
  of_size : JobNumber 4

-- the texts: those; 7 where a costs text is given; 5 where there is a plan text
pub data TextNumber (h : Handed) : ℕ → Type 0 where
  of_job : {number : ℕ} → JobNumber number → TextNumber h number
  of_costs : h.request.given.costs ≡ true → TextNumber h 7
  of_plan : IsSome h.request.plan → TextNumber h 5

-- and 6, of a list or a table; that of an output has the same number
pub data LoadNumber (h : Handed) : ℕ → Type 0 where
  of_text : {number : ℕ} → TextNumber h number → LoadNumber h number
  too_short : LoadNumber h 6

-- the number that a call from outside gives back: 0 just where nothing is refused, and otherwise
-- one of these numbers
pub record CallNumber (Refusal : ℕ → Type 0) (Passes : Type 0) (number : ℕ) : Type 0 where
  pub zero_iff : (number ≡ 0) ↔ Passes
  pub otherwise : (number ≡ 0) ⊎ Refusal number
