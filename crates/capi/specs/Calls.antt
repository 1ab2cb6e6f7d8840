-- What a call from outside gives: "every operation offered outside states what it answers and what
-- each list and table holds afterwards".
use Rattle.std.specs.Prelude.{ℕ, ◌≡◌, List}
use Rattle.capi.specs.declared.numbers.Numbers.{Numbers}

-- the number given back and the five written are those of an answer of which the operation's
-- promise holds
pub record Gives {A : Type 0} (numbers : A → Numbers) (promised : A → Type 0) (number : ℕ) (values : List ℕ) : Type 0 where
  pub answer : A
  pub holds : promised answer
  pub number_is : number ≡ (numbers answer).number
  pub values_are : values ≡ (numbers answer).values
