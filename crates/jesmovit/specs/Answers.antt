-- What the checks, the least cost and the judge promise of their outcome and of what they are lent;
-- reading and compiling are equations.
use Rattle.std.specs.Prelude.{ℕ}
use Rattle.load.specs.Refusals.{Checked, passed, refused}

-- What the operation does holds of what passes all reasons, of the outcome, and of the lists lent,
-- before and after. Otherwise "A refusal returns its number and place and changes no list or
-- table."
pub data Answers {A B C : Type 0} (Does : A → B → C → C → Type 0) (old : C) : Checked A → Checked B → C → Type 0 where
  does : {a : A} {b : B} {new : C} → Does a b old new → Answers Does old (passed a) (passed b) new
  refuses : {number place : ℕ} → Answers Does old (refused number place) (refused number place) old
