-- The verdict on a list of moves as a function: "the set of positions that the recipe may be at",
-- one mark a position, and "each move turns it into the next set".
use Rattle.std.specs.Prelude.{ℕ, zero, suc, ◌≡◌, Bool, true, false, not, ◌&&◌, ◌||◌, cond, List, [], ◌∷◌, eqb, length, get_or, set, replicate}
use Rattle.std.specs.Prelude.{Option, None, Some}
use Rattle.semantics.specs.Label.{Label, noop, holds, fails, make}
use Rattle.semantics.specs.Program.{Program}
use Rattle.semantics.specs.Domain.{Domain}
use Rattle.semantics.specs.CompilingTable.{Step, arc, compiled_steps, final_position}
use Rattle.semantics.specs.Verdict.{Verdict}
use Rattle.semantics.specs.Machine.{Arrival, Machine, verdict_from}

-- T with the ends marked of all steps that pass the test and start at a mark of S
unfoldable pub spread : (Label → Bool) → List Step → List Bool → List Bool → List Bool
spread on [] S T = T
spread on (arc l p q ∷ L) S T = spread on L S (cond (on l && get_or S p false) (set T q true) T)

-- so many rounds of it
unfoldable pub close : (Label → Bool) → List Step → ℕ → List Bool → List Bool
close on L zero S = S
close on L (suc k) S = close on L k (spread on L S S)

-- all that the steps lead to: as many rounds as there are positions
abbrev pub closure : (Label → Bool) → List Step → List Bool → List Bool
closure on L S = close on L (length S) S

-- the labels of silent steps that can be made in a state
unfoldable pub silent_in : Domain → ℕ → Label → Bool
silent_in D s noop = true
silent_in D s (holds a) = D.holds a s
silent_in D s (fails a) = not (D.holds a s)
silent_in D s (make a) = false

unfoldable pub is_move : ℕ → Label → Bool
is_move m noop = false
is_move m (holds a) = false
is_move m (fails a) = false
is_move m (make a) = eqb a m

-- position p is in the set
abbrev pub Marked : List Bool → ℕ → Type 0
Marked S p = get_or S p false ≡ true

unfoldable pub any_mark : List Bool → Bool
any_mark [] = false
any_mark (b ∷ S) = b || any_mark S

-- how many marks there are
unfoldable pub count : List Bool → ℕ
count [] = 0
count (true ∷ S) = suc (count S)
count (false ∷ S) = count S

-- position 0 of n, and what silent steps lead to from it
unfoldable pub first_set : Domain → List Step → ℕ → ℕ → List Bool
first_set D L n s = closure (silent_in D s) L (set (replicate n false) 0 true)

-- the positions after move m from those of S, in the state t that it leads to
unfoldable pub next_set : Domain → List Step → ℕ → ℕ → List Bool → List Bool
next_set D L t m S = closure (silent_in D t) L (spread (is_move m) L S (replicate (length S) false))

-- what the program may be at: one state, and a set of positions
pub record Configurations : Type 0 where
  pub state : ℕ
  pub marks : List Bool

-- move m made there; none where it is not applicable, or no position is left
unfoldable pub move_on : Domain → List Step → Configurations → ℕ → Option (Arrival Configurations)
move_on D L c m = elim (D.successor m c.state) [
  | None ↦ None
  | Some t ↦ cond (any_mark (next_set D L t m c.marks))
      (Some (record { to = record { state = t; marks = next_set D L t m c.marks }; cost = D.cost m c.state })) None
]

-- e is the final position
abbrev pub set_machine : Domain → List Step → ℕ → Machine
set_machine D L e = record {
  Config = Configurations;
  take = move_on D L;
  state = λ c. c.state;
  complete = λ c. get_or c.marks e false;
}

-- by sets of n marks; any n above the final position gives the same
unfoldable pub verdict_by : ℕ → Domain → Program → List ℕ → Verdict
verdict_by n D σ ms =
    let L = compiled_steps D σ in
    verdict_from D (set_machine D L (final_position D σ)) (record { state = D.start; marks = first_set D L n D.start }) ms
